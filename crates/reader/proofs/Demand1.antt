-- Demand 1 for rim files read with a limit, numbers 1 to 11, 14, 18 and 20 (rules 4.31, 4.33): a file is read exactly when no number is due, and the number
-- that is given is exactly the first that is due. Assumes nothing.
use mathlib.Core.Path.{◌≡◌, refl, sym, ap, ◌∙◌}
use mathlib.Core.Bool.{false}
use mathlib.Core.List.{List}
use mathlib.Core.Logic.{◌⊎◌}
use Prim.Native.Nat.{ℕ, zero, suc}
use Rattle.std.specs.Prelude.{Err, IsOk, is_ok}
use Rattle.codes.specs.Refusals.{refusal, number_of, or_refused}
use Rattle.codes.proofs.Refusals.{number_answered, ok_answered}
use Rattle.polygon.specs.Polygon.{empty_polygon}
use Rattle.rim_file.specs.File.{is_edition2}
use Rattle.reader.specs.Order.{First, NoneDue}
use Rattle.reader.specs.Due.{FileDue}
use Rattle.reader.specs.Reading.{number_due, polygon_of, reading_of, polygon_in}
use Rattle.reader.proofs.Normals.{no_18_in_edition_1}
use Rattle.reader.proofs.Order.{none_first, Verdict, first_due_lem, none_due, verdict_either, verdict_first, verdict_given, verdict_zero, verdict_none}
use Rattle.reader.proofs.FirstNumber.{Read, number_first, no_number_read, read_none}

module _ (limit : ℕ) (s : List ℕ) where
  -- the answer's number is that of the tests
  pub number_is : number_of (reading_of limit s) ≡ number_due limit s
  number_is = number_answered (number_due limit s) (polygon_of s)

  pub complete_read : IsOk (reading_of limit s) → Read limit s
  complete_read e = no_number_read limit s (ok_answered (number_due limit s) (polygon_of s) e)

  pub verdict : Verdict (FileDue limit s) (number_due limit s)
  verdict = by (number_due limit s) refl
    where
      by : (k : ℕ) → number_due limit s ≡ k → Verdict (FileDue limit s) (number_due limit s)
      by zero e = none_due (read_none limit s (no_number_read limit s e)) e
      by (suc k) e = first_due_lem k (number_first limit s k e) e

  -- there is a first number due, or none is due
  pub first_or_none : ((k : ℕ) × First (FileDue limit s) k) ⊎ NoneDue (FileDue limit s)
  first_or_none = verdict_either verdict

  -- the file is read exactly when no number is due
  pub read_when : NoneDue (FileDue limit s) → IsOk (reading_of limit s)
  read_when none = ap (λ (k : ℕ). is_ok (or_refused k (polygon_of s))) (verdict_zero verdict none)

  pub read_only_when : IsOk (reading_of limit s) → NoneDue (FileDue limit s)
  read_only_when e = read_none limit s (complete_read e)

  -- the number that is given is exactly the first that is due; the polygon is then the empty one
  pub given_first : (k : ℕ) → number_of (reading_of limit s) ≡ suc k → First (FileDue limit s) (suc k)
  given_first k e = verdict_given verdict (sym number_is ∙ e)

  -- 18 is given to no file of edition 1 (rule 4.18)
  pub edition_1_not_18 : is_edition2 s ≡ false → number_of (reading_of limit s) ≡ 18 → ⊥
  edition_1_not_18 e d = let f = given_first 17 d in no_18_in_edition_1 limit s e f.place f.is_due

  pub first_given : (k : ℕ) → First (FileDue limit s) k → number_of (reading_of limit s) ≡ k
  first_given k f = number_is ∙ verdict_first verdict f

  -- as an answer without a polygon
  pub first_refused : (k : ℕ) → First (FileDue limit s) k → reading_of limit s ≡ Err (refusal k)
  first_refused zero f = absurd (none_first (verdict_none verdict (verdict_first verdict f)) f)
  first_refused (suc k) f = ap (λ (i : ℕ). or_refused i (polygon_of s)) (verdict_first verdict f)

  pub refused_empty : (k : ℕ) → First (FileDue limit s) k → polygon_in (reading_of limit s) ≡ empty_polygon
  refused_empty k f = ap polygon_in (first_refused k f)
