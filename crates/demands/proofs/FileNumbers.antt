-- The number that the reader's tests and those of a polygon and its tables give is the first that is due on a call with a file, whichever tables are lent
-- (rule 4.31). Assumes nothing.
use mathlib.Core.Path.{◌≡◌, refl, sym, ap, ◌∙◌, subst}
use mathlib.Core.Bool.{Bool, true}
use mathlib.Core.List.{List}
use Prim.Native.Nat.{ℕ, zero, suc}
use native.Mathlib.Omega.{arith}
use borrow.Author.Tests.{eq-eqb}
use lib.Dec.{eqb}
use Rattle.std.specs.Prelude.{IsOk, is_ok}
use Rattle.codes.specs.Refusals.{or_refused}
use Rattle.lists.proofs.Choice.{Truth, holds, fails, truth, yes, no, true_not_false}
use Rattle.polygon.specs.declared.Polygon.{Polygon}
use Rattle.polygon.specs.Polygon.{code_of, ValidPolygon, empty_polygon}
use Rattle.polygon.proofs.Validity.{valid_code}
use Rattle.terms.specs.Numbers.{first_due}
use Rattle.rim_file.specs.File.{Bytes}
use Rattle.reader.specs.Order.{FilePlace, rim, Precedes, by_number, by_place, First, NoneDue}
use Rattle.reader.specs.Due.{FileDue}
use Rattle.reader.specs.Reading.{polygon_of, reading_of}
use Rattle.reader.specs.Reading as reader
use Rattle.reader.proofs.Order.{none_first, Verdict, first_due_lem, none_due}
use Rattle.reader.proofs.FirstNumber.{number_first}
use Rattle.reader.proofs.Demand1.{read_only_when, refused_empty}
use Rattle.reader.proofs.Accepted.{complete_polygon, read_valid}
use Rattle.delaunay.specs.Candidates.{degenerate}
use Rattle.finder.specs.Finding.{number_due}
use Rattle.demands.specs.Candidates.{Degenerate, by_sphere, by_circle}
use Rattle.demands.specs.Demand1.{polygon_in, FileCallDue, by_reader, twelve, thirteen}
use Rattle.demands.proofs.Candidates.{degenerate_true, true_degenerate}

-- nothing is asked of the polygon that stands for a file which the reader refuses
nothing_12 : Degenerate empty_polygon → ⊥
nothing_12 (by_sphere r) = omega (arith, r.fifth<n)
nothing_12 (by_circle r) = omega (arith, r.fourth<n)

-- 12 comes after the reader's numbers
pub twelve_first : (limit : ℕ) (file : List ℕ) (Short : Type 0) → NoneDue (FileDue limit file) → Degenerate (polygon_in limit file) →
    First (FileCallDue limit file Short) 12
twelve_first limit file Short none d = record { place = rim; is_due = twelve d; none_before = before }
  where
    before : (p : FilePlace) (j : ℕ) → Precedes p j rim 12 → FileCallDue limit file Short p j → ⊥
    before p j h (by_reader d) = none.none p j d
    before _ _ (by_number l) (twelve d) = omega arith
    before _ _ (by_number l) (thirteen d) = omega arith
    before _ _ (by_place x) (twelve d) = elim x [ ]
    before _ _ (by_place x) (thirteen d) = elim x [ ]

-- what a file that is read has
module _ (limit : ℕ) (file : List ℕ) (e : reader.number_due limit file ≡ 0) where
  complete : IsOk (reading_of limit file)
  complete = ap (λ (k : ℕ). is_ok (or_refused k (polygon_of file))) e

  pub polygon_is : polygon_in limit file ≡ polygon_of file
  polygon_is = complete_polygon limit file complete

  pub polygon_valid : Bytes file → ValidPolygon (polygon_in limit file)
  polygon_valid bytes = read_valid limit file complete bytes

-- the tables of the call, of each polygon as a statement and as a test; for the empty polygon they are never too short
module _ (limit : ℕ) (file : List ℕ) (bytes : Bytes file) (Short : Polygon → Type 0) (short : Polygon → Bool)
    (is-short : (p : Polygon) → short p ≡ true → Short p) (short-is : (p : Polygon) → Short p → short p ≡ true) (nothing_13 : Short empty_polygon → ⊥) where
  abbrev Due : FilePlace → ℕ → Type 0
  Due = FileCallDue limit file (Short (polygon_in limit file))

  abbrev number : ℕ
  number = first_due (reader.number_due limit file) (number_due (short (polygon_of file)) (polygon_of file))

  -- the reader's numbers come first
  reader_first : (k : ℕ) → First (FileDue limit file) (suc k) → First Due (suc k)
  reader_first k f = record { place = f.place; is_due = by_reader f.is_due; none_before = before }
    where
      empty : polygon_in limit file ≡ empty_polygon
      empty = refused_empty limit file (suc k) f

      before : (p : FilePlace) (j : ℕ) → Precedes p j f.place (suc k) → Due p j → ⊥
      before p j h (by_reader d) = f.none_before p j h d
      before p j h (twelve d) = nothing_12 (subst (λ (x : Polygon). Degenerate x) empty d)
      before p j h (thirteen d) = nothing_13 (subst Short empty d)

  -- a file that is read: 12, 13 or none
  module _ (e : reader.number_due limit file ≡ 0) where
    no_reader : (p : FilePlace) (k : ℕ) → FileDue limit file p k → ⊥
    no_reader p k d = (read_only_when limit file (complete limit file e)).none p k d

    number_is : number ≡ number_due (short (polygon_in limit file)) (polygon_in limit file)
    number_is =
        ap (λ (k : ℕ). first_due k (number_due (short (polygon_of file)) (polygon_of file))) e
        ∙ ap (λ (p : Polygon). number_due (short p) p) (sym (polygon_is limit file e))

    no_code : eqb (code_of (polygon_in limit file)) 0 ≡ true
    no_code = eq-eqb (code_of (polygon_in limit file)) 0 (valid_code (polygon_in limit file) (polygon_valid limit file e bytes))

    read_verdict : Truth (degenerate (polygon_in limit file)) → Truth (short (polygon_in limit file)) → Verdict Due number
    unfolding number_due
    read_verdict (holds a) b =
        first_due_lem 11 (twelve_first limit file _ (read_only_when limit file (complete limit file e)) (degenerate_true (polygon_in limit file) a))
        (number_is ∙ yes _ _ no_code ∙ yes _ _ a)
    read_verdict (fails a) (holds b) =
        first_due_lem 12 (record { place = rim; is_due = thirteen (is-short (polygon_in limit file) b); none_before = before })
        (number_is ∙ yes _ _ no_code ∙ no _ _ a ∙ yes _ _ b)
      where
        before : (p : FilePlace) (j : ℕ) → Precedes p j rim 13 → Due p j → ⊥
        before p j h (by_reader d) = no_reader p j d
        before p j h (twelve d) = true_not_false (true_degenerate (polygon_in limit file) d) a
        before _ _ (by_number l) (thirteen d) = omega arith
        before _ _ (by_place x) (thirteen d) = elim x [ ]
    read_verdict (fails a) (fails b) = none_due (record { none = nothing }) (number_is ∙ yes _ _ no_code ∙ no _ _ a ∙ no _ _ b)
      where
        nothing : (p : FilePlace) (k : ℕ) → Due p k → ⊥
        nothing p k (by_reader d) = no_reader p k d
        nothing p k (twelve d) = true_not_false (true_degenerate (polygon_in limit file) d) a
        nothing p k (thirteen d) = true_not_false (short-is (polygon_in limit file) d) b

  pub file_verdict : Verdict (FileCallDue limit file (Short (polygon_in limit file)))
      (first_due (reader.number_due limit file) (number_due (short (polygon_of file)) (polygon_of file)))
  file_verdict = by (reader.number_due limit file) refl
    where
      by : (k : ℕ) → reader.number_due limit file ≡ k → Verdict Due number
      by zero e = read_verdict e (truth (degenerate (polygon_in limit file))) (truth (short (polygon_in limit file)))
      by (suc k) e =
          first_due_lem k (reader_first k (number_first limit file k e))
          (ap (λ (j : ℕ). first_due j (number_due (short (polygon_of file)) (polygon_of file))) e)

  -- where no number is due the reader reads the file
  pub none_read : NoneDue (FileCallDue limit file (Short (polygon_in limit file))) → reader.number_due limit file ≡ 0
  none_read n = by (reader.number_due limit file) refl
    where
      by : (k : ℕ) → reader.number_due limit file ≡ k → reader.number_due limit file ≡ 0
      by zero e = e
      by (suc k) e = absurd (none_first n (reader_first k (number_first limit file k e)))
