-- Demand 1 for rim files (rules 4.30 to 4.33), whatever the limit: of the numbers due on a limit, a file and its tables one is the first, or none is due;
-- the one call gives exactly that number and changes no table, and ends in a patch or 'none' exactly where none is due. Assumes nothing.
use mathlib.Core.Path.{◌≡◌, refl, sym, ap, ◌∙◌, subst}
use mathlib.Core.Bool.{true}
use mathlib.Core.List.{List}
use mathlib.Core.Logic.{◌⊎◌}
use Prim.Native.Nat.{ℕ, zero, suc}
use native.Mathlib.Omega.{arith}
use borrow.Author.Tests.{ltb-true, lt-ltb}
use lib.Dec.{ltb}
use lib.ListN.{length}
use Rattle.triangulator.specs.Call.{Outcome}
use Rattle.codes.specs.Refusals.{number_of}
use Rattle.lists.specs.Lists.{up_from}
use Rattle.lists.proofs.Choice.{Truth, holds, fails, truth, no, either_left, either_right}
use Rattle.polygon.specs.declared.Polygon.{Polygon}
use Rattle.polygon.specs.Polygon.{ValidPolygon, empty_polygon}
use Rattle.rim_file.specs.File.{Bytes}
use Rattle.reader.specs.Order.{First, NoneDue}
use Rattle.reader.specs.Reading.{polygon_of}
use Rattle.reader.proofs.Order.{none_first, Verdict, verdict_either, verdict_first, verdict_given, verdict_zero, verdict_none}
use Rattle.delaunay.specs.Candidates.{candidates_of}
use Rattle.finder.specs.Sizes.{places_of}
use Rattle.triangulation.specs.Triangulations.{best}
use Rattle.triangulator.specs.Demands.{Taken, a_patch, a_none}
use Rattle.triangulator.proofs.Demands.{never_refused, settled_taken}
use Rattle.pipeline.specs.Patching.{Tables, Patching, refused, rows_in, problem_in, tables_short, patched, patch_by, file_number, patch_file}
use Rattle.demands.specs.Demand1.{polygon_in, TooShort, triangles, candidates, weights, rows, work, CallDue}
use Rattle.demands.proofs.FileNumbers.{polygon_is, polygon_valid, file_verdict, none_read}

-- ---- 13, as a test and as a statement
module _ (p : Polygon) (t : Tables) where
  pub short_true : tables_short p t ≡ true → TooShort (places_of p) t
  unfolding tables_short
  short_true e =
      by (truth (ltb (length t.triangles) (places_of p).triangles)) (truth (ltb (length t.work) (length (candidates_of p))))
      (truth (ltb (length t.candidates) (length (candidates_of p)))) (truth (ltb (length t.weights) (length (candidates_of p))))
    where
      by : Truth (ltb (length t.triangles) (places_of p).triangles) → Truth (ltb (length t.work) (length (candidates_of p))) →
          Truth (ltb (length t.candidates) (length (candidates_of p))) →
          Truth (ltb (length t.weights) (length (candidates_of p))) → TooShort (places_of p) t
      by (holds a) b c d = triangles (ltb-true _ _ a)
      by (fails a) (holds b) c d = work (ltb-true _ _ b)
      by (fails a) (fails b) (holds c) d = candidates (ltb-true _ _ c)
      by (fails a) (fails b) (fails c) (holds d) = weights (ltb-true _ _ d)
      by (fails a) (fails b) (fails c) (fails d) = rows (ltb-true (length t.rows) (length (rows_in p)) (sym (no _ _ a ∙ no _ _ b ∙ no _ _ c ∙ no _ _ d) ∙ e))

  pub true_short : TooShort (places_of p) t → tables_short p t ≡ true
  unfolding tables_short
  true_short (triangles h) = either_left _ _ (lt-ltb _ _ h)
  true_short (work h) = either_right (ltb (length t.triangles) (places_of p).triangles) _ (either_left _ _ (lt-ltb _ _ h))
  true_short (candidates h) =
      either_right (ltb (length t.triangles) (places_of p).triangles) _
      (either_right (ltb (length t.work) (length (candidates_of p))) _ (either_left _ _ (lt-ltb _ _ h)))
  true_short (weights h) =
      either_right (ltb (length t.triangles) (places_of p).triangles) _ (either_right (ltb (length t.work) (length (candidates_of p))) _
      (either_right (ltb (length t.candidates) (length (candidates_of p))) _ (either_left _ _ (lt-ltb _ _ h))))
  true_short (rows h) =
      either_right (ltb (length t.triangles) (places_of p).triangles) _
      (either_right (ltb (length t.work) (length (candidates_of p))) _ (either_right (ltb (length t.candidates) (length (candidates_of p))) _
      (either_right (ltb (length t.weights) (length (candidates_of p))) _ (lt-ltb _ _ h))))

-- a patch and 'none' have no number
pub never_given : {o : Outcome} {k : ℕ} → Taken o → number_of o ≡ suc k → ⊥
never_given a_patch q = omega (arith, q)
never_given a_none q = omega (arith, q)

-- no table is too short for the polygon that stands for a file which the reader refuses
nothing_13 : {t : Tables} → TooShort (places_of empty_polygon) t → ⊥
unfolding up_from
nothing_13 (triangles h) = omega arith
nothing_13 (candidates h) = omega arith
nothing_13 (weights h) = omega arith
nothing_13 (rows h) = omega arith
nothing_13 (work h) = omega arith

module _ (limit : ℕ) (file : List ℕ) (bytes : Bytes file) (t : Tables) where
  abbrev Short : Polygon → Type 0
  Short p = TooShort (places_of p) t

  verdict : Verdict (CallDue limit file t) (file_number limit file t)
  verdict = file_verdict limit file bytes Short (λ p. tables_short p t) (λ p. short_true p t) (λ p. true_short p t) nothing_13

  refused_by : (k : ℕ) → file_number limit file t ≡ suc k → patch_file limit file t ≡ refused (suc k) t
  unfolding patch_file
  refused_by k e = ap (λ (n : ℕ). patch_by n (polygon_of file) t) e

  accepted_by : file_number limit file t ≡ 0 → patch_file limit file t ≡ patched (polygon_of file) t
  unfolding patch_file
  accepted_by e = ap (λ (n : ℕ). patch_by n (polygon_of file) t) e

  taken : file_number limit file t ≡ 0 → Taken (patch_file limit file t).outcome
  taken e =
      subst (λ (x : Patching). Taken x.outcome) (sym (accepted_by e))
      (settled_taken (best (problem_in (polygon_of file))) (length (candidates_of (polygon_of file))) t.triangles t.work)

  -- one number is the first that is due, or none is due; `first_unique` of the reader says that it is one only
  pub first_or_none : ((k : ℕ) × First (CallDue limit file t) k) ⊎ NoneDue (CallDue limit file t)
  first_or_none = verdict_either verdict

  -- the first number due is given, and every lent table holds what it held
  pub refused_first : (k : ℕ) → First (CallDue limit file t) k → patch_file limit file t ≡ refused k t
  refused_first zero f = absurd (none_first (verdict_none verdict (verdict_first verdict f)) f)
  refused_first (suc k) f = refused_by k (verdict_first verdict f)

  -- and a number that is given is the first that is due
  pub given_first : (k : ℕ) → number_of (patch_file limit file t).outcome ≡ suc k → First (CallDue limit file t) (suc k)
  given_first k h = by (file_number limit file t) refl
    where
      by : (n : ℕ) → file_number limit file t ≡ n → First (CallDue limit file t) (suc k)
      by zero e = absurd (never_given (taken e) h)
      by (suc j) e = verdict_given verdict (e ∙ sym (ap (λ (x : Patching). number_of x.outcome) (refused_by j e)) ∙ h)

  -- the call ends in a patch or 'none' exactly when no number is due
  pub taken_when : NoneDue (CallDue limit file t) → Taken (patch_file limit file t).outcome
  taken_when n = taken (verdict_zero verdict n)

  pub taken_only_when : Taken (patch_file limit file t).outcome → NoneDue (CallDue limit file t)
  taken_only_when h = verdict_none verdict (by (file_number limit file t) refl)
    where
      by : (n : ℕ) → file_number limit file t ≡ n → file_number limit file t ≡ 0
      by zero e = e
      by (suc k) e = absurd (never_refused (ap (λ (x : Patching). x.outcome) (refused_by k e)) h)

  -- what an accepted call is, for demands 2 and 3
  pub record Accepted : Type 0 where
    pub polygon_valid : ValidPolygon (polygon_in limit file)
    pub call_is : patch_file limit file t ≡ patched (polygon_in limit file) t

  pub accepted : NoneDue (CallDue limit file t) → Accepted
  accepted n =
      let e = none_read limit file bytes Short (λ p. tables_short p t) (λ p. short_true p t) (λ p. true_short p t) nothing_13 n in
      record {
        polygon_valid = polygon_valid limit file e bytes;
        call_is = accepted_by (verdict_zero verdict n) ∙ ap (λ (p : Polygon). patched p t) (sym (polygon_is limit file e));
      }
