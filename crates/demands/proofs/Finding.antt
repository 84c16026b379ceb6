-- Demand 1 for the finder's call on a polygon (rules 4.30, 4.33, 4.34): of the numbers due on the polygon and on the three tables one is the first, or none
-- is due; the call gives exactly that number and changes no table, and finds the lists exactly where none is due. So does the call that tells the places,
-- which is lent no table. Assumes nothing.
use mathlib.Core.Path.{◌≡◌, refl, sym, ap, ◌∙◌, subst}
use mathlib.Core.Bool.{true, false}
use mathlib.Core.List.{List}
use mathlib.Core.Logic.{◌⊎◌}
use Prim.Native.Nat.{ℕ, zero, suc}
use native.Mathlib.Omega.{arith}
use borrow.Author.Tests.{ltb-true, lt-ltb}
use lib.Dec.{ltb}
use lib.ListN.{length, take}
use Rattle.codes.specs.Refusals.{refusal, number_of}
use Rattle.lists.proofs.Choice.{Truth, holds, fails, truth, no, true_not_false, either_left, either_right}
use Rattle.terms.specs.Order.{NoneDue}
use Rattle.terms.proofs.Order.{Verdict, none_first, verdict_either, verdict_first, verdict_given, verdict_zero, verdict_none}
use Rattle.polygon.specs.declared.Polygon.{Polygon}
use Rattle.polygon.specs.Due.{PolygonBefore, First}
use Rattle.polygon.proofs.Due.{ordered}
use Rattle.polygon.proofs.Validity.{code_valid}
use Rattle.std.specs.Prelude.{Ok, Err}
use Rattle.finder.specs.Finding.{Found, counts, Finding, finding, short_tables, number_due, find_by, find_number, find_call}
use Rattle.finder.specs.Sizes.{Sizes, places_of, sizes_by, sizes_of}
use Rattle.finder.proofs.Answers.{clear}
use Rattle.demands.specs.Finding.{FindTooShort, few_candidates, few_weights, few_rows}
use Rattle.demands.specs.Polygons.{FindDue, SizesDue}
use Rattle.demands.specs.Quarters.{InQuarters}
use Rattle.demands.proofs.PolygonNumbers.{polygon_verdict}
use Rattle.demands.proofs.Tables.{find_hold}
use Rattle.demands.proofs.Quarters.{in_quarters}

module _ (p : Polygon) (candidates : List (List ℕ)) (weights : List ℕ) (rows : List (List ℕ)) where
  -- ---- 13, as a test and as a statement
  pub short_true : short_tables p candidates weights rows ≡ true → FindTooShort (places_of p) candidates weights rows
  short_true e = by (truth (ltb (length candidates) (places_of p).candidates)) (truth (ltb (length weights) (places_of p).candidates))
    where
      by : Truth (ltb (length candidates) (places_of p).candidates) → Truth (ltb (length weights) (places_of p).candidates) →
          FindTooShort (places_of p) candidates weights rows
      by (holds a) b = few_candidates (ltb-true _ _ a)
      by (fails a) (holds b) = few_weights (ltb-true _ _ b)
      by (fails a) (fails b) = few_rows (ltb-true (length rows) (places_of p).rows (sym (no _ _ a ∙ no _ _ b) ∙ e))

  pub true_short : FindTooShort (places_of p) candidates weights rows → short_tables p candidates weights rows ≡ true
  true_short (few_candidates h) = either_left _ _ (lt-ltb _ _ h)
  true_short (few_weights h) = either_right (ltb (length candidates) (places_of p).candidates) _ (either_left _ _ (lt-ltb _ _ h))
  true_short (few_rows h) =
      either_right (ltb (length candidates) (places_of p).candidates) _ (either_right (ltb (length weights) (places_of p).candidates) _ (lt-ltb _ _ h))

  verdict : Verdict PolygonBefore (FindDue p candidates weights rows) (find_number p candidates weights rows)
  verdict = polygon_verdict p (FindTooShort (places_of p) candidates weights rows) (short_tables p candidates weights rows) short_true true_short

  by_number : {k : ℕ} → find_number p candidates weights rows ≡ k → find_call p candidates weights rows ≡ find_by k p candidates weights rows
  by_number e = ap (λ (k : ℕ). find_by k p candidates weights rows) e

  -- one number is the first that is due, or none is due
  pub first_or_none : ((k : ℕ) × First (FindDue p candidates weights rows) k) ⊎ NoneDue (FindDue p candidates weights rows)
  first_or_none = verdict_either verdict

  -- the first number due is given, and every lent table holds what it held
  pub refused_first : (k : ℕ) → First (FindDue p candidates weights rows) k →
      find_call p candidates weights rows ≡ finding (Err (refusal k)) candidates weights rows
  refused_first zero f = absurd (none_first (verdict_none verdict (verdict_first ordered verdict f)) f)
  refused_first (suc k) f = by_number (verdict_first ordered verdict f)

  -- and a number that is given is the first that is due
  pub given_first : (k : ℕ) → number_of (find_call p candidates weights rows).answer ≡ suc k → First (FindDue p candidates weights rows) (suc k)
  given_first k h = verdict_given verdict (sym (number_is (find_number p candidates weights rows)) ∙ h)
    where
      number_is : (n : ℕ) → number_of (find_by n p candidates weights rows).answer ≡ n
      number_is zero = refl
      number_is (suc n) = refl

  -- the lists are found exactly when no number is due
  pub found_when : NoneDue (FindDue p candidates weights rows) →
      (find_call p candidates weights rows).answer ≡ Ok (counts (places_of p).candidates (places_of p).rows)
  found_when none = ap (λ (x : Finding). x.answer) (by_number (verdict_zero verdict none))

  -- lengths in quarters, of the lists that are found
  pub find_quarters : NoneDue (FindDue p candidates weights rows) →
      InQuarters p (take (places_of p).candidates (find_call p candidates weights rows).candidates)
      (take (places_of p).candidates (find_call p candidates weights rows).weights) (take (places_of p).rows (find_call p candidates weights rows).rows)
  find_quarters none =
      in_quarters p (code_valid p (clear p (short_tables p candidates weights rows) (verdict_zero verdict none)).code)
      (find_hold p candidates weights rows _ _ (found_when none)).lists

  pub found_only_when : (count row_count : ℕ) → (find_call p candidates weights rows).answer ≡ Ok (counts count row_count) →
      NoneDue (FindDue p candidates weights rows)
  found_only_when count row_count e = verdict_none verdict (by (find_number p candidates weights rows) refl)
    where
      by : (n : ℕ) → find_number p candidates weights rows ≡ n → find_number p candidates weights rows ≡ 0
      by zero d = d
      by (suc n) d =
          let q : ◌≡◌ {A = Found} (Err (refusal (suc n))) (Ok (counts count row_count)) = sym (ap (λ (x : Finding). x.answer) (by_number d)) ∙ e in
          absurd (let z : ◌≡◌ {A = ℕ} 0 1 = cc in omega arith)

-- ---- the places that a polygon needs (rule 5.5)
module _ (p : Polygon) where
  sizes_verdict : Verdict PolygonBefore (SizesDue p) (number_due false p)
  sizes_verdict = polygon_verdict p ⊥ false (λ e. true_not_false e refl) (λ z. absurd z)

  by_sizes : {k : ℕ} → number_due false p ≡ k → sizes_of p ≡ sizes_by k p
  by_sizes e = ap (λ (k : ℕ). sizes_by k p) e

  -- the first number due is given, and a number that is given is the first
  pub sizes_refused_first : (k : ℕ) → First (SizesDue p) k → sizes_of p ≡ Err (refusal k)
  sizes_refused_first zero f = absurd (none_first (verdict_none sizes_verdict (verdict_first ordered sizes_verdict f)) f)
  sizes_refused_first (suc k) f = by_sizes (verdict_first ordered sizes_verdict f)

  pub sizes_given_first : (k : ℕ) → sizes_of p ≡ Err (refusal k) → First (SizesDue p) k
  sizes_given_first k e = by (number_due false p) refl
    where
      by : (n : ℕ) → number_due false p ≡ n → First (SizesDue p) k
      by zero d =
          let q : ◌≡◌ {A = Sizes} (Ok (places_of p)) (Err (refusal k)) = sym (by_sizes d) ∙ e in
          absurd (let z : ◌≡◌ {A = ℕ} 0 1 = cc in omega arith)
      by (suc n) d =
          let q : ◌≡◌ {A = Sizes} (Err (refusal (suc n))) (Err (refusal k)) = sym (by_sizes d) ∙ e in
          let same : suc n ≡ k = ap number_of q in
          subst (λ (j : ℕ). First (SizesDue p) j) same (verdict_given sizes_verdict d)

  -- the places are told where no number is due
  pub sizes_known_when : NoneDue (SizesDue p) → sizes_of p ≡ Ok (places_of p)
  sizes_known_when none = by_sizes (verdict_zero sizes_verdict none)
