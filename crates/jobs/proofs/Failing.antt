-- Each number's test fails exactly where the number is due, and at its place. Assumes nothing.
use mathlib.Core.Path.{◌≡◌, refl, sym, ap, ◌∙◌}
use mathlib.Core.Bool.{Bool, true, false}
use mathlib.Core.List.{List}
use mathlib.Core.Logic.{◌⊎◌, inl, inr, ⊎_elim}
use Prim.Native.Nat.{ℕ, zero, suc, ◌+◌, ◌-◌, ◌<◌}
use native.Mathlib.Omega.{arith}
use lib.ListN.{length, get_or}
use lib.Dec.{eqb, leb}
use borrow.Author.Tests.{leb-false, lt-leb, eqb-true}
use Rattle.lists.specs.Lists.{every, every_from, both, either}
use Rattle.lists.proofs.Choice.{Truth, truth, holds, fails, yes, no, true_not_false, not_true_false, either_right}
use Rattle.lists.proofs.Bools.{both_no}
use Rattle.lists.proofs.Ranges.{every_at}
use Rattle.terms.specs.Limits.{min_vertices, max_vertices, count_fits, max_weight}
use Rattle.terms.specs.Entries.{entry_at, outer, inner, vertex_a, vertex_b, vertex_c, row_weight, before, row_before}
use Rattle.jobs.specs.Job.{Job, enough, ascends, candidate_fits, candidates_fit, names_pair, row_fits, rows_fit, weights_fit, row_weights_fit}
use Rattle.jobs.specs.Due.{JobPlace, count, tables, lists, JobDue, few_vertices, many_vertices, few_triangles, little_work}
use Rattle.jobs.specs.Due.{few_weights, no_triangle, candidate_not_after, no_pair, row_not_after, heavy, heavy_row}

-- a number below a bound at which a test fails
record Some (bound : ℕ) (P : ℕ → Bool) : Type 0 where
  pub at : ℕ
  pub below : at < bound
  pub is : P at ≡ false

-- a test of every number that fails, fails at one, and the other way round
every_from_fails : (P : ℕ → Bool) (lo k : ℕ) → every_from P lo k ≡ false → Some (lo + k) P
unfolding every_from
every_from_fails P lo zero e = absurd (true_not_false refl e)
every_from_fails P lo (suc k) e = go (truth (P lo)) (λ p. every_from_fails P (suc lo) k (sym (yes (every_from P (suc lo) k) false p) ∙ e))
  where
    go : Truth (P lo) → (P lo ≡ true → Some (suc lo + k) P) → Some (lo + suc k) P
    go (holds p) later = let s = later p in record { at = s.at; below = omega (arith, s.below); is = s.is }
    go (fails p) later = record { at = lo; below = omega arith; is = p }

every_fails : (m : ℕ) (P : ℕ → Bool) → every 0 m P ≡ false → Some m P
every_fails m P e = let s = every_from_fails P 0 (m - 0) e in record { at = s.at; below = omega (arith, s.below); is = s.is }

fails_every : (m : ℕ) (P : ℕ → Bool) (i : ℕ) → i < m → P i ≡ false → every 0 m P ≡ false
fails_every m P i h e = not_true_false _ (λ t. true_not_false (every_at 0 m P t i (omega arith) h) e)

both_fails : (a b : Bool) → both a b ≡ false → (a ≡ false) ⊎ (b ≡ false)
both_fails false b e = inl refl
both_fails true b e = inr e

-- ---- an entry's own test fails, or it is not the first and its order test fails
split : (i : ℕ) (own after : Bool) → both own (either (eqb i 0) after) ≡ false → (own ≡ false) ⊎ ((0 < i) × (after ≡ false))
split i false after e = inl refl
split zero true after e = absurd (true_not_false refl e)
split (suc i) true true e = absurd (true_not_false (either_right (eqb (suc i) 0) true refl) e)
split (suc i) true false e = inr (omega arith, refl)

order_fails : (i : ℕ) (own after : Bool) → after ≡ false → both own (either (eqb (i + 1) 0) after) ≡ false
order_fails i own after e = both_no own (go (eqb (i + 1) 0) refl)
  where
    go : (b : Bool) → eqb (i + 1) 0 ≡ b → either b after ≡ false
    go true q = absurd (omega (arith, eqb-true (i + 1) 0 q))
    go false q = e

module _ (job : Job) (tp wp : ℕ) where
  abbrev n : ℕ
  n = job.n

  abbrev candidates : List (List ℕ)
  candidates = job.candidates

  abbrev weights : List ℕ
  weights = job.weights

  abbrev rows : List (List ℕ)
  rows = job.rows

  abbrev pub places_fit : Bool
  places_fit = both (enough (n - 2) tp) (both (enough (length candidates) wp) (enough (length candidates) (length weights)))

  abbrev pub weight_tests : Bool
  weight_tests = both (weights_fit weights (length candidates)) (row_weights_fit rows)

  -- each number's test fails, at the number's place
  pub data Fails : JobPlace → ℕ → Type 0 where
    fails_14 : count_fits n ≡ false → Fails count 14
    fails_13 : places_fit ≡ false → Fails tables 13
    fails_15 : candidates_fit n candidates ≡ false → Fails lists 15
    fails_16 : rows_fit candidates rows ≡ false → Fails lists 16
    fails_17 : weight_tests ≡ false → Fails lists 17

  abbrev D : JobPlace → ℕ → Type 0
  D = JobDue job tp wp

  abbrev own : ℕ → Bool
  own i = ascends n (vertex_a (entry_at candidates i)) (vertex_b (entry_at candidates i)) (vertex_c (entry_at candidates i))

  abbrev pair : ℕ → Bool
  pair i = names_pair candidates (outer (entry_at rows i)) (inner (entry_at rows i))

  -- ---- what is due fails
  candidate_fails : (i : ℕ) → before (entry_at candidates i) (entry_at candidates (i + 1)) ≡ false → candidate_fits n candidates (i + 1) ≡ false
  unfolding candidate_fits
  candidate_fails i e = order_fails i (own (i + 1)) _ (ap (λ j. before (entry_at candidates j) (entry_at candidates (i + 1))) (omega arith) ∙ e)

  row_fails : (i : ℕ) → row_before (entry_at rows i) (entry_at rows (i + 1)) ≡ false → row_fits candidates rows (i + 1) ≡ false
  unfolding row_fits
  row_fails i e = order_fails i (pair (i + 1)) _ (ap (λ j. row_before (entry_at rows j) (entry_at rows (i + 1))) (omega arith) ∙ e)

  pub due_fails : {p : JobPlace} {k : ℕ} → JobDue job tp wp p k → Fails p k
  unfolding candidate_fits row_fits
  due_fails (few_vertices h) = fails_14 (no _ _ (lt-leb min_vertices n h))
  due_fails (many_vertices h) = fails_14 (both_no (leb min_vertices n) (lt-leb n max_vertices h))
  due_fails (few_triangles h) = fails_13 (no _ _ (lt-leb (n - 2) tp h))
  due_fails (little_work h) = fails_13 (both_no (enough (n - 2) tp) (no _ _ (lt-leb (length candidates) wp h)))
  due_fails (few_weights h) = fails_13 (both_no (enough (n - 2) tp) (both_no (enough (length candidates) wp) (lt-leb (length candidates) (length weights) h)))
  due_fails (no_triangle i h e) = fails_15 (fails_every (length candidates) (candidate_fits n candidates) i h (no _ _ e))
  due_fails (candidate_not_after i h e) = fails_15 (fails_every (length candidates) (candidate_fits n candidates) (i + 1) h (candidate_fails i e))
  due_fails (no_pair i h e) = fails_16 (fails_every (length rows) (row_fits candidates rows) i h (no _ _ e))
  due_fails (row_not_after i h e) = fails_16 (fails_every (length rows) (row_fits candidates rows) (i + 1) h (row_fails i e))
  due_fails (heavy i h e) = fails_17 (no _ _ (fails_every (length candidates) (λ i. leb (get_or weights i 0) max_weight) i h (lt-leb _ _ e)))
  due_fails (heavy_row i h e) =
      fails_17 (both_no (weights_fit weights (length candidates))
      (fails_every (length rows) (λ i. leb (row_weight (entry_at rows i)) max_weight) i h (lt-leb _ _ e)))

  -- ---- what fails is due
  due_14 : count_fits n ≡ false → D count 14
  due_14 e =
      ⊎_elim (λ f. few_vertices (leb-false min_vertices n f)) (λ f. many_vertices (leb-false n max_vertices f))
      (both_fails (leb min_vertices n) (leb n max_vertices) e)

  due_13 : places_fit ≡ false → D tables 13
  due_13 e =
      ⊎_elim (λ f. few_triangles (leb-false _ _ f))
      (λ g. ⊎_elim (λ f. little_work (leb-false _ _ f)) (λ f. few_weights (leb-false _ _ f)) (both_fails (enough (length candidates) wp) _ g))
      (both_fails (enough (n - 2) tp) _ e)

  due_15 : candidates_fit n candidates ≡ false → D lists 15
  unfolding candidate_fits
  due_15 e =
      let s = every_fails (length candidates) (candidate_fits n candidates) e in
      let i = s.at in
      ⊎_elim (λ f. no_triangle i s.below f)
      (λ f. candidate_not_after (i - 1) (omega (arith, s.below, f.0))
      (ap (λ j. before (entry_at candidates (i - 1)) (entry_at candidates j)) (omega (arith, f.0)) ∙ f.1))
      (split i (own i) (before (entry_at candidates (i - 1)) (entry_at candidates i)) s.is)

  due_16 : rows_fit candidates rows ≡ false → D lists 16
  unfolding row_fits
  due_16 e =
      let s = every_fails (length rows) (row_fits candidates rows) e in
      let i = s.at in
      ⊎_elim (λ f. no_pair i s.below f)
      (λ f. row_not_after (i - 1) (omega (arith, s.below, f.0)) (ap (λ j. row_before (entry_at rows (i - 1)) (entry_at rows j)) (omega (arith, f.0)) ∙ f.1))
      (split i (pair i) (row_before (entry_at rows (i - 1)) (entry_at rows i)) s.is)

  due_17 : weight_tests ≡ false → D lists 17
  due_17 e =
      ⊎_elim (λ f. let s = every_fails (length candidates) (λ i. leb (get_or weights i 0) max_weight) f in heavy s.at s.below (leb-false _ _ s.is))
      (λ f. let s = every_fails (length rows) (λ i. leb (row_weight (entry_at rows i)) max_weight) f in heavy_row s.at s.below (leb-false _ _ s.is))
      (both_fails (weights_fit weights (length candidates)) (row_weights_fit rows) e)

  pub fails_due : {p : JobPlace} {k : ℕ} → Fails p k → JobDue job tp wp p k
  fails_due (fails_14 e) = due_14 e
  fails_due (fails_13 e) = due_13 e
  fails_due (fails_15 e) = due_15 e
  fails_due (fails_16 e) = due_16 e
  fails_due (fails_17 e) = due_17 e
