-- What a list names: how often each number stands in it, and the set of its candidates. Assumes nothing.
use Prim.Native.Nat.{ℕ, ◌+◌, ◌≤◌, ◌<◌}
use mathlib.Core.Path.{◌≡◌, refl, ap, ◌∙◌}
use mathlib.Core.Bool.{true}
use mathlib.Core.Logic.{⊎_elim}
use mathlib.Core.List.Memᴰ
use mathlib.Core.List.{List, [], ◌∷◌, Memᴰ}
use native.Mathlib.Omega.{arith}
use native.Mathlib.Nat.{le_antisymm}
use lib.Dec.{eqb, ltb, leb}
use borrow.Author.Tests.{eqb-true, eq-eqb, ltb-true, lt-ltb}
use Rattle.lists.proofs.Choice.{Truth, truth, holds, fails, both_left, both_right, both_true}
use Rattle.lists.specs.Sums.{only, sum, numbers_from}
use Rattle.triangulation.specs.Triangulations.{Problem, subsets, is_triangulation}
use Rattle.triangulation.specs.Demand3.{Triangulates}
use Rattle.triangulation.proofs.Sums.{Mem, count, sum_ext, sum_same, mem_count, mem_keep, keep_mem, Any, any, none, some}
use Rattle.triangulation.proofs.SetParts.{eqb_sym}
use Rattle.triangulation.proofs.PartsToSets.{mem_up_from, up_from_mem, up_from_once, only_le, count_keep}
use Rattle.triangulation.proofs.Least.{keep_subset}
use Rattle.validation.specs.Validation.{times, distinct_candidates, named, is_tiling}

-- ---- how often a number stands in a list
pub times_mem : (k : ℕ) (list : List ℕ) → Mem k list → 1 ≤ times k list
times_mem k list m = mem_count (λ x. eqb x k) list k m (eq-eqb k k refl)

pub mem_times : (k : ℕ) (list : List ℕ) → 1 ≤ times k list → Mem k list
mem_times k list h = go (any (λ x. eqb x k) list)
  where
    go : Any (λ x. eqb x k) list → Mem k list
    go (none e) = absurd (omega arith)
    go (some u m t) = rw (← eqb-true u k t) m

-- the same count with the test the other way round
pub times_turned : (k : ℕ) (list : List ℕ) → count (λ x. eqb k x) list ≡ times k list
times_turned k list = sum_ext (λ x. only (eqb k x) 1) (λ x. only (eqb x k) 1) list (λ x m. ap (λ b. only b 1) (eqb_sym k x))

-- ---- each number is a candidate's and stands once
pub record Names (size : ℕ) (list : List ℕ) : Type 0 where
  pub candidate : (k : ℕ) → Mem k list → k < size
  pub once : (k : ℕ) → times k list ≤ 1

pub test_names : (size : ℕ) (list : List ℕ) → distinct_candidates size list ≡ true → Names size list
test_names size [] e = record { candidate = λ k m. absurd (Memᴰ.not-nil m); once = λ k. omega arith }
test_names size (k ∷ list) e =
    let r = both_right (ltb k size) _ e in
    let z : times k list ≡ 0 = eqb-true (times k list) 0 (both_left (eqb (times k list) 0) _ r) in
    let ih = test_names size list (both_right (eqb (times k list) 0) _ r) in
    record {
      candidate = λ x m. ⊎_elim (λ q. rw q (ltb-true k size (both_left (ltb k size) _ e))) (λ n. ih.candidate x n) (Memᴰ.cases_cons m);
      once = λ x. go x (truth (eqb k x)) (ih.once x) z;
    }
  where
    go : (x : ℕ) → Truth (eqb k x) → times x list ≤ 1 → times k list ≡ 0 → only (eqb k x) 1 + times x list ≤ 1
    go x (holds q) h z = omega (arith, ap (λ b. only b 1) q, ap (λ y. times y list) (eqb-true k x q))
    go x (fails q) h z = omega (arith, ap (λ b. only b 1) q)

pub names_test : (size : ℕ) (list : List ℕ) → Names size list → distinct_candidates size list ≡ true
names_test size [] h = refl
names_test size (k ∷ list) h =
    let z : only (eqb k k) 1 ≡ 1 = ap (λ b. only b 1) (eq-eqb k k refl) in
    both_true (lt-ltb k size (h.candidate k (Memᴰ.head refl)))
    (both_true (eq-eqb (times k list) 0 (omega (arith, h.once k)))
    (names_test size list (record { candidate = λ x m. h.candidate x (Memᴰ.tail m); once = λ x. omega (arith, h.once x) })))

-- ---- the set of the candidates that stand there
module _ (job : Problem) (list : List ℕ) where
  pub named_mem : (k : ℕ) → Mem k (named job list) → (k < job.size) × Mem k list
  unfolding named
  named_mem k m =
      let d = keep_mem (λ k. ltb 0 (times k list)) k (numbers_from 0 job.size) m in
      (omega (arith, up_from_mem 0 job.size k d.0), mem_times k list (ltb-true 0 (times k list) d.1))

  pub mem_named : (k : ℕ) → k < job.size → Mem k list → Mem k (named job list)
  unfolding named
  mem_named k h m =
      mem_keep (λ k. ltb 0 (times k list)) k (numbers_from 0 job.size) (mem_up_from 0 job.size k (omega arith) (omega arith))
      (lt-ltb 0 (times k list) (times_mem k list m))

  named_once : (k : ℕ) → times k (named job list) ≤ 1
  unfolding named
  named_once k =
      omega (arith, count_keep (λ x. eqb x k) (λ k. ltb 0 (times k list)) (numbers_from 0 job.size), up_from_once 0 job.size k, only_le (leb 0 k))

  pub named_subset : Memᴰ (named job list) (subsets (numbers_from 0 job.size))
  unfolding named
  named_subset = keep_subset (λ k. ltb 0 (times k list)) (numbers_from 0 job.size)

  -- a sum over the set is the sum over the list
  pub named_sum : Names job.size list → (f : ℕ → ℕ) → sum f (named job list) ≡ sum f list
  named_sum h f = sum_same f (named job list) list
      (λ k m. times_turned k list ∙ le_antisymm (h.once k) (times_mem k list (named_mem k m).1))
      (λ k m. le_antisymm (named_once k) (times_mem k (named job list) (mem_named k (h.candidate k m) m)))

  -- the definition's test, as facts
  pub tiling_names : is_tiling job list ≡ true → Names job.size list
  unfolding is_tiling
  tiling_names e = test_names job.size list (both_left (distinct_candidates job.size list) _ e)

  pub tiling_tiles : is_tiling job list ≡ true → Triangulates job (named job list)
  unfolding is_tiling
  tiling_tiles e = (named_subset, both_right (distinct_candidates job.size list) (is_triangulation job (named job list)) e)

  pub names_tiling : Names job.size list → is_triangulation job (named job list) ≡ true → is_tiling job list ≡ true
  unfolding is_tiling
  names_tiling h e = both_true (names_test job.size list h) e
