-- The test of a list says that it is a tiling without repeats, and does not know the list's order. Assumes nothing.
use Prim.Native.Nat.{ℕ, suc, ◌+◌, ◌≤◌, ◌<◌}
use mathlib.Core.Path.{◌≡◌, refl, sym, ap, ap₂, ◌∙◌}
use mathlib.Core.Bool.{Bool, true, cond}
use mathlib.Core.List.{List, [], ◌∷◌}
use native.Mathlib.Omega.{arith}
use lib.ListN.{length, get_or}
use lib.Dec.{eqb, ltb}
use borrow.Author.Tests.{eqb-true, eq-eqb}
use Rattle.lists.specs.Lists.{both}
use Rattle.lists.proofs.Choice.{Truth, truth, holds, fails, true_not_false, not_true_false}
use Rattle.lists.proofs.Members.{member_entry}
use Rattle.jobs.specs.Job.{unless}
use Rattle.jobs.proofs.First.{unless_zero}
use Rattle.lists.specs.Sums.{only, keep, numbers_from}
use Rattle.triangulation.specs.Triangulations.{Problem, is_triangulation, total_weight}
use Rattle.triangulation.proofs.Sums.{Mem, once_apart, Any, any, none, some}
use Rattle.triangulation.proofs.PartsToSets.{up_from_mem}
use Rattle.triangulation.proofs.Least.{subset_mem}
use Rattle.triangulation.proofs.Demand3.{SameMembers, same_subset}
use Rattle.validation.specs.Validation.{times, distinct_candidates, named, is_tiling, list_total, list_code}
use Rattle.validation.proofs.Naming.{Names, times_mem, mem_times, times_turned, names_test, test_names, named_mem}
use Rattle.validation.proofs.Naming.{mem_named, named_subset, tiling_names, tiling_tiles, names_tiling}
use Rattle.judge.specs.Demands.{IsTiling, Acceptable, SameNumbers}

-- where no two places hold the same, each number stands once at most
apart_once : (list : List ℕ) → ((i j : ℕ) → i < j → j < length list → get_or list i 0 ≡ get_or list j 0 → ⊥) → (k : ℕ) → times k list ≤ 1
apart_once [] h k = omega arith
apart_once (x ∷ list) h k = go (truth (eqb x k)) (any (λ y. eqb y k) list) (apart_once list (λ i j o p e. h (suc i) (suc j) (omega arith) (omega arith) e) k)
  where
    go : Truth (eqb x k) → Any (λ y. eqb y k) list → times k list ≤ 1 → only (eqb x k) 1 + times k list ≤ 1
    go (fails e) a ih = omega (arith, ap (λ b. only b 1) e)
    go (holds e) (none z) ih = omega (arith, ap (λ b. only b 1) e)
    go (holds e) (some u m t) ih =
        let d = member_entry list 0 u m in
        absurd (h 0 (suc d.at) (omega arith) (omega (arith, d.below)) (eqb-true x k e ∙ sym (eqb-true u k t) ∙ sym d.is))

module _ (job : Problem) (list : List ℕ) where
  pub tiling_is : is_tiling job list ≡ true → IsTiling job list (named job list)
  tiling_is e =
      let h = tiling_names job list e in
      record {
        tiles = tiling_tiles job list e;
        once = record {
          all = λ k m. (named_mem job list k m).1;
          only = λ k m. mem_named job list k (h.candidate k m) m;
          apart = once_apart list (λ k m. omega (arith, times_turned k list, h.once k));
        };
      }

  module _ {set : List ℕ} (t : IsTiling job list set) where
    candidate : (k : ℕ) → Mem k set → k < job.size
    candidate k m = omega (arith, up_from_mem 0 job.size k (subset_mem (numbers_from 0 job.size) set t.tiles.0 k m))

    pub names : Names job.size list
    names = record { candidate = λ k m. candidate k (t.once.only k m); once = apart_once list t.once.apart }

    pub named_is : named job list ≡ set
    unfolding SameMembers
    named_is = same_subset 0 job.size (named job list) set (named_subset job list) t.tiles.0
        (λ k m. t.once.only k (named_mem job list k m).1, λ k m. mem_named job list k (candidate k m) (t.once.all k m))

    pub is_tiling_lem : is_tiling job list ≡ true
    is_tiling_lem = names_tiling job list names (ap (is_triangulation job) named_is ∙ t.tiles.1)

    pub total_of : list_total job list ≡ total_weight job set
    unfolding list_total
    total_of = ap (total_weight job) named_is

  -- a list on which neither 21 nor 22 is due
  pub zero_acceptable : (stated : ℕ) → list_code job list stated ≡ 0 → Acceptable job list stated
  unfolding list_code list_total
  zero_acceptable stated e =
      let t = unless_zero (is_tiling job list) 21 _ (omega arith) e in
      let w = unless_zero (eqb stated (total_weight job (named job list))) 22 0 (omega arith) t.1 in
      record { set = named job list; tiling = tiling_is t.0; total = eqb-true stated (total_weight job (named job list)) w.0 }

  pub acceptable_zero : (stated : ℕ) → Acceptable job list stated → list_code job list stated ≡ 0
  unfolding list_code
  acceptable_zero stated a =
      ap (λ b. unless b 21 (unless (eqb stated (list_total job list)) 22 0)) (is_tiling_lem a.tiling)
      ∙ ap (λ b. unless b 22 0) (eq-eqb _ _ (a.total ∙ sym (total_of a.tiling)))

-- ---- the order of a list
keep_same : (p q : ℕ → Bool) → ((k : ℕ) → p k ≡ q k) → (s : List ℕ) → keep p s ≡ keep q s
keep_same p q h [] = refl
keep_same p q h (x ∷ s) = ap₂ (λ b r. cond b (x ∷ r) r) (h x) (keep_same p q h s)

module _ (job : Problem) where
  same_named : (list list' : List ℕ) → SameNumbers list list' → named job list ≡ named job list'
  unfolding named
  same_named list list' h = keep_same (λ k. ltb 0 (times k list)) (λ k. ltb 0 (times k list')) (λ k. ap (ltb 0) (h k)) (numbers_from 0 job.size)

  same_names : (list list' : List ℕ) → SameNumbers list list' → Names job.size list → Names job.size list'
  same_names list list' h n = record {
    candidate = λ k m. n.candidate k (mem_times k list (omega (arith, h k, times_mem k list' m)));
    once = λ k. omega (arith, h k, n.once k);
  }

  names_same : (list list' : List ℕ) → SameNumbers list list' → distinct_candidates job.size list ≡ distinct_candidates job.size list'
  names_same list list' h = go (truth (distinct_candidates job.size list))
    where
      go : Truth (distinct_candidates job.size list) → distinct_candidates job.size list ≡ distinct_candidates job.size list'
      go (holds e) = e ∙ sym (names_test job.size list' (same_names list list' h (test_names job.size list e)))
      go (fails e) =
          e ∙ sym (not_true_false _
          (λ t. true_not_false (names_test job.size list (same_names list' list (λ k. sym (h k)) (test_names job.size list' t))) e))

  -- lists with the same numbers get the same number
  pub same_code : (list list' : List ℕ) (stated : ℕ) → SameNumbers list list' → list_code job list stated ≡ list_code job list' stated
  unfolding list_code list_total is_tiling
  same_code list list' stated h =
      ap₂ (λ b s. unless (both b (is_triangulation job s)) 21 (unless (eqb stated (total_weight job s)) 22 0)) (names_same list list' h)
      (same_named list list' h)
