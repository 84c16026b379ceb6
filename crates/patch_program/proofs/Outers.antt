-- In a tiling a triangle hangs on one other at most, so the numbers on the lines add up to its total. Assumes nothing.
use mathlib.Core.Path.{◌≡◌, refl, sym, ap, ◌∙◌, subst}
use mathlib.Core.Bool.{Bool, true, false, cond}
use mathlib.Core.List.Memᴰ
use mathlib.Core.List.{List, [], ◌∷◌, ◌++◌, cons≢nil, head-eq_of_cons-eq}
use Prim.Native.Nat.{ℕ, zero, suc, ◌+◌, ◌-◌, ◌≤◌, ◌<◌}
use native.Mathlib.Omega.{arith}
use borrow.Author.Tests.{eqb-true, eq-eqb}
use lib.Dec.{eqb}
use lib.ListN.{get_or}
use Rattle.lists.specs.Lists.{both, either}
use Rattle.lists.proofs.Choice.{Truth, truth, holds, fails, both_right, both_true, either_right}
use Rattle.lists.proofs.Ranges.{every_at}
use Rattle.terms.specs.Entries.{entry_at, hangs}
use Rattle.lists.specs.Sums.{only, sum, keep, joined}
use Rattle.triangulation.specs.Triangulations.{Problem, ValidProblem, long_edge, short_edge, count_between, count_outside}
use Rattle.triangulation.specs.Triangulations.{is_boundary, edge_ok, is_triangulation, total_weight, preorder_from, preorder}
use Rattle.triangulation.specs.Problems.{pair_weight, problem_from}
use Rattle.triangulation.specs.Demand3.{Triangulates}
use Rattle.triangulation.proofs.Sums.{Mem, count, sum_ext, sum_add, sum_swap, sum_keep, keep_mem, keep_one, keep_none, mem_count}
use Rattle.triangulation.proofs.SetParts.{both_eq, long_edge_is_lem}
use Rattle.triangulation.proofs.SetsToParts.{preorder_mem, preorder_sum}
use Rattle.triangulation.proofs.Demand3.{members}
use Rattle.validation.proofs.Hanging.{hangs_is}
use Rattle.patch_lines.specs.Lines.{row_under}

-- on an edge that has a triangle between its ends no more than one is outside
few_outside : (job : Problem) (b : Bool) (x y : ℕ) → 1 ≤ x → edge_ok job b x y ≡ true → y ≤ 1
few_outside job true x y h e = omega (arith, eqb-true (x + y) 1 e)
few_outside job false x y h e = by (truth (eqb (x + y) 0))
  where
    by : Truth (eqb (x + y) 0) → y ≤ 1
    by (holds d) = omega (arith, eqb-true (x + y) 0 d)
    by (fails d) =
        let one_each : both (eqb x 1) (eqb y 1) ≡ true = sym (ap (λ (b : Bool). either b (both (eqb x 1) (eqb y 1))) d) ∙ e in
        omega (arith, eqb-true y 1 (both_right (eqb x 1) (eqb y 1) one_each))

-- on a rim edge that has one none is
none_outside : (job : Problem) (b : Bool) (x y : ℕ) → b ≡ true → 1 ≤ x → edge_ok job b x y ≡ true → y ≡ 0
none_outside job b x y t h e = omega (arith, eqb-true (x + y) 1 (sym (ap (λ (c : Bool). edge_ok job c x y) t) ∙ e))

-- a patch starts with the triangle on the edge that closes the rim
root : (job : Problem) (s : List ℕ) (f i j t : ℕ) (rest : List ℕ) → preorder_from job f s i j ≡ t ∷ rest → long_edge job i j t ≡ true
unfolding preorder_from
root job s zero i j t rest e = absurd (cons≢nil (sym e))
root job s (suc f) i j t rest e = by (keep (long_edge job i j) s) refl e
  where
    by : (l : List ℕ) → keep (long_edge job i j) s ≡ l →
        joined (λ k. k ∷ (preorder_from job f s i (job.b k) ++ preorder_from job f s (job.b k) j)) l ≡ t ∷ rest → long_edge job i j t ≡ true
    by [] d e = absurd (cons≢nil (sym e))
    by (k ∷ l) d e =
        let m : Mem k (keep (long_edge job i j) s) = subst (Mem k) (sym d) (Memᴰ.head refl) in
        ap (long_edge job i j) (sym (head-eq_of_cons-eq e)) ∙ (keep_mem (long_edge job i j) k s m).1

module _ (n : ℕ) (candidates : List (List ℕ)) (weights : List ℕ) (rows : List (List ℕ)) where
  abbrev job : Problem
  job = problem_from n candidates weights rows

  -- t hangs on o
  abbrev on : ℕ → ℕ → Bool
  on t o = hangs (entry_at candidates t) (entry_at candidates o)

  -- the row weight of t and the first of some outers
  abbrev first : ℕ → List ℕ → ℕ
  first t [] = 0
  first t (o ∷ l) = pair_weight rows o t

  by_first : (t : ℕ) (patch : List ℕ) → row_under candidates rows patch t ≡ first t (keep (on t) patch)
  by_first t [] = refl
  by_first t (o ∷ patch) = go (on t o) (by_first t patch)
    where
      go : (b : Bool) → row_under candidates rows patch t ≡ first t (keep (on t) patch) →
          cond b (pair_weight rows o t) (row_under candidates rows patch t) ≡ first t (cond b (o ∷ keep (on t) patch) (keep (on t) patch))
      go true e = refl
      go false e = e

  module _ (t : ℕ) (patch : List ℕ) (few : count (on t) patch ≤ 1) where
    pub the_outer : (o : ℕ) → Mem o patch → on t o ≡ true → row_under candidates rows patch t ≡ pair_weight rows o t
    the_outer o m e = by_first t patch ∙ ap (first t) (keep_one (on t) patch o few m e)

    pub outers_same : (o u : ℕ) → Mem o patch → Mem u patch → on t o ≡ true → on t u ≡ true → o ≡ u
    outers_same o u mo mu eo eu = head-eq_of_cons-eq (sym (keep_one (on t) patch o few mo eo) ∙ keep_one (on t) patch u few mu eu)

    abbrev row : ℕ → ℕ
    row o = pair_weight rows o t

    as_sum : row_under candidates rows patch t ≡ sum (λ o. only (on t o) (pair_weight rows o t)) patch
    as_sum = by_first t patch ∙ go (keep (on t) patch) refl ∙ sym (sum_keep (on t) row patch)
      where
        go : (l : List ℕ) → keep (on t) patch ≡ l → first t (keep (on t) patch) ≡ sum row (keep (on t) patch)
        go [] e = ap (first t) e ∙ sym (ap (sum row) e)
        go (o ∷ []) e = let z : row o ≡ row o + 0 = omega arith in ap (first t) e ∙ z ∙ sym (ap (sum row) e)
        go (o ∷ u ∷ l) e = absurd (omega (arith, sum_keep (on t) (λ k. 1) patch, ap (sum (λ k. 1)) e, few))

  module _ (good : ValidProblem job) (s : List ℕ) (h : Triangulates job s) where
    -- what the test of its edge (a, c) says of a triangle
    module _ (t : ℕ) (m : Mem t s) where
      in_size : t < job.size
      in_size = members job good s h t m

      between : 1 ≤ count_between job s (job.a t) (job.c t)
      unfolding count_between
      between = mem_count (long_edge job (job.a t) (job.c t)) s t m (long_edge_is_lem job good s _ _ t refl refl)

      edge : edge_ok job (is_boundary job (job.a t) (job.c t)) (count_between job s (job.a t) (job.c t)) (count_outside job s (job.a t) (job.c t)) ≡ true
      unfolding is_triangulation
      edge =
          every_at 0 (job.c t) _ (every_at 0 job.n _ h.1 (job.c t) (omega arith) (good.cn t in_size)) (job.a t)
          (omega arith) (omega (arith, good.ab t in_size, good.bc t in_size))

      few_in_set : count_outside job s (job.a t) (job.c t) ≤ 1
      few_in_set =
          few_outside job (is_boundary job (job.a t) (job.c t)) (count_between job s (job.a t) (job.c t))
          (count_outside job s (job.a t) (job.c t)) between edge

      none_in_set : is_boundary job (job.a t) (job.c t) ≡ true → count_outside job s (job.a t) (job.c t) ≡ 0
      none_in_set b =
          none_outside job (is_boundary job (job.a t) (job.c t)) (count_between job s (job.a t) (job.c t))
          (count_outside job s (job.a t) (job.c t)) b between edge

      -- as the test of hanging counts them
      outers : count (on t) (preorder job s) ≡ count_outside job s (job.a t) (job.c t)
      unfolding count_outside
      outers =
          sym (preorder_sum job good s (members job good s h) h.1 (λ o. only (on t o) 1))
          ∙ sum_ext (λ o. only (on t o) 1) (λ o. only (short_edge job (job.a t) (job.c t) o) 1) s
          (λ o k. ap (λ (b : Bool). only b 1) (hangs_is n candidates weights rows t o))

    in_set : (t : ℕ) → Mem t (preorder job s) → Mem t s
    in_set = preorder_mem job good s (members job good s h) h.1

    -- a triangle of the patch hangs on one other at most
    pub few_outers : (t : ℕ) → Mem t (preorder job s) → count (on t) (preorder job s) ≤ 1
    few_outers t m = omega (arith, outers t (in_set t m), few_in_set t (in_set t m))

    -- the first on none
    pub root_row : (t : ℕ) (rest : List ℕ) → preorder job s ≡ t ∷ rest → row_under candidates rows (preorder job s) t ≡ 0
    root_row t rest e =
        let m : Mem t s = in_set t (subst (Mem t) (sym e) (Memᴰ.head refl)) in
        let ends = both_eq (job.a t) 0 (job.c t) (job.n - 1) (root job s job.n 0 (job.n - 1) t rest e) in
        let rim : is_boundary job (job.a t) (job.c t) ≡ true =
        either_right (eqb (job.c t) (job.a t + 1)) _ (both_true (eq-eqb (job.a t) 0 ends.0) (eq-eqb (job.c t) (job.n - 1) ends.1)) in
        by_first t (preorder job s) ∙ ap (first t) (keep_none (on t) (preorder job s) (outers t m ∙ none_in_set t m rim))

    -- the weights of the triangles and their row weights add up to the total
    pub adds_up : sum (λ t. get_or weights t 0 + row_under candidates rows (preorder job s) t) (preorder job s) ≡ total_weight job s
    unfolding total_weight
    adds_up =
        let patch = preorder job s in
        let own : ℕ → ℕ = λ t. get_or weights t 0 in
        let pair : ℕ → ℕ → ℕ = λ t o. only (on t o) (pair_weight rows o t) in
        let same : (f : ℕ → ℕ) → sum f s ≡ sum f patch = preorder_sum job good s (members job good s h) h.1 in
        let per-outer : (o : ℕ) → sum (λ i. only (short_edge job (job.a i) (job.c i) o) (job.row o i)) s ≡ sum (λ i. pair i o) patch =
        λ o. sum_ext _ (λ i. pair i o) s (λ i m. ap (λ (b : Bool). only b (pair_weight rows o i)) (sym (hangs_is n candidates weights rows i o)))
        ∙ same (λ i. pair i o) in
        sum_add own (row_under candidates rows patch) patch
        ∙ ap (λ (x : ℕ). sum own patch + x)
        (sum_ext (row_under candidates rows patch) (λ t. sum (pair t) patch) patch (λ t m. as_sum t patch (few_outers t m))
        ∙ sum_swap pair patch patch)
        ∙ sym (sum_add own (λ o. sum (λ i. pair i o) patch) patch)
        ∙ sym (same (λ o. own o + sum (λ i. pair i o) patch))
        ∙ sym (sum_ext _ (λ o. own o + sum (λ i. pair i o) patch) s (λ o m. ap (λ (x : ℕ). own o + x) (per-outer o)))
