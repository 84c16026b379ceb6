-- A list of candidates of a job is a tiling without repeats exactly when it passes the edge test as it stands. Assumes nothing.
use Prim.Native.Nat.{ℕ, ◌+◌, ◌-◌, ◌<◌}
use mathlib.Core.Path.{◌≡◌, sym, ap, ap₂, ◌∙◌}
use mathlib.Core.Bool.{true}
use mathlib.Core.List.{List}
use native.Mathlib.Omega.{arith}
use lib.ListN.{length}
use lib.Dec.{eqb}
use borrow.Author.Tests.{eqb-true}
use Rattle.lists.proofs.Choice.{Truth, truth, holds, fails, true_not_false, not_true_false}
use Rattle.lists.proofs.Ranges.{every_same}
use Rattle.lists.specs.Sums.{only, sum}
use Rattle.triangulation.specs.Triangulations.{Problem, ValidProblem, long_edge, short_edge, count_between}
use Rattle.triangulation.specs.Triangulations.{count_outside, is_boundary, edge_ok, is_triangulation, total_weight}
use Rattle.triangulation.proofs.Sums.{Mem, sum_ext, count_mono}
use Rattle.triangulation.proofs.SetParts.{long_edge_is_lem}
use Rattle.triangulation.proofs.SetsToParts.{triangulation_set}
use Rattle.triangulation.proofs.Demand3.{sum_ones, triangle_count}
use Rattle.validation.specs.Validation.{named, is_tiling, list_total}
use Rattle.validation.proofs.Naming.{Names, named_sum, tiling_names, tiling_tiles, names_tiling}

-- what triangle o adds to the total of a list
abbrev pub share : Problem → List ℕ → ℕ → ℕ
share job list o = job.weight o + sum (λ i. only (short_edge job (job.a i) (job.c i) o) (job.row o i)) list

module _ (job : Problem) (list : List ℕ) where
  -- ---- the set and the list have the same counts and the same total
  named_triangulation : Names job.size list → is_triangulation job (named job list) ≡ is_triangulation job list
  unfolding is_triangulation count_between count_outside
  named_triangulation h = every_same 0 job.n _ _ (λ j _ _. every_same 0 j _ _ (λ i _ _.
      ap₂ (λ x y. edge_ok job (is_boundary job i j) x y) (named_sum job list h (λ k. only (long_edge job i j k) 1))
      (named_sum job list h (λ k. only (short_edge job i j k) 1))))

  pub total_is : is_tiling job list ≡ true → list_total job list ≡ total_weight job list
  unfolding list_total total_weight
  total_is e =
      let h = tiling_names job list e in
      sum_ext (share job (named job list)) (share job list) (named job list)
      (λ o m. ap (λ x. job.weight o + x) (named_sum job list h (λ i. only (short_edge job (job.a i) (job.c i) o) (job.row o i))))
      ∙ named_sum job list h (share job list)

  module _ (good : ValidProblem job) where
    -- a list of another length is no tiling
    pub tiling_length : is_tiling job list ≡ true → length list ≡ job.n - 2
    tiling_length e =
        sym (sum_ones list) ∙ sym (named_sum job list (tiling_names job list e) (λ k. 1)) ∙ sum_ones (named job list)
        ∙ triangle_count job good (named job list) (tiling_tiles job list e)

    module _ (candidate : (k : ℕ) → Mem k list → k < job.size) where
      -- a triangle that stands twice has its edge (a, c) twice
      pub edges_names : is_triangulation job list ≡ true → Names job.size list
      unfolding count_between
      edges_names e = record {
        candidate = candidate;
        once = λ k. omega (
          arith,
          (triangulation_set job good list candidate e).single (job.a k) (job.c k),
          count_mono (λ x. eqb x k) (long_edge job (job.a k) (job.c k))
              (λ x t. long_edge_is_lem job good list _ _ x (ap job.a (eqb-true x k t)) (ap job.c (eqb-true x k t))) list,
        );
      }

      pub tiling_edges : is_tiling job list ≡ is_triangulation job list
      tiling_edges = go (truth (is_triangulation job list))
        where
          go : Truth (is_triangulation job list) → is_tiling job list ≡ is_triangulation job list
          go (holds e) = let h = edges_names e in names_tiling job list h (named_triangulation h ∙ e) ∙ sym e
          go (fails e) = not_true_false _ (λ t. true_not_false (sym (named_triangulation (tiling_names job list t)) ∙ (tiling_tiles job list t).1) e) ∙ sym e
