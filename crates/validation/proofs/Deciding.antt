-- Whether a list is a tiling, and its total, by the steps of the code. Assumes nothing.
use Prim.Native.Nat.{ℕ, ◌-◌, ◌≤◌, ◌<◌}
use mathlib.Core.Path.{◌≡◌, sym}
use mathlib.Core.Bool.{true, false}
use mathlib.Core.List.{List, []}
use native.Mathlib.Omega.{arith}
use lib.ListN.{length, get_or}
use lib.Dec.{eqb, ltb}
use borrow.Author.Tests.{eqb-true, eq-eqb, lt-ltb, ltb-true}
use Rattle.lists.proofs.Choice.{both_left, both_right, both_true, not_true_false, true_not_false}
use Rattle.lists.proofs.Ranges.{every_at, every_all}
use Rattle.lists.proofs.Members.{member_entry, entry_member}
use Rattle.terms.specs.Limits.{max_vertices}
use Rattle.jobs.specs.Job.{Job}
use Rattle.triangulation.specs.Triangulations.{Problem, ValidProblem, is_triangulation, count_between, count_outside, total_weight}
use Rattle.triangulation.specs.Problems.{problem_from, problem_of}
use Rattle.triangulation.proofs.Sums.{Mem}
use Rattle.validation.specs.Validation.{is_tiling, list_total}
use Rattle.validation.specs.Edges.{Triangles, all_below_bound, names_triangles}
use Rattle.validation.proofs.Naming.{tiling_names}
use Rattle.validation.proofs.Tilings.{total_is, tiling_length, tiling_edges}

module _ (job : Job) (list : List ℕ) (good : ValidProblem (problem_of job)) (few : job.n ≤ max_vertices) where
  abbrev problem : Problem
  problem = problem_of job

  -- a tiling names n − 2 candidates
  tiling_triangles : is_tiling problem list ≡ true → names_triangles job.n (length job.candidates) list ≡ true
  tiling_triangles t =
      both_true (eq-eqb (length list) (job.n - 2) (tiling_length problem list good t))
      (every_all 0 (length list) (λ i. ltb (get_or list i 0) (length job.candidates))
      (λ i l h. lt-ltb _ _ ((tiling_names problem list t).candidate (get_or list i 0) (entry_member list 0 i h))))

  pub other_names : names_triangles job.n (length job.candidates) list ≡ false → is_tiling problem list ≡ false
  other_names e = not_true_false _ (λ t. true_not_false (tiling_triangles t) e)

  module _ (named : names_triangles job.n (length job.candidates) list ≡ true) where
    member_below : (k : ℕ) → Mem k list → k < length job.candidates
    member_below k m =
        let e = member_entry list 0 k m in
        let b : all_below_bound list (length job.candidates) ≡ true = both_right (eqb (length list) (job.n - 2)) _ named in
        rw (← e.is) (ltb-true (get_or list e.at 0) (length job.candidates)
        (every_at 0 (length list) (λ i. ltb (get_or list i 0) (length job.candidates)) b e.at (omega arith) e.below))

    pub triangles_are : Triangles job.candidates list
    triangles_are = record {
      each = λ k m. let h = member_below k m in record { there = h; ab = good.ab k h; bc = good.bc k h; few = omega (arith, good.cn k h) };
      short_list =
          let e : length list ≡ job.n - 2 = eqb-true (length list) (job.n - 2) (both_left (eqb (length list) (job.n - 2)) _ named) in omega arith;
    }

    -- the code's edge test looks at n and the candidates alone
    pub edges_are : is_triangulation (problem_from job.n job.candidates [] []) list ≡ is_tiling problem list
    unfolding is_triangulation count_between count_outside
    edges_are = sym (tiling_edges problem list good member_below)

  -- of a tiling the code's total, at which it looks at all but n, is the list's
  module _ (tiles : is_tiling problem list ≡ true) where
    pub tiling_are : Triangles job.candidates list
    tiling_are = triangles_are (tiling_triangles tiles)

    pub total_of : total_weight (problem_from 0 job.candidates job.weights job.rows) list ≡ list_total problem list
    unfolding total_weight
    total_of = sym (total_is problem list tiles)
