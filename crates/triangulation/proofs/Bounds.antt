-- Totals are far below the number that stands for 'none', so no sum of an accepted job wraps. Assumes nothing.
use Prim.Native.Nat.{ℕ, ◌+◌, ◌*◌, ◌≤◌, ◌<◌}
use mathlib.Core.Path.{◌≡◌, ap}
use mathlib.Core.Logic.{◌⊎◌, inl, inr}
use mathlib.Core.List.{List, [], ◌∷◌, ◌++◌}
use native.Mathlib.Omega.{arith}
use lib.ListN.{length, length-append}
use Rattle.terms.specs.Limits.{max_weight}
use Rattle.triangulation.specs.Triangulations.{Problem, ValidProblem}
use Rattle.triangulation.specs.Problems.{Bounded}
use Rattle.triangulation.specs.Recursion.{best_under, best_from, cost_of, max_total}
use Rattle.triangulation.proofs.Parts.{Part, edge, node, hinge_weight, part_length}
use Rattle.triangulation.proofs.Recursion.{Best, Root, none, some, edge_best, root_is}

-- a candidate's key: none, or its total, itself and the rest
pub data Shape (u : ℕ) (k : List ℕ) : Type 0 where
  nil : k ≡ [] → Shape u k
  cons : (x : ℕ) (l : List ℕ) → k ≡ x ∷ u ∷ l → x + max_weight ≤ max_total → Shape u k

module _ (job : Problem) (good : ValidProblem job) (bound : Bounded job) where
  hinge_light : (t : ℕ) (l : List ℕ) → hinge_weight job t l ≤ max_weight
  hinge_light t [] = omega arith
  hinge_light t (u ∷ l) = bound.row_light t u

  -- a part's total is bounded by its length
  part_light : {i j : ℕ} {l : List ℕ} {x : ℕ} → Part job i j l x → (t : ℕ) → x + hinge_weight job t l ≤ 2 * max_weight * length l
  part_light (edge e) t = omega arith
  part_light (node {l = l} {r = r} u h ei ej wl wr) t =
      omega (arith, part_light wl u, part_light wr u, bound.light u h, bound.row_light t u, length-append l r)

  pub root_shape : (u : ℕ) → u < job.size → Shape u (best_from job job.n u)
  root_shape u h = go (root_is job good u h)
    where
      go : Root job u (best_from job job.n u) → Shape u (best_from job job.n u)
      go (none e k) = nil e
      go (some l r x y e wl wr k) = cons (job.weight u + (x + hinge_weight job u l) + (y + hinge_weight job u r)) (l ++ r) e
          (omega (arith, part_light wl u, part_light wr u, part_length job wl, part_length job wr, bound.light u h, good.cn u h, bound.few))

  -- the same of an edge: the total with the row
  pub edge_light : (t i j : ℕ) → i < j → j < job.n → (best_under job job.n t i j ≡ []) ⊎ (cost_of (best_under job job.n t i j) ≤ max_total)
  edge_light t i j h k = go (edge_best job good job.n t i j h (omega arith))
    where
      go : Best job t i j (best_under job job.n t i j) → (best_under job job.n t i j ≡ []) ⊎ (cost_of (best_under job job.n t i j) ≤ max_total)
      go (none e z) = inl e
      go (some l x e w z) = inr (omega (arith, ap cost_of e, part_light w t, part_length job w, bound.few))
