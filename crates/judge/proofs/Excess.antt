-- The excess of a stated total over the least. Assumes nothing.
use Prim.Native.Nat.{ℕ, ◌-◌, ◌≤◌}
use mathlib.Core.Path.{◌≡◌, refl}
use mathlib.Core.List.{List, [], ◌∷◌}
use native.Mathlib.Omega.{arith}
use Rattle.std.proofs.Common.{Some}
use Rattle.triangulation.specs.Triangulations.{Problem, ValidProblem, Answer, total_weight, best_key, answer_of, best}
use Rattle.triangulation.specs.Recursion.{cost_of, key_total}
use Rattle.triangulation.specs.Demand3.{Triangulates}
use Rattle.triangulation.proofs.LeastTotal.{Known, known, without, answer_known}
use Rattle.judge.specs.Call.{excess_over}
use Rattle.judge.specs.Demands.{Excess}

module _ (job : Problem) (good : ValidProblem job) (s : List ℕ) (tiles : Triangulates job s) where
  -- the excess of a tiling's total
  pub excess_is : (stated : ℕ) → stated ≡ total_weight job s → Excess job stated (excess_over (best job) stated)
  excess_is stated e = go (answer_known job good)
    where
      go : {a : Answer} → Known job a → Excess job stated (excess_over a stated)
      go (without h) = absurd (h s tiles)
      go (known least triangles l) = let b = l.lowest s tiles in record {
        least = least;
        least_is = l;
        over = omega arith;
        zero_cheapest = λ z t h. omega (arith, l.lowest t h);
        cheapest_zero = λ m. omega (arith, m l.set l.tiles, l.weight);
      }

  -- the dynamic programme returns the least total: the code's difference is the excess
  pub excess_by_cost : (stated : ℕ) → stated ≡ total_weight job s →
      (cost_of (best_key job) ≤ stated) × (stated - cost_of (best_key job) ≡ excess_over (best job) stated)
      × (key_total (best_key job) ≡ Some (cost_of (best_key job)))
  excess_by_cost stated e = go (best_key job) (answer_known job good)
    where
      go : (k : List ℕ) → Known job (answer_of k) → (cost_of k ≤ stated) × (stated - cost_of k ≡ excess_over (answer_of k) stated)
          × (key_total k ≡ Some (cost_of k))
      go [] (without h) = absurd (h s tiles)
      go (x ∷ l) (known least triangles q) = (omega (arith, q.lowest s tiles), refl, refl)
