-- The answer has the least total, which is one number. Assumes nothing.
use Prim.Native.Nat.{ℕ}
use mathlib.Core.Path.{◌≡◌, refl}
use mathlib.Core.List.{List}
use native.Mathlib.Omega.{arith}
use Rattle.triangulation.specs.Triangulations.{Problem, ValidProblem, Answer, none, patch, best}
use Rattle.triangulation.specs.Demand3.{Optimal}
use Rattle.triangulation.specs.LeastTotal.{NoTiling, Least}
use Rattle.triangulation.proofs.Demand3.{demand3}

pub least_unique : {job : Problem} {x y : ℕ} → Least job x → Least job y → x ≡ y
least_unique a b = omega (arith, a.lowest b.set b.tiles, b.lowest a.set a.tiles, a.weight, b.weight)

pub optimal_least : {job : Problem} {total : ℕ} {triangles : List ℕ} → Optimal job total triangles → Least job total
optimal_least o = record { set = o.set; tiles = o.tiles; weight = o.weight; lowest = o.lowest }

-- what an answer says of the least total
pub data Known (job : Problem) : Answer → Type 0 where
  known : (least : ℕ) (triangles : List ℕ) → Least job least → Known job (patch least triangles)
  without : NoTiling job → Known job none

pub answer_known : (job : Problem) → ValidProblem job → Known job (best job)
answer_known job good = go (best job) refl
  where
    go : (a : Answer) → best job ≡ a → Known job a
    go none e = without ((demand3 job good).none_is e)
    go (patch least triangles) e = known least triangles (optimal_least ((demand3 job good).patch_is least triangles e))
