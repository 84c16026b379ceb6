-- The least total of a problem. Definitions only.
use Rattle.std.specs.Prelude.{ℕ, ◌≡◌, List}
use Rattle.triangulation.specs.Triangulations.{Problem, total_weight}
use Rattle.triangulation.specs.Demand3.{Triangulates, Cheapest}

-- there is a tiling, and there is none (rule 3.3)
abbrev pub HasTiling : Problem → Type 0
HasTiling job = (s : List ℕ) × Triangulates job s

abbrev pub NoTiling : Problem → Type 0
NoTiling job = (s : List ℕ) → Triangulates job s → ⊥

-- this is the least total: that of a tiling, and no tiling costs less (rules 3.14, 3.15)
pub record Least (job : Problem) (total : ℕ) : Type 0 where
  pub set : List ℕ
  pub tiles : Triangulates job set
  pub weight : total ≡ total_weight job set
  pub lowest : Cheapest job total
