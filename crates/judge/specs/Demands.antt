-- What the users asked of a judgement, as facts about the list and the job. Definitions only.
use Rattle.std.specs.Prelude.{ℕ, ◌+◌, ◌≡◌, List}
use Rattle.triangulation.specs.Triangulations.{Problem, total_weight}
use Rattle.triangulation.specs.Demand3.{Triangulates, Cheapest, NamesOnce}
use Rattle.triangulation.specs.LeastTotal.{Least}
use Rattle.validation.specs.Validation.{times}

-- the list is the tiling `set`, in whatever order and without repeats (rule 3.13)
pub record IsTiling (job : Problem) (list set : List ℕ) : Type 0 where
  pub tiles : Triangulates job set
  pub once : NamesOnce list set

-- the list is a tiling without repeats, of the stated total (rules 3.13, 4.22)
pub record Acceptable (job : Problem) (list : List ℕ) (stated : ℕ) : Type 0 where
  pub set : List ℕ
  pub tiling : IsTiling job list set
  pub total : stated ≡ total_weight job set

-- two lists have the same numbers, each as often, in whatever order (rule 3.13)
abbrev pub SameNumbers : List ℕ → List ℕ → Type 0
SameNumbers list list' = (k : ℕ) → times k list ≡ times k list'

-- the excess over the least total, which is 0 exactly when no tiling costs less (rule 3.14)
pub record Excess (job : Problem) (stated excess : ℕ) : Type 0 where
  pub least : ℕ
  pub least_is : Least job least
  pub over : stated ≡ least + excess
  pub zero_cheapest : excess ≡ 0 → Cheapest job stated
  pub cheapest_zero : Cheapest job stated → excess ≡ 0
