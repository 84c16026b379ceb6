-- The numbers due on a call of the judge, each by itself and at its place: one of the job, or after it the list. Definitions only.
use Rattle.std.specs.Prelude.{ℕ, ◌-◌, List, ◌≢◌}
use Rattle.terms.specs.Order.{First}
use Rattle.jobs.specs.Job.{Job}
use Rattle.jobs.specs.Due.{JobPlace, JobDue, JobCallPlace, job_at, after_job, JobCallBefore}
use Rattle.triangulation.specs.Problems.{problem_of}
use Rattle.validation.specs.Validation.{list_total}
use Rattle.judge.specs.Demands.{IsTiling}

module _ (job : Job) (list : List ℕ) (stated workPlaces : ℕ) where
  -- number k is due at a place (rules 4.13 to 4.17, 4.21, 4.22)
  pub data JudgeDue : JobCallPlace → ℕ → Type 0 where
    -- one of the job's, beside a triangle table that has its n - 2 places (rules 4.13 to 4.17, 4.36)
    of_job : {p : JobPlace} {k : ℕ} → JobDue job (job.n - 2) workPlaces p k → JudgeDue (job_at p) k
    -- the list is no tiling, or has a repeat (rule 4.21)
    no_tiling : ((set : List ℕ) → IsTiling (problem_of job) list set → ⊥) → JudgeDue after_job 21
    -- the stated total is not the list's (rule 4.22)
    other_total : stated ≢ list_total (problem_of job) list → JudgeDue after_job 22

  -- the first number due on a call (rule 4.36)
  abbrev pub FirstDue : ℕ → Type 0
  FirstDue = First JobCallBefore JudgeDue
