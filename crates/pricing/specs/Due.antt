-- The numbers due on a call that patches at an agreed total, each by itself and at its place: one of the job, or after it 23. Definitions only.
use Rattle.std.specs.Prelude.{ℕ}
use Rattle.terms.specs.Order.{First}
use Rattle.triangulation.specs.Problems.{problem_of}
use Rattle.triangulation.specs.LeastTotal.{HasTiling, Least}
use Rattle.jobs.specs.Job.{Job}
use Rattle.jobs.specs.Due.{JobPlace, JobDue, JobCallPlace, job_at, after_job, JobCallBefore}

module _ (job : Job) (agreed trianglePlaces workPlaces : ℕ) where
  -- number k is due at a place (rules 4.13 to 4.17, 4.23)
  pub data AgreedDue : JobCallPlace → ℕ → Type 0 where
    -- one of the job's (rules 4.13 to 4.17)
    of_job : {p : JobPlace} {k : ℕ} → JobDue job trianglePlaces workPlaces p k → AgreedDue (job_at p) k
    -- there is a tiling, and the agreed total is not the least (rule 4.23)
    not_least : HasTiling (problem_of job) → (Least (problem_of job) agreed → ⊥) → AgreedDue after_job 23

  -- the first number due on a call (rule 4.37)
  abbrev pub FirstDue : ℕ → Type 0
  FirstDue = First JobCallBefore AgreedDue
