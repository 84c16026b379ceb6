-- What the code knows once the job is not refused: what the dynamic programme needs. Assumes nothing.
use Prim.Native.Nat.{ℕ, ◌+◌, ◌≤◌}
use mathlib.Core.Path.{◌≡◌}
use lib.ListN.{length}
use Rattle.std.proofs.Common.{Ok}
use Rattle.codes.specs.Refusals.{or_refused}
use Rattle.codes.proofs.Refusals.{none_answered}
use Rattle.jobs.specs.Job.{Job, job_code}
use Rattle.minimum_weight.specs.Tables.{WellFormed}
use Rattle.triangulator.proofs.Accepting.{accepted_well_formed}

module _ (job : Job) (trianglePlaces workPlaces : ℕ) (accepted : Ok (tt {0}) ≡ or_refused (job_code job trianglePlaces workPlaces) (tt {0})) where
  pub none_due : job_code job trianglePlaces workPlaces ≡ 0
  none_due = (none_answered _ accepted).0

  pub formed : WellFormed job.n job.candidates job.weights job.rows × (length job.candidates ≤ workPlaces) × (job.n ≤ trianglePlaces + 2)
  formed = accepted_well_formed job trianglePlaces workPlaces none_due
