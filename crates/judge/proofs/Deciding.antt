-- What the code knows once the job, and then the list, is not refused. Assumes nothing.
use Prim.Native.Nat.{ℕ, ◌-◌, ◌≤◌}
use mathlib.Core.Path.{◌≡◌, ◌∙◌}
use mathlib.Core.List.{List}
use lib.ListN.{length}
use Rattle.std.proofs.Common.{Ok, Some}
use Rattle.codes.specs.Refusals.{or_refused}
use Rattle.codes.proofs.Refusals.{none_answered}
use Rattle.jobs.specs.Job.{Job, code_without_triangles}
use Rattle.terms.proofs.Numbers.{due_on}
use Rattle.triangulation.specs.Triangulations.{best_key, best}
use Rattle.triangulation.specs.Problems.{problem_of}
use Rattle.triangulation.specs.Recursion.{cost_of, key_total}
use Rattle.minimum_weight.specs.Tables.{WellFormed}
use Rattle.triangulator.proofs.Accepting.{accepted_well_formed}
use Rattle.validation.specs.Validation.{list_code}
use Rattle.judge.specs.Call.{excess_over, judge_code}
use Rattle.judge.proofs.Tilings.{zero_acceptable}
use Rattle.judge.proofs.Excess.{excess_by_cost}

module _ (job : Job) (workPlaces : ℕ) (accepted : Ok (tt {0}) ≡ or_refused (code_without_triangles job workPlaces) (tt {0})) where
  none_on_job : code_without_triangles job workPlaces ≡ 0
  none_on_job = (none_answered _ accepted).0

  -- the job is accepted: what the dynamic programme needs
  pub formed : WellFormed job.n job.candidates job.weights job.rows × (length job.candidates ≤ workPlaces)
  formed = let f = accepted_well_formed job (job.n - 2) workPlaces none_on_job in (f.0, f.1)

  -- so is the list: no number is due, and the total stated is as far above the least as the answer says
  module _ (list : List ℕ) (stated : ℕ) (listed : Ok (tt {0}) ≡ or_refused (list_code (problem_of job) list stated) (tt {0})) where
    pub none_due : judge_code job list stated workPlaces ≡ 0
    unfolding judge_code
    none_due = due_on _ none_on_job ∙ (none_answered _ listed).0

    pub over : (cost_of (best_key (problem_of job)) ≤ stated) × (stated - cost_of (best_key (problem_of job)) ≡ excess_over (best (problem_of job)) stated)
        × (key_total (best_key (problem_of job)) ≡ Some (cost_of (best_key (problem_of job))))
    over =
        let a = zero_acceptable (problem_of job) list stated (none_answered _ listed).0 in
        excess_by_cost (problem_of job) formed.0.valid a.set a.tiling.tiles stated a.total
