-- The number that the judge gives, by what is due. Assumes nothing.
use Prim.Native.Nat.{ℕ, suc, ◌-◌}
use mathlib.Core.Path.{◌≡◌, ◌∙◌}
use mathlib.Core.List.{List}
use mathlib.Core.Logic.{◌≢◌}
use borrow.Author.Tests.{ne_eqb}
use Rattle.lists.proofs.Choice.{yes, no, not_true_false}
use Rattle.terms.proofs.Numbers.{due_on, due_neither}
use Rattle.terms.proofs.Order.{verdict_first, verdict_given}
use Rattle.triangulation.specs.Triangulations.{Problem, total_weight}
use Rattle.triangulation.specs.Problems.{problem_of}
use Rattle.jobs.specs.Job.{Job, job_code}
use Rattle.jobs.specs.Due.{AcceptedWithoutTriangles}
use Rattle.jobs.proofs.Acceptance.{accepted_zero, zero_accepted}
use Rattle.jobs.proofs.Calls.{ordered}
use Rattle.validation.specs.Validation.{named, list_total, list_code}
use Rattle.judge.specs.Call.{judge_code}
use Rattle.judge.specs.Demands.{IsTiling, Acceptable}
use Rattle.judge.specs.Due.{FirstDue}
use Rattle.judge.proofs.Tilings.{tiling_is, is_tiling_lem, total_of, zero_acceptable, acceptable_zero}
use Rattle.judge.proofs.FirstNumber.{verdict}

module _ (job : Job) (list : List ℕ) (stated workPlaces : ℕ) where
  abbrev problem : Problem
  problem = problem_of job

  abbrev code : ℕ
  code = judge_code job list stated workPlaces

  -- ---- a number is given exactly when it is the first due
  pub code_due : (k : ℕ) → code ≡ suc k → FirstDue job list stated workPlaces (suc k)
  code_due k e = verdict_given (verdict job list stated workPlaces) e

  pub due_code : (k : ℕ) → FirstDue job list stated workPlaces k → code ≡ k
  due_code k f = verdict_first ordered (verdict job list stated workPlaces) f

  -- ---- and none exactly when the problem is accepted and the list acceptable
  pub zero_accepts : code ≡ 0 → AcceptedWithoutTriangles job workPlaces × Acceptable problem list stated
  unfolding judge_code
  zero_accepts e =
      let z = due_neither (job_code job (job.n - 2) workPlaces) (list_code problem list stated) e in
      (zero_accepted job (job.n - 2) workPlaces z.0, zero_acceptable problem list stated z.1)

  pub accepts_zero : AcceptedWithoutTriangles job workPlaces → Acceptable problem list stated → code ≡ 0
  unfolding judge_code
  accepts_zero a l =
      due_on (list_code problem list stated) (accepted_zero job (job.n - 2) workPlaces a) ∙ acceptable_zero problem list stated l

  -- ---- of an accepted problem 21 where the list is no tiling, and 22 where it is one of another total
  pub no_tiling_code : AcceptedWithoutTriangles job workPlaces → ((set : List ℕ) → IsTiling problem list set → ⊥) → code ≡ 21
  unfolding judge_code list_code
  no_tiling_code a h =
      due_on (list_code problem list stated) (accepted_zero job (job.n - 2) workPlaces a)
      ∙ no _ _ (not_true_false _ (λ t. h (named problem list) (tiling_is problem list t)))

  pub other_total_code : AcceptedWithoutTriangles job workPlaces → (set : List ℕ) → IsTiling problem list set → stated ≢ total_weight problem set
      → code ≡ 22
  unfolding judge_code list_code
  other_total_code a set t h =
      due_on (list_code problem list stated) (accepted_zero job (job.n - 2) workPlaces a)
      ∙ yes _ _ (is_tiling_lem problem list t)
      ∙ no _ _ (ne_eqb stated (list_total problem list) (λ e. h (e ∙ total_of problem list t)))
