-- The number that the judge's tests give is the first that is due. Assumes nothing.
use Prim.Native.Nat.{ℕ, ◌-◌}
use mathlib.Core.Path.{◌≡◌, refl}
use mathlib.Core.Bool.{true}
use mathlib.Core.List.{List}
use native.Mathlib.Omega.{arith}
use lib.Dec.{eqb}
use borrow.Author.Tests.{eqb-true, eqb-false}
use Rattle.lists.proofs.Choice.{true_not_false}
use Rattle.terms.specs.Order.{Precedes, by_place, by_number}
use Rattle.terms.proofs.Order.{Verdict, none_due}
use Rattle.triangulation.specs.Triangulations.{Problem}
use Rattle.triangulation.specs.Problems.{problem_of}
use Rattle.jobs.specs.Job.{Job}
use Rattle.jobs.specs.Due.{JobPlace, JobDue, AcceptedWithoutTriangles, JobCallPlace, job_at, after_job, JobCallBefore}
use Rattle.jobs.proofs.First.{verdict_unless}
use Rattle.jobs.proofs.FirstNumber as jobs
use Rattle.jobs.proofs.Calls.{call_verdict}
use Rattle.validation.specs.Validation.{named, is_tiling, list_total, list_code}
use Rattle.judge.specs.Call.{judge_code}
use Rattle.judge.specs.Due.{JudgeDue, of_job, no_tiling, other_total}
use Rattle.judge.proofs.Tilings.{tiling_is, is_tiling_lem}

module _ (job : Job) (list : List ℕ) (stated workPlaces : ℕ) where
  abbrev problem : Problem
  problem = problem_of job

  abbrev D : JobCallPlace → ℕ → Type 0
  D = JudgeDue job list stated workPlaces

  -- what is due at a place of the job is due on the job
  pub to_job : (p : JobPlace) (k : ℕ) → JudgeDue job list stated workPlaces (job_at p) k → JobDue job (job.n - 2) workPlaces p k
  to_job p k (of_job d) = d

  -- ---- of an accepted job, the list's two
  module _ (a : AcceptedWithoutTriangles job workPlaces) where
    before_21 : (p : JobCallPlace) (j : ℕ) → Precedes JobCallBefore p j after_job 21 → D p j → ⊥
    before_21 _ j h (of_job {p} d) = a.none p j d
    before_21 _ _ (by_number l) (no_tiling d) = omega arith
    before_21 _ _ (by_number l) (other_total d) = omega arith
    before_21 _ _ (by_place x) (no_tiling d) = elim x [ ]
    before_21 _ _ (by_place x) (other_total d) = elim x [ ]

    module _ (t : is_tiling problem list ≡ true) where
      before_22 : (p : JobCallPlace) (j : ℕ) → Precedes JobCallBefore p j after_job 22 → D p j → ⊥
      before_22 _ j h (of_job {p} d) = a.none p j d
      before_22 _ _ (by_number l) (no_tiling d) = d (named problem list) (tiling_is problem list t)
      before_22 _ _ (by_number l) (other_total d) = omega arith
      before_22 _ _ (by_place x) (no_tiling d) = elim x [ ]
      before_22 _ _ (by_place x) (other_total d) = elim x [ ]

      nothing : eqb stated (list_total problem list) ≡ true → (p : JobCallPlace) (j : ℕ) → D p j → ⊥
      nothing e _ j (of_job {p} d) = a.none p j d
      nothing e _ _ (no_tiling d) = d (named problem list) (tiling_is problem list t)
      nothing e _ _ (other_total d) = d (eqb-true stated (list_total problem list) e)

    list_verdict : Verdict JobCallBefore D (list_code problem list stated)
    unfolding list_code
    list_verdict =
        verdict_unless after_job 20 (is_tiling problem list) _ before_21 (λ e. no_tiling (λ set t. true_not_false (is_tiling_lem problem list t) e))
        (λ t. verdict_unless after_job 21 (eqb stated (list_total problem list)) _ (before_22 t)
        (λ e. other_total (eqb-false stated (list_total problem list) e))
        (λ e. none_due (record { none = nothing t e }) refl))

  -- ---- the number is the first due, or 0 where none is
  pub verdict : Verdict JobCallBefore (JudgeDue job list stated workPlaces) (judge_code job list stated workPlaces)
  unfolding judge_code
  verdict = call_verdict (λ p k d. of_job d) to_job (jobs.verdict job (job.n - 2) workPlaces) list_verdict
