-- How a patch at an agreed total ends, case by case, and the first number due on it. Assumes nothing.
use Prim.Native.Nat.{ℕ, zero, suc}
use mathlib.Core.Path.{◌≡◌, refl, sym, ap, ◌∙◌, subst}
use mathlib.Core.Logic.{◌≢◌}
use mathlib.Core.List.{List}
use native.Mathlib.Omega.{arith}
use lib.Dec.{eqb}
use lib.ListN.{length, replicate}
use borrow.Author.Tests.{eqb-true, eqb-false}
use Rattle.std.proofs.Common.{Err}
use Rattle.codes.specs.Refusals.{refusal}
use Rattle.lists.specs.Lists.{filled}
use Rattle.lists.proofs.Choice.{Truth, truth, holds, fails, yes, no}
use Rattle.terms.specs.Order as order
use Rattle.triangulation.specs.Triangulations.{Problem, ValidProblem, Answer, none, patch, best}
use Rattle.triangulation.specs.Problems.{problem_of}
use Rattle.triangulation.specs.LeastTotal.{NoTiling, Least}
use Rattle.triangulation.proofs.LeastTotal.{least_unique, Known, known, without, answer_known}
use Rattle.jobs.specs.Job.{Job, job_code}
use Rattle.jobs.specs.Due.{JobPlace, JobDue, Accepted, JobCallPlace, job_at, after_job, JobCallBefore}
use Rattle.jobs.specs.Due as job-due
use Rattle.jobs.proofs.Acceptance.{accepted_zero, zero_accepted, code_due}
use Rattle.jobs.proofs.Calls.{job_first}
use Rattle.triangulator.specs.Call.{Result, result_of, settled}
use Rattle.triangulator.proofs.Accepting.{accepted_well_formed}
use Rattle.pricing.specs.Patch.{refused_or, settled_at, patched_at}
use Rattle.pricing.specs.Due.{AgreedDue, of_job, not_least, FirstDue}

module _ (job : Job) (agreed : ℕ) (triangles work : List ℕ) where
  abbrev problem : Problem
  problem = problem_of job

  abbrev call : Result
  call = patched_at job agreed triangles work

  abbrev count : ℕ
  count = length job.candidates

  abbrev Fits : Type 0
  Fits = Accepted job (length triangles) (length work)

  pub job_valid : Accepted job (length triangles) (length work) → ValidProblem (problem_of job)
  job_valid a = (accepted_well_formed job (length triangles) (length work) (accepted_zero job (length triangles) (length work) a)).0.valid

  -- how a call ends
  pub data PatchEnd (r : Result) : Type 0 where
    in_refusal : (k : ℕ) → job-due.FirstDue job (length triangles) (length work) (suc k)
        → r ≡ result_of (Err (refusal (suc k))) triangles work → PatchEnd r
    in_none : Accepted job (length triangles) (length work) → NoTiling (problem_of job) → best (problem_of job) ≡ none
        → r ≡ settled none (length job.candidates) triangles work → PatchEnd r
    in_23 : Accepted job (length triangles) (length work) → (least : ℕ) → Least (problem_of job) least → agreed ≢ least
        → r ≡ result_of (Err (refusal 23)) triangles (filled (replicate (length job.candidates) 0) work) → PatchEnd r
    in_patch : Accepted job (length triangles) (length work) → Least (problem_of job) agreed → (l : List ℕ) → best (problem_of job) ≡ patch agreed l
        → r ≡ settled (patch agreed l) (length job.candidates) triangles work → PatchEnd r

  accepted_end : Fits → (a : Answer) → Known problem a → best problem ≡ a → PatchEnd (settled_at agreed a count triangles work)
  accepted_end ok _ (without h) e = in_none ok h e refl
  accepted_end ok _ (known least l h) e = by (truth (eqb agreed least))
    where
      by : Truth (eqb agreed least) → PatchEnd (settled_at agreed (patch least l) count triangles work)
      by (fails d) = in_23 ok least h (eqb-false agreed least d) (no _ _ d)
      by (holds d) =
          let q = sym (eqb-true agreed least d) in
          in_patch ok (subst (Least problem) q h) l (e ∙ ap (λ (t : ℕ). patch t l) q)
          (yes _ _ d ∙ ap (λ (t : ℕ). settled (patch t l) count triangles work) q)

  -- the call, by the number due on the job
  pub settled_call : job_code job (length triangles) (length work) ≡ 0
      → patched_at job agreed triangles work ≡ settled_at agreed (best (problem_of job)) (length job.candidates) triangles work
  unfolding patched_at
  settled_call e =
      ap (λ (k : ℕ). refused_or k triangles work (settled_at agreed (best (problem_of job)) (length job.candidates) triangles work)) e

  pub refused_call : (k : ℕ) → job_code job (length triangles) (length work) ≡ suc k
      → patched_at job agreed triangles work ≡ result_of (Err (refusal (suc k))) triangles work
  unfolding patched_at
  refused_call k e =
      ap (λ (j : ℕ). refused_or j triangles work (settled_at agreed (best (problem_of job)) (length job.candidates) triangles work)) e

  pub patch_end : PatchEnd (patched_at job agreed triangles work)
  patch_end = by (job_code job (length triangles) (length work)) refl
    where
      by : (k : ℕ) → job_code job (length triangles) (length work) ≡ k → PatchEnd call
      by zero e =
          let ok = zero_accepted job (length triangles) (length work) e in
          subst PatchEnd (sym (settled_call e)) (accepted_end ok (best problem) (answer_known problem (job_valid ok)) refl)
      by (suc k) e = in_refusal k (code_due job (length triangles) (length work) k e) (refused_call k e)

  -- ---- the first number due on the call
  abbrev Due : JobCallPlace → ℕ → Type 0
  Due = AgreedDue job agreed (length triangles) (length work)

  to_job : (p : JobPlace) (k : ℕ) → Due (job_at p) k → JobDue job (length triangles) (length work) p k
  to_job p k (of_job d) = d

  pub first_of_job : {k : ℕ} → job-due.FirstDue job (length triangles) (length work) k → FirstDue job agreed (length triangles) (length work) k
  first_of_job f = job_first (λ p k d. of_job d) to_job f

  pub first_23 : Accepted job (length triangles) (length work) → (least : ℕ) → Least (problem_of job) least → agreed ≢ least
      → FirstDue job agreed (length triangles) (length work) 23
  first_23 ok least h d = record {
    place = after_job;
    is_due = not_least (h.set, h.tiles) (λ (l : Least problem agreed). d (least_unique l h));
    none_before = none_before;
  }
    where
      none_before : (q : JobCallPlace) (j : ℕ) → order.Precedes JobCallBefore q j after_job 23 → Due q j → ⊥
      none_before _ j l (of_job {p} x) = ok.none p j x
      none_before _ _ (order.by_number l) (not_least t x) = omega arith
      none_before _ _ (order.by_place x14) (not_least t x) = elim x14 [ ]
