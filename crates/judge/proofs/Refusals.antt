-- When the judge gives 21 and when 22, of the call, in the users' words. Assumes nothing.
use Prim.Native.Nat.{ℕ, ◌-◌, ◌≤◌, ◌<◌}
use mathlib.Core.Path.{◌≡◌, refl, sym, ◌∙◌, subst}
use mathlib.Core.Logic.{◌≢◌, ◌⊎◌, inl, inr, ⊎_elim}
use mathlib.Core.List.{List, Memᴰ}
use native.Mathlib.Omega.{arith}
use lib.ListN.{length, get_or}
use Rattle.std.proofs.Common.{Err}
use Rattle.jobs.specs.Job.{Job}
use Rattle.codes.specs.Refusals.{refusal}
use Rattle.lists.proofs.Choice.{Truth, truth, holds, fails, true_not_false}
use Rattle.triangulation.specs.Triangulations.{Problem, total_weight}
use Rattle.triangulation.specs.Problems.{problem_of}
use Rattle.triangulation.specs.Demand3.{Triangulates}
use Rattle.terms.specs.Order.{Precedes, by_number}
use Rattle.jobs.specs.Due.{AcceptedWithoutTriangles, JobCallPlace, after_job, JobCallBefore}
use Rattle.jobs.proofs.Acceptance.{at_most_17}
use Rattle.jobs.proofs.Calls.{none_on_job}
use Rattle.validation.specs.Validation.{named, is_tiling, list_total}
use Rattle.validation.proofs.Tilings.{tiling_length}
use Rattle.judge.specs.Call.{result_of, judged}
use Rattle.judge.specs.Demands.{IsTiling}
use Rattle.judge.specs.Due.{JudgeDue, of_job, no_tiling, other_total, FirstDue}
use Rattle.judge.proofs.Tilings.{names, tiling_is, is_tiling_lem, total_of}
use Rattle.judge.proofs.FirstNumber.{to_job}
use Rattle.judge.proofs.Numbers.{no_tiling_code, other_total_code}
use Rattle.judge.proofs.Demands.{valid, by_code, given_first}

module _ (job : Job) (list : List ℕ) (stated : ℕ) (work : List ℕ) where
  abbrev problem : Problem
  problem = problem_of job

  -- a number that is due on an accepted problem is one of the list's two
  of_list : {p : JobCallPlace} {k : ℕ} → JudgeDue job list stated (length work) p k → AcceptedWithoutTriangles job (length work)
      → ((k ≡ 21) × ((set : List ℕ) → IsTiling problem list set → ⊥)) ⊎ ((k ≡ 22) × (stated ≢ list_total problem list))
  of_list (of_job {p} {k} d) a = absurd (a.none p k d)
  of_list (no_tiling h) a = inl (refl, h)
  of_list (other_total h) a = inr (refl, h)

  -- a number of the list is due there, after every place of the job
  at_list : {p : JobCallPlace} {k : ℕ} → 17 < k → JudgeDue job list stated (length work) p k → p ≡ after_job
  at_list l (of_job d) = absurd (omega (arith, at_most_17 job (job.n - 2) (length work) d))
  at_list l (no_tiling h) = refl
  at_list l (other_total h) = refl

  none_before_list : {k : ℕ} → 17 < k → FirstDue job list stated (length work) k → (q : JobCallPlace) (j : ℕ)
      → Precedes JobCallBefore q j after_job k → JudgeDue job list stated (length work) q j → ⊥
  none_before_list {k} l f q j h = f.none_before q j (subst (λ (p : JobCallPlace). Precedes JobCallBefore q j p k) (sym (at_list l f.is_due)) h)

  job_accepted : {k : ℕ} → 17 < k → FirstDue job list stated (length work) k → AcceptedWithoutTriangles job (length work)
  job_accepted l f = none_on_job (λ p k d. of_job d) (to_job job list stated (length work)) f (at_list l f.is_due)

  -- ---- 21 is given exactly when the problem is accepted and the list is no tiling without repeats (rules 4.21, 4.36)
  pub gives_21 : AcceptedWithoutTriangles job (length work) → ((set : List ℕ) → IsTiling problem list set → ⊥)
      → judged job list stated work ≡ result_of (Err (refusal 21)) work
  gives_21 a h = by_code job list stated work (no_tiling_code job list stated (length work) a h)

  pub given_21 : (judged job list stated work).judgement ≡ Err (refusal 21)
      → AcceptedWithoutTriangles job (length work) × ((set : List ℕ) → IsTiling problem list set → ⊥)
  given_21 e =
      let f : FirstDue job list stated (length work) 21 = given_first job list stated work 21 e in
      let a = job_accepted (omega arith) f in
      (a, ⊎_elim (λ d. d.1) (λ d. absurd (omega (arith, d.0))) (of_list f.is_due a))

  -- so where a number stands at two places, or is no candidate's, where there are not n - 2 of them, and for every list of a problem that has no tiling
  pub twice_21 : AcceptedWithoutTriangles job (length work) → (i j : ℕ) → i < j → j < length list → get_or list i 0 ≡ get_or list j 0
      → judged job list stated work ≡ result_of (Err (refusal 21)) work
  twice_21 a i j h l e = gives_21 a (λ set t. t.once.apart i j h l e)

  pub no_candidate_21 : AcceptedWithoutTriangles job (length work) → (k : ℕ) → Memᴰ k list → length job.candidates ≤ k
      → judged job list stated work ≡ result_of (Err (refusal 21)) work
  no_candidate_21 a k m h = gives_21 a (λ set t. omega (arith, (names problem list t).candidate k m))

  pub other_length_21 : AcceptedWithoutTriangles job (length work) → length list ≢ job.n - 2
      → judged job list stated work ≡ result_of (Err (refusal 21)) work
  other_length_21 a h = gives_21 a (λ set t. h (tiling_length problem list (valid job a) (is_tiling_lem problem list t)))

  pub no_tiling_21 : AcceptedWithoutTriangles job (length work) → ((set : List ℕ) → Triangulates problem set → ⊥)
      → judged job list stated work ≡ result_of (Err (refusal 21)) work
  no_tiling_21 a h = gives_21 a (λ set t. h set t.tiles)

  -- ---- 22 exactly when the problem is accepted and the list is such a tiling, but the stated total is not its total (rules 4.22, 4.36)
  pub gives_22 : AcceptedWithoutTriangles job (length work) → (set : List ℕ) → IsTiling problem list set → stated ≢ total_weight problem set
      → judged job list stated work ≡ result_of (Err (refusal 22)) work
  gives_22 a set t h = by_code job list stated work (other_total_code job list stated (length work) a set t h)

  pub given_22 : (judged job list stated work).judgement ≡ Err (refusal 22)
      → AcceptedWithoutTriangles job (length work) × ((set : List ℕ) × IsTiling problem list set × (stated ≢ total_weight problem set))
  given_22 e =
      let f : FirstDue job list stated (length work) 22 = given_first job list stated work 22 e in
      let a = job_accepted (omega arith) f in
      let t = tiling (truth (is_tiling problem list)) (λ h. none_before_list (omega arith) f after_job 21 (by_number (omega arith)) (no_tiling h)) in (
        a,
        (
          named problem list,
          t,
          λ (q : stated ≡ total_weight problem (named problem list)).
              ⊎_elim (λ d. absurd (omega (arith, d.0))) (λ d. d.1 (q ∙ sym (total_of problem list t))) (of_list f.is_due a),
        ),
      )
    where
      tiling : Truth (is_tiling problem list) → (((set : List ℕ) → IsTiling problem list set → ⊥) → ⊥) → IsTiling problem list (named problem list)
      tiling (holds t) h = tiling_is problem list t
      tiling (fails t) h = absurd (h (λ set u. true_not_false (is_tiling_lem problem list u) t))
