-- What the users asked of the judge, of the call's judgement and work table. Assumes nothing.
use Prim.Native.Nat.{ℕ, zero, suc, ◌-◌}
use mathlib.Core.Path.{◌≡◌, refl, sym, ap, ◌∙◌, subst}
use mathlib.Core.List.{List}
use native.Mathlib.Omega.{arith}
use lib.ListN.{length, replicate}
use Rattle.std.proofs.Common.{Ok, Err}
use Rattle.codes.specs.Refusals.{refusal, number_of}
use Rattle.lists.specs.Lists.{filled}
use Rattle.terms.specs.Numbers.{first_due}
use Rattle.terms.proofs.Order.{none_first, verdict_none}
use Rattle.triangulation.specs.Triangulations.{Problem, ValidProblem, best}
use Rattle.triangulation.specs.Problems.{problem_of}
use Rattle.triangulation.specs.Demand3.{HandedBack}
use Rattle.jobs.specs.Job.{Job, code_without_triangles}
use Rattle.jobs.specs.Due.{AcceptedWithoutTriangles}
use Rattle.jobs.proofs.Acceptance.{accepted_zero}
use Rattle.triangulator.proofs.Accepting.{accepted_well_formed}
use Rattle.judge.specs.Call.{excess_of, excess_over, judge_code, Result, result_of, settled, judged}
use Rattle.judge.specs.Demands.{Acceptable, SameNumbers, Excess}
use Rattle.judge.specs.Due.{FirstDue}
use Rattle.judge.proofs.Tilings.{same_code}
use Rattle.judge.proofs.Numbers.{code_due, due_code, zero_accepts, accepts_zero}
use Rattle.judge.proofs.FirstNumber.{verdict}
use Rattle.judge.proofs.Excess.{excess_is}

-- an acceptance is no refusal
not_both : {excess number : ℕ} → Ok excess ≡ Err (refusal number) → ⊥
not_both e = let z : ◌≡◌ {A = ℕ} 0 1 = cc in omega arith

module _ (job : Job) where
  abbrev problem : Problem
  problem = problem_of job

  pub valid : {workPlaces : ℕ} → AcceptedWithoutTriangles job workPlaces → ValidProblem problem
  valid {workPlaces} a = (accepted_well_formed job (job.n - 2) workPlaces (accepted_zero job (job.n - 2) workPlaces a)).0.valid

  module _ (list : List ℕ) (stated : ℕ) (work : List ℕ) where
    abbrev code : ℕ
    code = judge_code job list stated (length work)

    abbrev call : Result
    call = judged job list stated work

    -- the call, by its number
    pub by_code : {k : ℕ} → judge_code job list stated (length work) ≡ k →
        judged job list stated work ≡ settled k (excess_over (best problem) stated) (length job.candidates) work
    unfolding judged
    by_code e = ap (λ (k : ℕ). settled k (excess_over (best problem) stated) (length job.candidates) work) e

    number_is : {k : ℕ} → code ≡ suc k → call.judgement ≡ Err (refusal (suc k))
    number_is e = ap (λ (r : Result). r.judgement) (by_code e)

    accepted_code : (excess : ℕ) → call.judgement ≡ Ok excess → code ≡ 0
    accepted_code excess e = by code refl
      where
        by : (k : ℕ) → code ≡ k → code ≡ 0
        by zero f = f
        by (suc k) f = absurd (not_both (sym e ∙ number_is f))

    -- of an accepted problem the judge accepts exactly those lists that are a tiling without repeats and have the stated total (rules 3.13, 4.36)
    pub accepts_when : AcceptedWithoutTriangles job (length work) → Acceptable problem list stated →
        (excess : ℕ) × ((judged job list stated work).judgement ≡ Ok excess)
    accepts_when a l = (excess_over (best problem) stated, ap (λ (r : Result). r.judgement) (by_code (accepts_zero job list stated (length work) a l)))

    pub accepts_only_when : (excess : ℕ) → (judged job list stated work).judgement ≡ Ok excess →
        AcceptedWithoutTriangles job (length work) × Acceptable problem list stated
    accepts_only_when excess e = zero_accepts job list stated (length work) (accepted_code excess e)

    -- then its answer is how far the total is above the least, 0 exactly when no tiling costs less (rule 3.14), and it leaves zeros (rule 3.9)
    pub accepted_excess : (excess : ℕ) → (judged job list stated work).judgement ≡ Ok excess → Excess problem stated excess
    accepted_excess excess e =
        let o = accepts_only_when excess e in
        let x : call.judgement ≡ Ok (excess_over (best problem) stated) =
        ap (λ (r : Result). r.judgement) (by_code (accepted_code excess e)) in
        subst (Excess problem stated) (ap excess_of (sym x ∙ e)) (excess_is problem (valid o.0) o.1.set o.1.tiling.tiles stated o.1.total)

    pub accepted_work : (excess : ℕ) → (judged job list stated work).judgement ≡ Ok excess
        → (judged job list stated work).work ≡ filled (replicate (length job.candidates) 0) work
    accepted_work excess e = ap (λ (r : Result). r.work) (by_code (accepted_code excess e))

    -- every other call is refused with the first number due, and changes no table (rules 4.30, 4.36)
    pub refused_first : (k : ℕ) → FirstDue job list stated (length work) k → judged job list stated work ≡ result_of (Err (refusal k)) work
    refused_first zero f = absurd (none_first (verdict_none (verdict job list stated (length work)) (due_code job list stated (length work) 0 f)) f)
    refused_first (suc k) f = by_code (due_code job list stated (length work) (suc k) f)

    pub given_first : (k : ℕ) → (judged job list stated work).judgement ≡ Err (refusal k) → FirstDue job list stated (length work) k
    given_first k r = by code refl
      where
        by : (j : ℕ) → code ≡ j → FirstDue job list stated (length work) k
        by zero e = absurd (not_both (sym (ap (λ (x : Result). x.judgement) (by_code e)) ∙ r))
        by (suc j) e =
            let q : suc j ≡ k = ap number_of (sym (number_is e) ∙ r) in
            subst (λ (i : ℕ). FirstDue job list stated (length work) i) q (code_due job list stated (length work) j e)

  -- the order of the list never matters (rule 3.13)
  pub order_never_matters : (list list' : List ℕ) (stated : ℕ) (work : List ℕ) → SameNumbers list list' →
      judged job list stated work ≡ judged job list' stated work
  unfolding judged judge_code
  order_never_matters list list' stated work h =
      ap (λ (k : ℕ). settled (first_due (code_without_triangles job (length work)) k) (excess_over (best problem) stated) (length job.candidates) work)
      (same_code problem list list' stated h)

  -- a patch as the caller is handed it is accepted with excess 0 (rules 3.8, 3.14)
  pub handed_accepted : (total : ℕ) (part work : List ℕ) → AcceptedWithoutTriangles job (length work) → HandedBack problem total part
      → judged job part total work ≡ result_of (Ok 0) (filled (replicate (length job.candidates) 0) work)
  handed_accepted total part work a h =
      let o = h.right in
      let l : Acceptable problem part total = record { set = o.set; tiling = record { tiles = o.tiles; once = h.once }; total = o.weight } in
      let z = accepts_zero job part total (length work) a l in
      let x = (excess_is problem (valid a) o.set o.tiles total o.weight).cheapest_zero o.lowest in
      by_code part total work z ∙ ap (λ (e : ℕ). result_of (Ok e) (filled (replicate (length job.candidates) 0) work)) x
