-- What the users asked of a patch at an agreed total, of the call's outcome and tables. Assumes nothing.
use Prim.Native.Nat.{ℕ, suc, ◌-◌}
use mathlib.Core.Path.{◌≡◌, refl, sym, ap, ◌∙◌, subst}
use mathlib.Core.Logic.{◌≢◌}
use mathlib.Core.List.{List}
use native.Mathlib.Omega.{arith}
use lib.ListN.{length, replicate}
use Rattle.std.proofs.Common.{Some, None, Ok, Err}
use Rattle.codes.specs.Refusals.{refusal, number_of}
use Rattle.lists.specs.Lists.{filled}
use Rattle.terms.specs.Order.{NoneDue}
use Rattle.terms.proofs.Order.{none_first, first_unique}
use Rattle.triangulation.specs.Triangulations.{Problem, Answer, none, patch, best}
use Rattle.triangulation.specs.Problems.{problem_of}
use Rattle.triangulation.specs.Demand3.{Demand3}
use Rattle.triangulation.specs.LeastTotal.{HasTiling, NoTiling, Least}
use Rattle.triangulation.proofs.Demand3.{demand3, best_length}
use Rattle.triangulation.proofs.LeastTotal.{least_unique}
use Rattle.jobs.specs.Job.{Job}
use Rattle.jobs.specs.Due.{Accepted, JobCallPlace}
use Rattle.jobs.specs.Due as job-due
use Rattle.jobs.proofs.Acceptance.{at_most_17}
use Rattle.jobs.proofs.Calls.{ordered}
use Rattle.triangulator.specs.Call.{Outcome, patch_with, total_of, part_of, Result, result_of, settled}
use Rattle.triangulator.specs.Demands.{stated, Taken, a_patch, a_none, Handed, RestLeft}
use Rattle.triangulator.proofs.Demands.{never_refused, settled_states, settled_handed, settled_rest, refused_handed}
use Rattle.pricing.specs.Patch.{patched_at}
use Rattle.pricing.specs.Due.{AgreedDue, of_job, not_least, FirstDue}
use Rattle.pricing.proofs.Patching.{job_valid, PatchEnd, in_refusal, in_none, in_23, in_patch, patch_end, first_of_job, first_23}

module _ (job : Job) (agreed : ℕ) (triangles work : List ℕ) where
  abbrev problem : Problem
  problem = problem_of job

  abbrev call : Result
  call = patched_at job agreed triangles work

  abbrev count : ℕ
  count = length job.candidates

  abbrev cleared : List ℕ
  cleared = filled (replicate count 0) work

  abbrev Fits : Type 0
  Fits = Accepted job (length triangles) (length work)

  abbrev Due : JobCallPlace → ℕ → Type 0
  Due = AgreedDue job agreed (length triangles) (length work)

  abbrev End : Type 0
  End = PatchEnd job agreed triangles work call

  end : End
  end = patch_end job agreed triangles work

  -- the outcome of a result
  outcome_of : {r : Result} → call ≡ r → call.outcome ≡ r.outcome
  outcome_of e = ap (λ (r : Result). r.outcome) e

  -- ---- demand 1 (rules 4.33, 4.37): a patch or 'none' exactly when no number is due, 23 among them
  pub taken_when : NoneDue (AgreedDue job agreed (length triangles) (length work)) → Taken (patched_at job agreed triangles work).outcome
  taken_when n = by end
    where
      by : End → Taken call.outcome
      by (in_refusal k f e) = absurd (none_first n (first_of_job job agreed triangles work f))
      by (in_23 ok least h d e) = absurd (none_first n (first_23 job agreed triangles work ok least h d))
      by (in_none ok h b e) = subst (λ (r : Result). Taken r.outcome) (sym e) a_none
      by (in_patch ok h l b e) = subst (λ (r : Result). Taken r.outcome) (sym e) a_patch

  pub taken_only_when : Taken (patched_at job agreed triangles work).outcome → NoneDue (AgreedDue job agreed (length triangles) (length work))
  taken_only_when t = by end
    where
      none_with : Fits → (HasTiling problem → (Least problem agreed → ⊥) → ⊥) → NoneDue Due
      none_with ok h = record { none = no_due }
        where
          no_due : (p : JobCallPlace) (k : ℕ) → Due p k → ⊥
          no_due _ k (of_job {p} d) = ok.none p k d
          no_due _ _ (not_least t x) = h t x

      by : End → NoneDue Due
      by (in_refusal k f e) = absurd (never_refused (outcome_of e) t)
      by (in_23 ok least h d e) = absurd (never_refused (outcome_of e) t)
      by (in_none ok h b e) = none_with ok (λ t x. h t.0 t.1)
      by (in_patch ok h l b e) = none_with ok (λ t x. x h)

  -- every other call gets the first number due; one of the job changes no table (rule 4.30), 23 the work table alone (rule 4.23)
  pub refused_first : (k : ℕ) → job-due.FirstDue job (length triangles) (length work) k →
      patched_at job agreed triangles work ≡ result_of (Err (refusal k)) triangles work
  refused_first k f = by end
    where
      by : End → call ≡ result_of (Err (refusal k)) triangles work
      by (in_refusal j g e) =
          e ∙ ap (λ (i : ℕ). result_of (Err (refusal i)) triangles work)
          (first_unique ordered (first_of_job job agreed triangles work g) (first_of_job job agreed triangles work f))
      by (in_23 ok least h d e) = absurd (none_first ok f)
      by (in_none ok h b e) = absurd (none_first ok f)
      by (in_patch ok h l b e) = absurd (none_first ok f)

  pub first_given : (k : ℕ) → FirstDue job agreed (length triangles) (length work) k →
      (patched_at job agreed triangles work).outcome ≡ Err (refusal k)
  first_given k f = by end
    where
      refused_with : {j : ℕ} {t w : List ℕ} → call ≡ result_of (Err (refusal j)) t w → FirstDue job agreed (length triangles) (length work) j
          → call.outcome ≡ Err (refusal k)
      refused_with e g = outcome_of e ∙ ap (λ (i : ℕ). Err (refusal i)) (first_unique ordered g f)

      taken : {r : Result} → call ≡ r → Taken r.outcome → call.outcome ≡ Err (refusal k)
      taken e t = absurd (none_first (taken_only_when (subst (λ (r : Result). Taken r.outcome) (sym e) t)) f)

      by : End → call.outcome ≡ Err (refusal k)
      by (in_refusal j g e) = refused_with e (first_of_job job agreed triangles work g)
      by (in_23 ok least h d e) = refused_with e (first_23 job agreed triangles work ok least h d)
      by (in_none ok h b e) = taken e a_none
      by (in_patch ok h l b e) = taken e a_patch

  pub given_first : (k : ℕ) → (patched_at job agreed triangles work).outcome ≡ Err (refusal k) →
      FirstDue job agreed (length triangles) (length work) k
  given_first k q = by end
    where
      numbered : {j : ℕ} {t w : List ℕ} → call ≡ result_of (Err (refusal j)) t w → j ≡ k
      numbered e = ap number_of (sym (outcome_of e) ∙ q)

      by : End → FirstDue job agreed (length triangles) (length work) k
      by (in_refusal j g e) = subst (FirstDue job agreed (length triangles) (length work)) (numbered e) (first_of_job job agreed triangles work g)
      by (in_23 ok least h d e) = subst (FirstDue job agreed (length triangles) (length work)) (numbered e) (first_23 job agreed triangles work ok least h d)
      by (in_none ok h b e) = absurd (never_refused (sym (outcome_of e) ∙ q) a_none)
      by (in_patch ok h l b e) = absurd (never_refused (sym (outcome_of e) ∙ q) a_patch)

  -- 23 exactly when the job is accepted, has a tiling, and the agreed total is not the least (rules 4.23, 4.37)
  pub gives_23 : Accepted job (length triangles) (length work) → HasTiling (problem_of job) → (Least (problem_of job) agreed → ⊥) →
      patched_at job agreed triangles work ≡ result_of (Err (refusal 23)) triangles (filled (replicate (length job.candidates) 0) work)
  gives_23 ok t n = by end
    where
      by : End → call ≡ result_of (Err (refusal 23)) triangles cleared
      by (in_refusal k f e) = absurd (none_first ok f)
      by (in_23 _ least h d e) = e
      by (in_none _ h b e) = absurd (h t.0 t.1)
      by (in_patch _ h l b e) = absurd (n h)

  pub given_23 : (patched_at job agreed triangles work).outcome ≡ Err (refusal 23) →
      Accepted job (length triangles) (length work) × HasTiling (problem_of job) × (Least (problem_of job) agreed → ⊥)
  given_23 q = by end
    where
      by : End → Fits × HasTiling problem × (Least problem agreed → ⊥)
      by (in_refusal k f e) =
          let j : suc k ≡ 23 = ap number_of (sym (outcome_of e) ∙ q) in
          absurd (omega (arith, at_most_17 job (length triangles) (length work) f.is_due, j))
      by (in_23 ok least h d e) = (ok, (h.set, h.tiles), λ (l : Least problem agreed). d (least_unique l h))
      by (in_none ok h b e) = absurd (never_refused (sym (outcome_of e) ∙ q) a_none)
      by (in_patch ok h l b e) = absurd (never_refused (sym (outcome_of e) ∙ q) a_patch)

  -- where the agreed total is not the least, no triangle is written, whatever else is wrong (rules 4.23, 4.30)
  pub unwritten : (Least (problem_of job) agreed → ⊥) → (patched_at job agreed triangles work).triangles ≡ triangles
  unwritten n = by end
    where
      by : End → call.triangles ≡ triangles
      by (in_refusal k f e) = ap (λ (r : Result). r.triangles) e
      by (in_23 _ least h d e) = ap (λ (r : Result). r.triangles) e
      by (in_none _ h b e) = ap (λ (r : Result). r.triangles) e
      by (in_patch _ h l b e) = absurd (n h)

  -- 'none' before the agreed total is looked at (rule 4.37)
  pub none_whatever : Accepted job (length triangles) (length work) → NoTiling (problem_of job) →
      patched_at job agreed triangles work ≡ result_of (Ok None) triangles (filled (replicate (length job.candidates) 0) work)
  none_whatever ok n = by end
    where
      by : End → call ≡ result_of (Ok None) triangles cleared
      by (in_refusal k f e) = absurd (none_first ok f)
      by (in_23 _ least h d e) = absurd (n h.set h.tiles)
      by (in_none _ h b e) = e
      by (in_patch _ h l b e) = absurd (n h.set h.tiles)

  -- ---- demand 3 in full, but where 23 is due (rules 3.7, 3.8)
  pub right : Accepted job (length triangles) (length work) → (patched_at job agreed triangles work).outcome ≢ Err (refusal 23) →
      Demand3 (problem_of job) (stated (patched_at job agreed triangles work).outcome (patched_at job agreed triangles work).triangles)
  right ok n = by end
    where
      states : (a : Answer) → best problem ≡ a → call ≡ settled a count triangles work → Demand3 problem (stated call.outcome call.triangles)
      states a b e =
          subst (Demand3 problem) (b ∙ sym (ap (λ (r : Result). stated r.outcome r.triangles) e ∙ settled_states a count triangles work))
          (demand3 problem (job_valid job agreed triangles work ok))

      by : End → Demand3 problem (stated call.outcome call.triangles)
      by (in_refusal k f e) = absurd (none_first ok f)
      by (in_23 _ least h d e) = absurd (n (outcome_of e))
      by (in_none _ h b e) = states none b e
      by (in_patch _ h l b e) = states (patch agreed l) b e

  -- a patch has the agreed total; and it is given where that is the least (rules 4.23, 5.12)
  pub patch_at : Accepted job (length triangles) (length work) → Least (problem_of job) agreed →
      (patched_at job agreed triangles work).outcome ≡ Ok (Some (patch_with (job.n - 2) agreed))
  patch_at ok least = by end
    where
      by : End → call.outcome ≡ Ok (Some (patch_with (job.n - 2) agreed))
      by (in_refusal k f e) = absurd (none_first ok f)
      by (in_23 _ x h d e) = absurd (d (least_unique least h))
      by (in_none _ h b e) = absurd (h least.set least.tiles)
      by (in_patch _ h l b e) =
          outcome_of e ∙ ap (λ (c : ℕ). Ok (Some (patch_with c agreed))) (best_length problem (job_valid job agreed triangles work ok) agreed l b)

  pub total_agreed : (number total : ℕ) → (patched_at job agreed triangles work).outcome ≡ Ok (Some (patch_with number total)) → total ≡ agreed
  total_agreed number total q = by end
    where
      by : End → total ≡ agreed
      by (in_refusal k f e) = absurd (never_refused (sym q ∙ outcome_of e) a_patch)
      by (in_23 ok least h d e) = absurd (never_refused (sym q ∙ outcome_of e) a_patch)
      by (in_none ok h b e) = absurd (no_patch (sym q ∙ outcome_of e))
        where
          no_patch : ◌≡◌ {A = Outcome} (Ok (Some (patch_with number total))) (Ok None) → ⊥
          no_patch x = let z : ◌≡◌ {A = ℕ} 0 1 = cc in omega arith
      by (in_patch ok h l b e) = ap total_of (sym q ∙ outcome_of e)

  -- ---- what is handed back, after every call, and what is left beside it where the job is accepted (rules 3.8, 3.9, 4.30)
  pub handed : Handed (problem_of job) (part_of (patched_at job agreed triangles work).outcome (patched_at job agreed triangles work).triangles)
      (patched_at job agreed triangles work).outcome
  handed = by end
    where
      as_call : {r : Result} → call ≡ r → Handed problem (part_of r.outcome r.triangles) r.outcome
          → Handed problem (part_of call.outcome call.triangles) call.outcome
      as_call e h = subst (λ (r : Result). Handed problem (part_of r.outcome r.triangles) r.outcome) (sym e) h

      answered : Fits → (a : Answer) → best problem ≡ a → call ≡ settled a count triangles work
          → Handed problem (part_of call.outcome call.triangles) call.outcome
      answered ok a b e =
          as_call (e ∙ ap (λ (x : Answer). settled x count triangles work) (sym b))
          (settled_handed problem (job_valid job agreed triangles work ok) count triangles work)

      by : End → Handed problem (part_of call.outcome call.triangles) call.outcome
      by (in_refusal k f e) = as_call e (refused_handed problem (suc k) triangles)
      by (in_23 ok least h d e) = as_call e (refused_handed problem 23 triangles)
      by (in_none ok h b e) = answered ok none b e
      by (in_patch ok h l b e) = answered ok (patch agreed l) b e

  pub rest : Accepted job (length triangles) (length work) → RestLeft (length job.candidates) triangles work (patched_at job agreed triangles work)
  rest ok = by end
    where
      of : (a : Answer) → call ≡ settled a count triangles work → RestLeft count triangles work call
      of a e = subst (RestLeft count triangles work) (sym e) (settled_rest a count triangles work)

      by : End → RestLeft count triangles work call
      by (in_refusal k f e) = absurd (none_first ok f)
      by (in_23 _ least h d e) =
          let r = settled_rest none count triangles work in
          subst (RestLeft count triangles work) (sym e) (record { zeros = r.zeros; further_work = r.further_work; further_triangles = refl })
      by (in_none _ h b e) = of none e
      by (in_patch _ h l b e) = of (patch agreed l) e
