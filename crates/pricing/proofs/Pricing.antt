-- Demands 1 and 3 of the call that prices a direct job: its number, its total, 'none' and its work table. Assumes nothing.
use Prim.Native.Nat.{ℕ, zero, suc, ◌-◌}
use mathlib.Core.Path.{◌≡◌, refl, sym, ap, ◌∙◌, subst}
use mathlib.Core.List.{List}
use native.Mathlib.Omega.{arith}
use lib.ListN.{length, replicate}
use Rattle.std.proofs.Common.{Some, None, Ok, Err}
use Rattle.codes.specs.Refusals.{refusal, number_of}
use Rattle.lists.specs.Lists.{filled}
use Rattle.terms.proofs.Order.{none_first}
use Rattle.triangulation.specs.Triangulations.{Problem, ValidProblem, Answer, best}
use Rattle.triangulation.specs.Problems.{problem_of}
use Rattle.triangulation.specs.LeastTotal.{HasTiling, NoTiling, Least}
use Rattle.triangulation.proofs.LeastTotal.{Known, known, without, answer_known}
use Rattle.jobs.specs.Job.{Job, code_without_triangles}
use Rattle.jobs.specs.Due.{AcceptedWithoutTriangles}
use Rattle.jobs.specs.Due as job-due
use Rattle.jobs.proofs.Acceptance.{accepted_zero, zero_accepted, code_due, first_only}
use Rattle.triangulator.proofs.Accepting.{accepted_well_formed}
use Rattle.triangulator.specs.declared.Patch.{Patch}
use Rattle.triangulator.specs.Call.{Outcome, patch_with, total_of, triangles_of}
use Rattle.triangulator.specs.Demands.{Taken, a_patch, a_none}
use Rattle.triangulator.proofs.Demands.{never_refused}
use Rattle.pricing.specs.Quote.{Result, result_of, quote_of, settled, priced}

-- a total is not 'none'
not_none : {p : Patch} → ◌≡◌ {A = Outcome} (Ok (Some p)) (Ok None) → ⊥
not_none e = let z : ◌≡◌ {A = ℕ} 0 1 = cc in omega arith

module _ (job : Job) (work : List ℕ) where
  abbrev problem : Problem
  problem = problem_of job

  abbrev cleared : List ℕ
  cleared = filled (replicate (length job.candidates) 0) work

  -- an accepted job states a valid problem: what is proved of tilings holds of it (rules 3.1 to 3.3)
  pub priced_valid : AcceptedWithoutTriangles job (length work) → ValidProblem (problem_of job)
  priced_valid a = (accepted_well_formed job (job.n - 2) (length work) (accepted_zero job (job.n - 2) (length work) a)).0.valid

  -- how a call ends
  pub data PriceEnd (r : Result) : Type 0 where
    in_refusal : (k : ℕ) → job-due.FirstDue job (job.n - 2) (length work) (suc k) → r ≡ result_of (Err (refusal (suc k))) work → PriceEnd r
    in_total : (total : ℕ) → AcceptedWithoutTriangles job (length work) → Least (problem_of job) total
        → r ≡ result_of (Ok (Some (patch_with (job.n - 2) total))) (filled (replicate (length job.candidates) 0) work) → PriceEnd r
    in_none : AcceptedWithoutTriangles job (length work) → NoTiling (problem_of job)
        → r ≡ result_of (Ok None) (filled (replicate (length job.candidates) 0) work) → PriceEnd r

  abbrev at : ℕ → Answer → Result
  at k a = settled k (quote_of job.n a) (length job.candidates) work

  accepted_end : code_without_triangles job (length work) ≡ 0 → (a : Answer) → Known problem a → PriceEnd (at 0 a)
  accepted_end e _ (known least l h) = in_total least (zero_accepted job (job.n - 2) (length work) e) h refl
  accepted_end e _ (without h) = in_none (zero_accepted job (job.n - 2) (length work) e) h refl

  pub price_end : PriceEnd (priced job work)
  unfolding priced
  price_end = by (code_without_triangles job (length work)) refl
    where
      by : (k : ℕ) → code_without_triangles job (length work) ≡ k → PriceEnd (at (code_without_triangles job (length work)) (best problem))
      by zero e =
          subst (λ (k : ℕ). PriceEnd (at k (best problem))) (sym e)
          (accepted_end e (best problem) (answer_known problem (accepted_well_formed job (job.n - 2) (length work) e).0.valid))
      by (suc k) e =
          subst (λ (j : ℕ). PriceEnd (at j (best problem))) (sym e) (in_refusal k (code_due job (job.n - 2) (length work) k e) refl)

  -- ---- demand 1 (rules 4.33, 4.37): a total or 'none' exactly when the job is accepted, else the first number due, and the work table holds what it held
  pub priced_when : AcceptedWithoutTriangles job (length work) → Taken (priced job work).quote
  priced_when a = by price_end
    where
      by : PriceEnd (priced job work) → Taken (priced job work).quote
      by (in_refusal k f e) = absurd (none_first a f)
      by (in_total total _ h e) = subst (λ (r : Result). Taken r.quote) (sym e) a_patch
      by (in_none _ h e) = subst (λ (r : Result). Taken r.quote) (sym e) a_none

  pub priced_only_when : Taken (priced job work).quote → AcceptedWithoutTriangles job (length work)
  priced_only_when q = by price_end
    where
      by : PriceEnd (priced job work) → AcceptedWithoutTriangles job (length work)
      by (in_refusal k f e) = absurd (never_refused (ap (λ (r : Result). r.quote) e) q)
      by (in_total total a h e) = a
      by (in_none a h e) = a

  pub price_refused_first : (k : ℕ) → job-due.FirstDue job (job.n - 2) (length work) k → priced job work ≡ result_of (Err (refusal k)) work
  price_refused_first k f = by price_end
    where
      by : PriceEnd (priced job work) → priced job work ≡ result_of (Err (refusal k)) work
      by (in_refusal j g e) = e ∙ ap (λ (i : ℕ). result_of (Err (refusal i)) work) (first_only job (job.n - 2) (length work) (suc j) k g f)
      by (in_total total a h e) = absurd (none_first a f)
      by (in_none a h e) = absurd (none_first a f)

  pub price_given_first : (k : ℕ) → (priced job work).quote ≡ Err (refusal k) → job-due.FirstDue job (job.n - 2) (length work) k
  price_given_first k q = by price_end
    where
      by : PriceEnd (priced job work) → job-due.FirstDue job (job.n - 2) (length work) k
      by (in_refusal j g e) =
          subst (job-due.FirstDue job (job.n - 2) (length work)) (ap number_of (sym (ap (λ (r : Result). r.quote) e) ∙ q)) g
      by (in_total total a h e) = absurd (never_refused (sym (ap (λ (r : Result). r.quote) e) ∙ q) a_patch)
      by (in_none a h e) = absurd (never_refused (sym (ap (λ (r : Result). r.quote) e) ∙ q) a_none)

  -- ---- demand 3 as to total and 'none' (rules 3.7, 3.15): a total exactly when there is a tiling, and it is the least; 'none' exactly when there is none
  pub total_when : AcceptedWithoutTriangles job (length work) → HasTiling (problem_of job)
      → (total : ℕ) × ((priced job work).quote ≡ Ok (Some (patch_with (job.n - 2) total)))
  total_when a t = by price_end
    where
      by : PriceEnd (priced job work) → (total : ℕ) × ((priced job work).quote ≡ Ok (Some (patch_with (job.n - 2) total)))
      by (in_refusal k f e) = absurd (none_first a f)
      by (in_total total _ h e) = (total, ap (λ (r : Result). r.quote) e)
      by (in_none _ h e) = absurd (h t.0 t.1)

  pub total_is : (count total : ℕ) → (priced job work).quote ≡ Ok (Some (patch_with count total)) → (count ≡ job.n - 2) × Least (problem_of job) total
  total_is count total q = by price_end
    where
      by : PriceEnd (priced job work) → (count ≡ job.n - 2) × Least (problem_of job) total
      by (in_refusal k f e) = absurd (never_refused (sym q ∙ ap (λ (r : Result). r.quote) e) a_patch)
      by (in_total least a h e) =
          let p = sym q ∙ ap (λ (r : Result). r.quote) e in
          (ap triangles_of p, subst (Least (problem_of job)) (sym (ap total_of p)) h)
      by (in_none a h e) = absurd (not_none (sym q ∙ ap (λ (r : Result). r.quote) e))

  pub none_when : AcceptedWithoutTriangles job (length work) → NoTiling (problem_of job) → (priced job work).quote ≡ Ok None
  none_when a n = by price_end
    where
      by : PriceEnd (priced job work) → (priced job work).quote ≡ Ok None
      by (in_refusal k f e) = absurd (none_first a f)
      by (in_total total _ h e) = absurd (n h.set h.tiles)
      by (in_none _ h e) = ap (λ (r : Result). r.quote) e

  pub none_only_when : (priced job work).quote ≡ Ok None → NoTiling (problem_of job)
  none_only_when q = by price_end
    where
      by : PriceEnd (priced job work) → NoTiling (problem_of job)
      by (in_refusal k f e) = absurd (never_refused (sym q ∙ ap (λ (r : Result). r.quote) e) a_none)
      by (in_total total a h e) = absurd (not_none (sym (ap (λ (r : Result). r.quote) e) ∙ q))
      by (in_none a h e) = h

  -- ---- only the work table is written: zeros, one for each candidate (rule 3.9)
  pub price_work : AcceptedWithoutTriangles job (length work) → (priced job work).work ≡ filled (replicate (length job.candidates) 0) work
  price_work a = by price_end
    where
      by : PriceEnd (priced job work) → (priced job work).work ≡ cleared
      by (in_refusal k f e) = absurd (none_first a f)
      by (in_total total _ h e) = ap (λ (r : Result). r.work) e
      by (in_none _ h e) = ap (λ (r : Result). r.work) e
