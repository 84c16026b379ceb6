-- The price and then the patch at that price: on one job what a single call gives, and on an edited one what its own least total says. Assumes nothing.
use Prim.Native.Nat.{ℕ, zero, suc, ◌-◌, ◌≤◌}
use mathlib.Core.Path.{◌≡◌, refl, sym, ap, ◌∙◌, subst}
use mathlib.Core.List.{List}
use native.Mathlib.Omega.{arith}
use lib.ListN.{length, replicate, length-replicate}
use borrow.Author.Tests.{eq-eqb}
use Rattle.std.proofs.Common.{Some, Ok, Err}
use Rattle.codes.specs.Refusals.{refusal}
use Rattle.lists.specs.Lists.{filled}
use Rattle.lists.proofs.Choice.{yes}
use Rattle.lists.proofs.Writing.{filled_length, filled_over}
use Rattle.triangulation.specs.Triangulations.{Answer, none, patch, best}
use Rattle.triangulation.specs.Problems.{problem_of}
use Rattle.triangulation.specs.Demand3.{HandedBack}
use Rattle.triangulation.specs.LeastTotal.{Least}
use Rattle.triangulation.proofs.Demand3.{best_length}
use Rattle.jobs.specs.Job.{Job, job_code, code_without_triangles}
use Rattle.jobs.specs.Due.{Accepted}
use Rattle.jobs.proofs.First.{long_enough}
use Rattle.jobs.proofs.Acceptance.{fitting}
use Rattle.triangulator.specs.Call.{Outcome, patch_with, total_of, values, values_of, part_of, Result, result_of, settled}
use Rattle.triangulator.specs.Demands.{Handed}
use Rattle.triangulator.proofs.Accepting.{accepted_well_formed}
use Rattle.triangulator.proofs.Demands.{patch_handed}
use Rattle.pricing.specs.Quote.{quote_of, priced}
use Rattle.pricing.specs.Quote as price
use Rattle.pricing.specs.Patch.{refused_or, settled_at, patched_at, triangulated}
use Rattle.pricing.proofs.Patching.{settled_call, refused_call}
use Rattle.pricing.proofs.Demands.{handed, patch_at}

module _ (job : Job) (triangles work : List ℕ) (room : job.n - 2 ≤ length triangles) where
  abbrev answer : Answer
  answer = best (problem_of job)

  abbrev count : ℕ
  count = length job.candidates

  abbrev cleared : List ℕ
  cleared = filled (replicate count 0) work

  abbrev code : ℕ
  code = code_without_triangles job (length work)

  code_is : job_code job (length triangles) (length work) ≡ code
  code_is = long_enough job (length triangles) (length work) room

  -- the price and the single call, by the number due on the job
  price_is : {k : ℕ} → code ≡ k → priced job work ≡ price.settled k (quote_of job.n answer) count work
  unfolding priced
  price_is e = ap (λ (k : ℕ). price.settled k (quote_of job.n answer) count work) e

  single_accepted : code ≡ 0 → triangulated job triangles work ≡ settled answer count triangles work
  unfolding triangulated
  single_accepted e = ap (λ (k : ℕ). refused_or k triangles work (settled answer count triangles work)) (code_is ∙ e)

  single_refused : (k : ℕ) → code ≡ suc k → triangulated job triangles work ≡ result_of (Err (refusal (suc k))) triangles work
  unfolding triangulated
  single_refused k e = ap (λ (j : ℕ). refused_or j triangles work (settled answer count triangles work)) (code_is ∙ e)

  -- a work table of zeros is as long as before, and is cleared to the same
  cleared_long : code ≡ 0 → length cleared ≡ length work
  cleared_long e =
      filled_length (replicate count 0) work
      (omega (arith, length-replicate {A = ℕ} count 0, (fitting job (job.n - 2) (length work) e).work_room))

  again : (a : Answer) → settled_at (total_of (quote_of job.n a)) a count triangles cleared ≡ settled a count triangles work
  again none = ap (result_of _ triangles) (filled_over (replicate count 0) (replicate count 0) work refl)
  again (patch total l) =
      yes _ _ (eq-eqb total total refl)
      ∙ ap (result_of (Ok (Some (patch_with (length l) total))) (filled l triangles)) (filled_over (replicate count 0) (replicate count 0) work refl)

  -- the two in turn on one job give what the single call gives, in the answer and in every place (rule 5.13)
  pub in_turn : patched_at job (total_of (priced job work).quote) triangles (priced job work).work ≡ triangulated job triangles work
  in_turn = by code refl
    where
      after : {k : ℕ} → code ≡ k → patched_at job (total_of (priced job work).quote) triangles (priced job work).work
          ≡ (let r = price.settled k (quote_of job.n answer) count work in patched_at job (total_of r.quote) triangles r.work)
      after e = ap (λ (r : price.Result). patched_at job (total_of r.quote) triangles r.work) (price_is e)

      by : (k : ℕ) → code ≡ k → patched_at job (total_of (priced job work).quote) triangles (priced job work).work ≡ triangulated job triangles work
      by zero e =
          after e
          ∙ settled_call job _ triangles cleared (ap (job_code job (length triangles)) (cleared_long e) ∙ code_is ∙ e)
          ∙ again answer ∙ sym (single_accepted e)
      by (suc k) e = after e ∙ refused_call job 0 triangles work k (code_is ∙ e) ∙ sym (single_refused k e)

  -- and the price has its number, its triangle count and its total
  pub in_turn_values : values_of (priced job work).quote ≡ values_of (triangulated job triangles work).outcome
  in_turn_values = by code refl
    where
      answered : code ≡ 0 → (a : Answer) → answer ≡ a → values_of (quote_of job.n a) ≡ values_of (settled a count triangles work).outcome
      answered e none b = refl
      answered e (patch total l) b =
          let v = (accepted_well_formed job (job.n - 2) (length work) e).0.valid in
          ap (λ (c : ℕ). values 0 c total) (sym (best_length (problem_of job) v total l b))

      by : (k : ℕ) → code ≡ k → values_of (priced job work).quote ≡ values_of (triangulated job triangles work).outcome
      by zero e =
          ap (λ (r : price.Result). values_of r.quote) (price_is e) ∙ answered e answer refl
          ∙ ap (λ (r : Result). values_of r.outcome) (sym (single_accepted e))
      by (suc k) e =
          ap (λ (r : price.Result). values_of r.quote) (price_is e) ∙ ap (λ (r : Result). values_of r.outcome) (sym (single_refused k e))

-- a patch at the least total is the best one of the job that is handed over with it, whatever was priced before (rules 3.7, 5.12)
pub best_at : (job : Job) (agreed : ℕ) (triangles work : List ℕ) → Accepted job (length triangles) (length work) → Least (problem_of job) agreed
    → ((patched_at job agreed triangles work).outcome ≡ Ok (Some (patch_with (job.n - 2) agreed)))
    × HandedBack (problem_of job) agreed (part_of (Ok (Some (patch_with (job.n - 2) agreed))) (patched_at job agreed triangles work).triangles)
best_at job agreed triangles work ok least =
    let e = patch_at job agreed triangles work ok least in (
      e,
      patch_handed (subst (λ (o : Outcome). Handed (problem_of job) (part_of o (patched_at job agreed triangles work).triangles) o) e
          (handed job agreed triangles work)),
    )
