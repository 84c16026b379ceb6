-- What is promised of direct jobs and of tilings: the tiler's two calls, what a tiling is, turns, the judge's call. A part of the page (Promises.antt).
-- Definitions only.
use Rattle.std.specs.Prelude.{◌≡◌, ◌≢◌, List, ℕ, ◌-◌, ◌≤◌, length, replicate, Some, None, Ok, Err}
use Rattle.codes.specs.Refusals.{refusal}
use Rattle.terms.specs.Order.{NoneDue}
use Rattle.lists.specs.Lists.{filled}
use Rattle.polygon.specs.declared.Polygon.{Polygon}
use Rattle.rim_file.specs.File.{Bytes}
use Rattle.finder.specs.Sizes.{places_of}
use Rattle.jobs.specs.Job.{Job}
use Rattle.jobs.specs.Due.{Accepted, AcceptedWithoutTriangles}
use Rattle.jobs.specs.Due as job-due
use Rattle.triangulation.specs.Triangulations.{Problem, ValidProblem, patch, total_weight}
use Rattle.triangulation.specs.Problems.{problem_of}
use Rattle.triangulation.specs.Demand3.{Triangulates, Demand3, HandedBack}
use Rattle.triangulation.specs.LeastTotal.{HasTiling, NoTiling, Least}
use Rattle.triangulation.specs.Tiling.{Tiling}
use Rattle.preorder.specs.Preorder.{TurnByTurn}
use Rattle.triangulator.specs.Call.{Result, values_of, result_of, part_of, patch_with, total_of}
use Rattle.triangulator.specs.Demands.{Taken, Handed, RestLeft, stated}
use Rattle.pricing.specs.Quote.{priced}
use Rattle.pricing.specs.Quote as price
use Rattle.pricing.specs.Patch.{patched_at, triangulated}
use Rattle.pricing.specs.Due.{AgreedDue}
use Rattle.pricing.specs.Due as agreed-due
use Rattle.judge.specs.Call.{judged}
use Rattle.judge.specs.Call as judge
use Rattle.judge.specs.Demands.{IsTiling, Acceptable, SameNumbers, Excess}
use Rattle.judge.specs.Due as judge-due
use Rattle.pipeline.specs.Patching.{Tables, patch_polygon, patch_file}
use Rattle.demands.specs.Demand1.{polygon_in, CallDue}
use Rattle.demands.specs.Demand3.{job_left, problem_left, answer_in}
use Rattle.demands.specs.Polygons.{PatchDue}

-- ---- words of this part
-- the job is accepted beside these tables (rule 4.33), and beside this work table where no triangle table is lent (rules 4.36, 4.37)
abbrev pub AcceptedBeside : Job → List ℕ → List ℕ → Type 0
AcceptedBeside job triangles work = Accepted job (length triangles) (length work)

abbrev pub AcceptedAlone : Job → List ℕ → Type 0
AcceptedAlone job work = AcceptedWithoutTriangles job (length work)

-- the work table with 0 in a place for each candidate (rule 3.9)
abbrev pub cleared : Job → List ℕ → List ℕ
cleared job work = filled (replicate (length job.candidates) 0) work

-- ---- the price of a direct job, before anyone decides to mill: by the job, the work table, and what the call answered and left
pub record Prices (job : Job) (work : List ℕ) (x : price.Result) : Type 0 where
  -- demand 1: a total or 'none' exactly when no number is due, with no triangle table among those asked for (rules 4.33, 4.37)
  pub priced_when : AcceptedAlone job work → Taken x.quote
  pub priced_only_when : Taken x.quote → AcceptedAlone job work
  -- every other job gets the first number due, and the work table holds what it held (rules 4.30, 4.37)
  pub refused_first : (k : ℕ) → job-due.FirstDue job (job.n - 2) (length work) k → x ≡ price.result_of (Err (refusal k)) work
  pub given_first : (k : ℕ) → x.quote ≡ Err (refusal k) → job-due.FirstDue job (job.n - 2) (length work) k
  -- demand 3 as to total and 'none': a total exactly when there is a tiling, and no tiling costs less; 'none' exactly when there is none (rules 3.7, 3.15)
  pub total_when : AcceptedAlone job work → HasTiling (problem_of job) → (total : ℕ) × (x.quote ≡ Ok (Some (patch_with (job.n - 2) total)))
  pub total_is : (count total : ℕ) → x.quote ≡ Ok (Some (patch_with count total)) → (count ≡ job.n - 2) × Least (problem_of job) total
  pub none_when : AcceptedAlone job work → NoTiling (problem_of job) → x.quote ≡ Ok None
  pub none_only_when : x.quote ≡ Ok None → NoTiling (problem_of job)
  -- only the work table is written: its zeros, and every further place keeps what it held (rule 3.9)
  pub zeros : AcceptedAlone job work → x.work ≡ cleared job work
  -- what tilings are (`Tilings`, below) is said of the job
  pub valid : AcceptedAlone job work → ValidProblem (problem_of job)

-- ---- the patch of a direct job at an agreed total: by the job, the total, the tables, and what the call answered and left
pub record Patches (job : Job) (agreed : ℕ) (triangles work : List ℕ) (x : Result) : Type 0 where
  -- demand 1: a patch or 'none' exactly when no number is due, 23 among them (rules 4.33, 4.37)
  pub taken_when : NoneDue (AgreedDue job agreed (length triangles) (length work)) → Taken x.outcome
  pub taken_only_when : Taken x.outcome → NoneDue (AgreedDue job agreed (length triangles) (length work))
  -- every other call gets the first number due; where that is one of the job's, both tables hold what they held (rules 4.30, 4.32, 4.37)
  pub first_given : (k : ℕ) → agreed-due.FirstDue job agreed (length triangles) (length work) k → x.outcome ≡ Err (refusal k)
  pub given_first : (k : ℕ) → x.outcome ≡ Err (refusal k) → agreed-due.FirstDue job agreed (length triangles) (length work) k
  pub refused_first : (k : ℕ) → job-due.FirstDue job (length triangles) (length work) k → x ≡ result_of (Err (refusal k)) triangles work
  -- 23 exactly when the job is accepted, has a tiling, and the agreed total is not the least: no triangle is written, and the work table is left as after
  -- 'none' (rules 4.23, 4.30, 4.37)
  pub gives_23 : AcceptedBeside job triangles work → HasTiling (problem_of job) → (Least (problem_of job) agreed → ⊥) →
      x ≡ result_of (Err (refusal 23)) triangles (cleared job work)
  pub given_23 : x.outcome ≡ Err (refusal 23) →
      AcceptedBeside job triangles work × HasTiling (problem_of job) × (Least (problem_of job) agreed → ⊥)
  -- no triangle is written at a total that is not the least, whatever else is due (rules 4.23, 4.30)
  pub unwritten : (Least (problem_of job) agreed → ⊥) → x.triangles ≡ triangles
  -- 'none' comes before the agreed total is looked at (rule 4.37)
  pub none_whatever : AcceptedBeside job triangles work → NoTiling (problem_of job) → x ≡ result_of (Ok None) triangles (cleared job work)
  -- demand 3 in full, except where 23 is due (rules 3.3 to 3.8)
  pub right : AcceptedBeside job triangles work → x.outcome ≢ Err (refusal 23) → Demand3 (problem_of job) (stated x.outcome x.triangles)
  -- a patch is given exactly at the least total (rules 4.23, 5.12)
  pub patch_when : AcceptedBeside job triangles work → Least (problem_of job) agreed → x.outcome ≡ Ok (Some (patch_with (job.n - 2) agreed))
  pub total_agreed : (count total : ℕ) → x.outcome ≡ Ok (Some (patch_with count total)) → total ≡ agreed
  -- what is handed back after every call, and what is left beside it, by 23 too (rules 3.8, 3.9, 4.30)
  pub handed : Handed (problem_of job) (part_of x.outcome x.triangles) x.outcome
  pub rest : AcceptedBeside job triangles work → RestLeft (length job.candidates) triangles work x
  -- what tilings are (`Tilings`, below) is said of the job
  pub valid : AcceptedBeside job triangles work → ValidProblem (problem_of job)
  -- the judge accepts with excess 0 what was written, over any work table that is long enough (rules 3.14, 5.12)
  pub judged_0 : (work' : List ℕ) (count total : ℕ) → length job.candidates ≤ length work' → x.outcome ≡ Ok (Some (patch_with count total)) →
      judged job (part_of (Ok (Some (patch_with count total))) x.triangles) total work' ≡ judge.result_of (Ok 0) (cleared job work')

-- ---- the price, and then the patch at that price
pub record InTurn (job : Job) (triangles work : List ℕ) : Type 0 where
  -- where the triangle table has its n - 2 places, the two in turn on one job give what the single call gave, in the answer and in every place (rule 5.13)
  pub as_single : job.n - 2 ≤ length triangles →
      patched_at job (total_of (priced job work).quote) triangles (priced job work).work ≡ triangulated job triangles work
  pub price_as_single : job.n - 2 ≤ length triangles → values_of (priced job work).quote ≡ values_of (triangulated job triangles work).outcome
  -- each call speaks of the job that is handed to it. After any edit, a total that is no longer the least writes no triangle; where the edited job is
  -- accepted and has a tiling, it gets 23 (rules 4.23, 5.12)
  pub no_longer : (count total : ℕ) → (priced job work).quote ≡ Ok (Some (patch_with count total)) → (edited : Job) (work' : List ℕ) →
      (Least (problem_of edited) total → ⊥) → (patched_at edited total triangles work').triangles ≡ triangles
  pub no_longer_23 : (count total : ℕ) → (priced job work).quote ≡ Ok (Some (patch_with count total)) → (edited : Job) (work' : List ℕ) →
      AcceptedBeside edited triangles work' → HasTiling (problem_of edited) → (Least (problem_of edited) total → ⊥) →
      patched_at edited total triangles work' ≡ result_of (Err (refusal 23)) triangles (cleared edited work')
  -- and one that still is the least gives the best patch of the edited job (rules 3.7, 3.8, 5.12)
  pub still_least : (count total : ℕ) → (priced job work).quote ≡ Ok (Some (patch_with count total)) → (edited : Job) (work' : List ℕ) →
      AcceptedBeside edited triangles work' → Least (problem_of edited) total →
      ((patched_at edited total triangles work').outcome ≡ Ok (Some (patch_with (edited.n - 2) total)))
      × HandedBack (problem_of edited) total (part_of (Ok (Some (patch_with (edited.n - 2) total))) (patched_at edited total triangles work').triangles)

-- ---- what a tiling is: the test by edge counts, which demand 3 speaks of, says what rules 3.2 and 3.3 say of vertices and triangles
pub record Tilings (problem : Problem) : Type 0 where
  pub tiling_of : ValidProblem problem → (s : List ℕ) → Triangulates problem s → Tiling problem s
  pub of_tiling : ValidProblem problem → (s : List ℕ) → Tiling problem s → Triangulates problem s

-- ---- turns: every patch is listed by turns, a triangle in each, and after each no more parts wait than triangles are still to be listed (rule 3.12); said of
-- the list that is handed back, and kept by the code's loop turn for turn (`Listing` of preorder/proofs)
pub record Turns : Type 0 where
  pub of_jobs : (job : Job) (agreed : ℕ) (triangles work : List ℕ) → AcceptedBeside job triangles work → (total : ℕ) (l : List ℕ) →
      stated (patched_at job agreed triangles work).outcome (patched_at job agreed triangles work).triangles ≡ patch total l →
      TurnByTurn (problem_of job) l
  pub of_files : (limit : ℕ) (file : List ℕ) → Bytes file → (t : Tables) → NoneDue (CallDue limit file t) → (total : ℕ) (l : List ℕ) →
      answer_in (patch_file limit file t) ≡ patch total l → TurnByTurn (problem_left (polygon_in limit file) (patch_file limit file t).left) l
  pub of_polygons : (p : Polygon) (t : Tables) → NoneDue (PatchDue p t) → (total : ℕ) (l : List ℕ) →
      answer_in (patch_polygon p t) ≡ patch total l → TurnByTurn (problem_left p (patch_polygon p t).left) l

-- ---- judging patches from elsewhere
pub record Judging (job : Job) (list : List ℕ) (total : ℕ) (work : List ℕ) : Type 0 where
  -- a list is accepted exactly when the job is, the list is a tiling without repeats, and the total is its total (rules 3.13, 4.36)
  pub accepts_when : AcceptedAlone job work → Acceptable (problem_of job) list total →
      (excess : ℕ) × ((judged job list total work).judgement ≡ Ok excess)
  pub accepts_only_when : (excess : ℕ) → (judged job list total work).judgement ≡ Ok excess →
      AcceptedAlone job work × Acceptable (problem_of job) list total
  -- then the excess is over the least total, and the work table has its zeros (rules 3.9, 3.14)
  pub accepted_excess : (excess : ℕ) → (judged job list total work).judgement ≡ Ok excess → Excess (problem_of job) total excess
  pub accepted_work : (excess : ℕ) → (judged job list total work).judgement ≡ Ok excess →
      (judged job list total work).work ≡ cleared job work
  -- every other call gets the first number due, and the work table holds what it held (rules 4.30, 4.36)
  pub refused_first : (k : ℕ) → judge-due.FirstDue job list total (length work) k →
      judged job list total work ≡ judge.result_of (Err (refusal k)) work
  pub given_first : (k : ℕ) → (judged job list total work).judgement ≡ Err (refusal k) → judge-due.FirstDue job list total (length work) k
  -- of an accepted job, 21 exactly when the list is no tiling without repeats, and 22 exactly when it is one of another total (rules 4.21, 4.22)
  pub gives_21 : AcceptedAlone job work → ((set : List ℕ) → IsTiling (problem_of job) list set → ⊥) →
      judged job list total work ≡ judge.result_of (Err (refusal 21)) work
  pub given_21 : (judged job list total work).judgement ≡ Err (refusal 21) →
      AcceptedAlone job work × ((set : List ℕ) → IsTiling (problem_of job) list set → ⊥)
  pub gives_22 : AcceptedAlone job work → (set : List ℕ) → IsTiling (problem_of job) list set → total ≢ total_weight (problem_of job) set →
      judged job list total work ≡ judge.result_of (Err (refusal 22)) work
  pub given_22 : (judged job list total work).judgement ≡ Err (refusal 22) →
      AcceptedAlone job work × ((set : List ℕ) × IsTiling (problem_of job) list set × (total ≢ total_weight (problem_of job) set))
  -- the order of the list never matters (rule 3.13)
  pub any_order : (list' : List ℕ) → SameNumbers list list' → judged job list total work ≡ judged job list' total work
  -- a patch as the tiler hands it back is accepted with excess 0 (rule 3.14)
  pub own_patch : AcceptedAlone job work → HandedBack (problem_of job) total list →
      judged job list total work ≡ judge.result_of (Ok 0) (cleared job work)

-- so is what the one call answered, with the lists that it left (rules 3.13, 3.14)
abbrev pub OwnPatches : Type 0
OwnPatches = (limit : ℕ) (file : List ℕ) → Bytes file → (t : Tables) (count total : ℕ) (work : List ℕ) →
    (places_of (polygon_in limit file)).candidates ≤ length work → (patch_file limit file t).outcome ≡ Ok (Some (patch_with count total)) →
    judged (job_left (polygon_in limit file) (patch_file limit file t).left)
    (part_of (Ok (Some (patch_with count total))) (patch_file limit file t).left.triangles) total work
    ≡ judge.result_of (Ok 0) (filled (replicate (places_of (polygon_in limit file)).candidates 0) work)
