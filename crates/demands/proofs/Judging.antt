-- The judge over patches of the box: what the call at an agreed total wrote, and what the one call answered, has excess 0. Assumes nothing.
use mathlib.Core.Path.{◌≡◌, sym, ap, ◌∙◌, subst}
use mathlib.Core.List.{List}
use Prim.Native.Nat.{ℕ, ◌-◌, ◌≤◌}
use native.Mathlib.Omega.{arith}
use lib.ListN.{length, replicate}
use Rattle.std.specs.Prelude.{Some, Ok}
use Rattle.jobs.specs.Job.{Job}
use Rattle.lists.specs.Lists.{filled}
use Rattle.polygon.specs.declared.Polygon.{Polygon}
use Rattle.polygon.specs.Polygon.{ValidPolygon}
use Rattle.rim_file.specs.File.{Bytes}
use Rattle.reader.specs.Order.{NoneDue}
use Rattle.delaunay.specs.Candidates.{candidates_of}
use Rattle.jobs.proofs.Acceptance.{fitting_accepted, accepted_beside}
use Rattle.triangulator.specs.Call.{part_of, Outcome, patch_with}
use Rattle.triangulator.specs.Demands.{Taken, a_patch, Handed}
use Rattle.judge.specs.Call.{result_of, judged}
use Rattle.jobs.specs.Due.{Accepted, AcceptedWithoutTriangles, job_at}
use Rattle.pricing.specs.Patch.{patched_at}
use Rattle.pricing.specs.Due.{of_job}
use Rattle.pricing.proofs.Demands as pricing
use Rattle.triangulation.specs.Problems.{problem_of}
use Rattle.triangulator.proofs.Demands.{patch_handed}
use Rattle.judge.proofs.Demands.{handed_accepted}
use Rattle.pipeline.specs.Patching.{Tables, problem_in, patch_file, job_in}
use Rattle.pipeline.proofs.Accepted.{lists_accepted}
use Rattle.demands.specs.Demand1.{polygon_in, CallDue}
use Rattle.demands.specs.Demand3.{job_left}
use Rattle.demands.proofs.Demand1.{taken_only_when, accepted}
use Rattle.demands.proofs.Demands.{file_handed}
use Rattle.demands.proofs.Patched.{job_left_lem}

-- what a patch at an agreed total wrote is accepted over any work table that is long enough (rules 3.14, 5.12)
pub agreed_patch_accepted : (job : Job) (agreed : ℕ) (triangles work work' : List ℕ) (count total : ℕ) → length job.candidates ≤ length work'
    → (patched_at job agreed triangles work).outcome ≡ Ok (Some (patch_with count total))
    → judged job (part_of (Ok (Some (patch_with count total))) (patched_at job agreed triangles work).triangles) total work'
    ≡ result_of (Ok 0) (filled (replicate (length job.candidates) 0) work')
agreed_patch_accepted job agreed triangles work work' count total room e =
    let none = pricing.taken_only_when job agreed triangles work (subst Taken (sym e) a_patch) in
    let ok : Accepted job (length triangles) (length work) = record { none = λ p k d. none.none (job_at p) k (of_job d) } in
    handed_accepted job total (part_of (Ok (Some (patch_with count total))) (patched_at job agreed triangles work).triangles) work'
    (accepted_beside job (length triangles) (length work) (length work') ok room)
    (patch_handed (subst (λ (o : Outcome). Handed (problem_of job) (part_of o (patched_at job agreed triangles work).triangles) o) e
    (pricing.handed job agreed triangles work)))

-- none of 13 to 17 is due on the lists of a rim beside a work table that is long enough (rule 4.36)
pub rim_job_accepted : (p : Polygon) → ValidPolygon p → (workPlaces : ℕ) → length (candidates_of p) ≤ workPlaces
    → AcceptedWithoutTriangles (job_in p) workPlaces
rim_job_accepted p v workPlaces h =
    fitting_accepted (job_in p) (p.n - 2) workPlaces
    (record { at_least = v.least; at_most = v.most; triangle_room = omega arith; work_room = h; lists = lists_accepted p v })

module _ (limit : ℕ) (file : List ℕ) (bytes : Bytes file) (t : Tables) where
  abbrev p : Polygon
  p = polygon_in limit file

  abbrev None : Type 0
  None = NoneDue (CallDue limit file t)

  -- what the one call left in the first places of its tables
  abbrev left : Tables
  left = (patch_file limit file t).left

  -- the patch of a rim file, with the lists that the call left, is accepted with excess 0 (rules 3.13, 3.14)
  pub file_patch_accepted : (count total : ℕ) (work : List ℕ) → length (candidates_of (polygon_in limit file)) ≤ length work →
      (patch_file limit file t).outcome ≡ Ok (Some (patch_with count total)) →
      judged (job_left (polygon_in limit file) (patch_file limit file t).left)
      (part_of (Ok (Some (patch_with count total))) (patch_file limit file t).left.triangles) total work
      ≡ result_of (Ok 0) (filled (replicate (length (candidates_of (polygon_in limit file))) 0) work)
  file_patch_accepted count total work room e =
      let none : None = taken_only_when limit file bytes t (subst Taken (sym e) a_patch) in
      let is = (accepted limit file bytes t none).call_is in
      ap (λ (j : Job). judged j (part_of (Ok (Some (patch_with count total))) left.triangles) total work) (job_left_lem p t is)
      ∙ handed_accepted (job_in p) total (part_of (Ok (Some (patch_with count total))) left.triangles) work
      (rim_job_accepted p (accepted limit file bytes t none).polygon_valid (length work) room)
      (patch_handed (subst (λ (o : Outcome). Handed (problem_in p) (part_of o left.triangles) o) e (file_handed limit file bytes t none)))
