-- Every patch is listed turn by turn (rule 3.12), of the patch call and of the one call on rim files and polygons. Assumes nothing.
use Prim.Native.Nat.{ℕ}
use mathlib.Core.Path.{◌≡◌, sym, ap, ◌∙◌, subst}
use mathlib.Core.List.{List}
use native.Mathlib.Omega.{arith}
use lib.ListN.{length}
use Rattle.triangulator.specs.Call.{Outcome}
use Rattle.jobs.specs.Job.{Job}
use Rattle.rim_file.specs.File.{Bytes}
use Rattle.reader.specs.Order.{NoneDue}
use Rattle.polygon.specs.declared.Polygon.{Polygon}
use Rattle.polygon.specs.Polygon.{ValidPolygon}
use Rattle.triangulation.specs.Triangulations.{Answer, none, patch}
use Rattle.triangulation.specs.Problems.{problem_of}
use Rattle.triangulation.specs.Demand3.{Demand3}
use Rattle.triangulation.proofs.Demand3.{demand3_unique}
use Rattle.minimum_weight.specs.Tables.{WellFormed}
use Rattle.preorder.specs.Preorder.{TurnByTurn}
use Rattle.preorder.proofs.TurnByTurn.{turn_by_turn}
use Rattle.jobs.specs.Due.{Accepted}
use Rattle.jobs.proofs.Acceptance.{accepted_zero}
use Rattle.pricing.specs.Patch.{patched_at}
use Rattle.pricing.proofs.Demands.{right}
use Rattle.triangulator.specs.Demands.{stated}
use Rattle.triangulator.proofs.Accepting.{well_formed, accepted_well_formed}
use Rattle.pipeline.specs.Patching.{Tables, Patching, patched, patch_polygon, patch_file, job_in}
use Rattle.pipeline.proofs.Accepted.{lists_accepted}
use Rattle.demands.specs.Demand1.{polygon_in, CallDue}
use Rattle.demands.specs.Demand3.{problem_left, answer_in}
use Rattle.demands.specs.Polygons.{PatchDue}
use Rattle.demands.proofs.Demand1.{accepted}
use Rattle.demands.proofs.Patched.{job_left_lem, patched_demand3}
use Rattle.demands.proofs.Polygons.{valid, call_is}

no_patch : {total : ℕ} {l : List ℕ} → none ≡ patch total l → ⊥
no_patch e = let z : ◌≡◌ {A = ℕ} 0 1 = cc in omega arith

module _ (job : Job) where
  -- an answer of which demand 3 holds is the answer
  right_answer : WellFormed job.n job.candidates job.weights job.rows → (a : Answer) →
      Demand3 (problem_of job) a → (total : ℕ) (l : List ℕ) → a ≡ patch total l →
      TurnByTurn (problem_of job) l
  right_answer ok a d total l e =
      turn_by_turn job.n job.candidates job.weights job.rows ok total l (sym (demand3_unique (problem_of job) ok.valid a d) ∙ e)

  -- of every patch at an agreed total
  pub job_turn_by_turn : (agreed : ℕ) (triangles work : List ℕ) → Accepted job (length triangles) (length work) → (total : ℕ) (l : List ℕ)
      → stated (patched_at job agreed triangles work).outcome (patched_at job agreed triangles work).triangles ≡ patch total l
      → TurnByTurn (problem_of job) l
  job_turn_by_turn agreed triangles work a total l e =
      right_answer (accepted_well_formed job (length triangles) (length work) (accepted_zero job (length triangles) (length work) a)).0
      _ (right job agreed triangles work a
      (λ q. no_patch (sym (ap (λ (o : Outcome). stated o (patched_at job agreed triangles work).triangles) q) ∙ e))) total l e

-- and of every patch that a call on a polygon gives, over the lists that it left
module _ (p : Polygon) (v : ValidPolygon p) (t : Tables) {x : Patching} (is : x ≡ patched p t) where
  left_turn_by_turn : (total : ℕ) (l : List ℕ) → answer_in x ≡ patch total l → TurnByTurn (problem_left p x.left) l
  left_turn_by_turn total l e =
      subst (λ (j : Job). TurnByTurn (problem_of j) l) (sym (job_left_lem p t is))
      (right_answer (job_in p) (well_formed (job_in p) v.least v.most (lists_accepted p v)) _ (patched_demand3 p t is v) total l e)

pub file_turn_by_turn : (limit : ℕ) (file : List ℕ) → Bytes file → (t : Tables) → NoneDue (CallDue limit file t) → (total : ℕ) (l : List ℕ) →
    answer_in (patch_file limit file t) ≡ patch total l → TurnByTurn (problem_left (polygon_in limit file) (patch_file limit file t).left) l
file_turn_by_turn limit file bytes t n =
    let a = accepted limit file bytes t n in
    left_turn_by_turn (polygon_in limit file) a.polygon_valid t a.call_is

pub polygon_turn_by_turn : (p : Polygon) (t : Tables) → NoneDue (PatchDue p t) → (total : ℕ) (l : List ℕ) →
    answer_in (patch_polygon p t) ≡ patch total l → TurnByTurn (problem_left p (patch_polygon p t).left) l
polygon_turn_by_turn p t n = left_turn_by_turn p (valid p t n) t (call_is p t n)
