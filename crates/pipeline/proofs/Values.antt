-- The number, the triangle count and the total of the one call's answer, by the first number due. Assumes nothing.
use mathlib.Core.Path.{◌≡◌, refl, ap, ◌∙◌}
use mathlib.Core.List.{List}
use Prim.Native.Nat.{ℕ, zero, suc}
use native.Mathlib.Omega.{arith}
use lib.ListN.{length}
use Rattle.jobs.specs.Job.{job_of}
use Rattle.polygon.specs.declared.Polygon.{Polygon}
use Rattle.polygon.specs.Polygon.{ValidPolygon}
use Rattle.terms.specs.Numbers.{first_due}
use Rattle.polygon.proofs.Validity.{code_valid}
use Rattle.reader.specs.Reading.{polygon_of}
use Rattle.reader.specs.Reading as reader
use Rattle.delaunay.specs.Candidates.{candidates_of}
use Rattle.finder.proofs.Answers.{clear}
use Rattle.triangulation.specs.Triangulations.{Answer, none, patch, best}
use Rattle.triangulation.specs.Triangulations as triangulations
use Rattle.triangulation.proofs.Demand3.{best_length}
use Rattle.triangulator.specs.Call.{Outcome, values, values_of, answer_values, due_values, settled}
use Rattle.triangulator.proofs.Accepting.{well_formed}
use Rattle.pipeline.specs.Patching.{Tables, Patching, patching, weights_in, rows_in, problem_in, tables_short}
use Rattle.pipeline.specs.Patching.{patch_by, polygon_number, patch_polygon, file_number, patch_file}
use Rattle.pipeline.proofs.Accepted.{lists_accepted}

pub valid_job : (p : Polygon) → ValidPolygon p → triangulations.ValidProblem (problem_in p)
valid_job p v = (well_formed (job_of p.n (candidates_of p) (weights_in p) (rows_in p)) v.least v.most (lists_accepted p v)).valid

module _ (p : Polygon) (t : Tables) where
  by_number : (n : ℕ) → (n ≡ 0 → ValidPolygon p) → values_of (patch_by n p t).outcome ≡ due_values n p.n (best (problem_in p))
  by_number (suc n) v = refl
  by_number zero v = by (best (problem_in p)) refl
    where
      by : (a : Answer) → best (problem_in p) ≡ a → values_of (settled a (length (candidates_of p)) t.triangles t.work).outcome ≡ answer_values p.n a
      by none e = refl
      by (patch total l) e = ap (λ (k : ℕ). values 0 k total) (best_length (problem_in p) (valid_job p (v refl)) total l e)

  none_valid : polygon_number p t ≡ 0 → ValidPolygon p
  none_valid e = code_valid p (clear p (tables_short p t) e).code

  -- the call's equation gives its values
  pub polygon_values_lem : {o : Outcome} {left : Tables} → patching o left ≡ patch_polygon p t →
      (patching o left ≡ patch_polygon p t) × (values_of o ≡ due_values (polygon_number p t) p.n (best (problem_in p)))
  unfolding patch_polygon
  polygon_values_lem e = (e, ap (λ (x : Patching). values_of x.outcome) e ∙ by_number (polygon_number p t) none_valid)

pub file_values_lem : (limit : ℕ) (s : List ℕ) (t : Tables) {o : Outcome} {left : Tables} → patching o left ≡ patch_file limit s t →
    (patching o left ≡ patch_file limit s t) × (values_of o ≡ due_values (file_number limit s t) (polygon_of s).n (best (problem_in (polygon_of s))))
unfolding patch_file
file_values_lem limit s t e = (
  e,
  ap (λ (x : Patching). values_of x.outcome) e
      ∙ by_number (polygon_of s) t (file_number limit s t) (by (reader.number_due limit s)),
)
  where
    by : (k : ℕ) → first_due k (polygon_number (polygon_of s) t) ≡ 0 → ValidPolygon (polygon_of s)
    by zero e = none_valid (polygon_of s) t e
    by (suc k) e = absurd (omega (arith, e))
