-- The lists of a valid polygon are those of a job on which no number is due. Assumes nothing.
use mathlib.Core.Path.{◌≡◌}
use native.Mathlib.Omega.{arith}
use lib.ListN.{length, length-map}
use Rattle.jobs.specs.Job.{job_of}
use Rattle.polygon.specs.declared.Polygon.{Polygon}
use Rattle.polygon.specs.Polygon.{ValidPolygon}
use Rattle.jobs.proofs.Acceptance.{ListsAccepted}
use Rattle.delaunay.specs.Candidates.{candidates_of}
use Rattle.weights.specs.Weights.{own_weight}
use Rattle.finder.proofs.Accepted.{candidates_in_order, rows_in_order, weights_allowed}
use Rattle.pipeline.specs.Patching.{weights_in, rows_in}

-- one weight per candidate
pub weight_count : (p : Polygon) → length (weights_in p) ≡ length (candidates_of p)
weight_count p = length-map (candidates_of p) (own_weight p)

pub lists_accepted : (p : Polygon) → ValidPolygon p → ListsAccepted (job_of p.n (candidates_of p) (weights_in p) (rows_in p))
lists_accepted p v = record {
  weight_places = omega (arith, weight_count p);
  candidates_are = candidates_in_order p v;
  rows_are = rows_in_order p (candidates_of p);
  weights_are = weights_allowed p v;
}
