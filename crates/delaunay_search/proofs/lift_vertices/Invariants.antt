use Prim.Native.Nat.{◌≤◌}
use Rattle.delaunay_search.proofs.Lifting.{LiftedTo}
use Rattle.delaunay_search.proofs.lift_vertices.Given as goal

abbrev pub invariant-loop-v : goal.invariant-loop-v
invariant-loop-v l = (l.v ≤ l.n) × LiftedTo l.base l.fn.rim.polygon.vertices l.v l.lifted
