-- `delaunay_search::lift_vertices` meets its contract. Assumes nothing.
use mathlib.Core.Path.{◌∙◌, ap}
use Prim.Native.Nat.{◌<◌}
use native.Mathlib.Omega.{arith}
use Rattle.grid.specs.declared.GridPoint.{GridPoint}
use Rattle.std.proofs.lemmas.List.{get_or-take}
use Rattle.geometry.specs.Lifting.{lift_of}
use Rattle.polygon.specs.Polygon.{vertex}
use Rattle.delaunay_search.proofs.Lifting.{lifted_more}
use Rattle.delaunay_search.proofs.lift_vertices.Goals as goal

pub loop-v-preserved : goal.loop-v-preserved
loop-v-preserved c =
    let p = c.args.rim.now.polygon in
    let most = c.args.rim.now.valid.most in
    let v<n : c.loop-v.v < p.n = omega arith in (
      omega arith,
      lifted_more c.lift.result (omega (arith, most))
          (c.lift.ensures ∙ ap (λ (q : GridPoint). lift_of (vertex p c.args.a) q) (get_or-take p.n p.vertices c.loop-v.v _ v<n))
          c.loop-v.invariant.1,
    )
