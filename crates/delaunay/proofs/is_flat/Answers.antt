-- `delaunay::is_flat` meets its contract: at each loop's head the pairs before are in one plane with vertices 0 and 1. Assumes nothing.
use mathlib.Core.Path.{◌≡◌, sym, ◌∙◌, ap}
use Prim.Native.Nat.{◌+◌, ◌<◌}
use native.Mathlib.Omega.{arith}
use lib.IntN.{pos}
use lib.ListN.{get_or}
use Rattle.integers.specs.Order.{equal}
use Rattle.integers.proofs.Order.{zero_bits, other_bits}
use Rattle.integers.proofs.Bounds.{signed_fits}
use Rattle.geometry.specs.declared.sphere.Sphere.{Sphere}
use Rattle.geometry.specs.Lifting.{pencil_of, sphere_of}
use Rattle.delaunay_search.specs.Search.{unlifted}
use Rattle.geometry.specs.declared.sphere.Lifted.{Lifted}
use Rattle.delaunay.proofs.Flat.{coplanar_with_on, after, after_long, pair_after, coplanar_on, found_solid, all_coplanar}
use Rattle.std.proofs.lemmas.List.{get_or_default}
use Rattle.delaunay_search.proofs.Lifting.{read}
use Rattle.delaunay.proofs.is_flat.Goals.{In-loop-seen, After-pencil_through-pencil, After-circumsphere-ball}
use Rattle.delaunay.proofs.is_flat.Goals as goal

-- at a vertex of the last loop
module _ (s : goal.In-loop-seen) where
  seen<n : s.loop-c.c + 1 + s.loop-seen.seen-index < s.args.rim.now.polygon.n
  seen<n =
      let long = after_long s.args.rim.now.polygon.n s.loop-c.c s.lift_vertices-table.result
      (omega (arith, s.args.rim.now.valid.most, s.lift_vertices-table.ensures.long)) in
      omega (arith, long, s.loop-seen-test.true)

-- the pencil and the sphere, of elements as they are read
pencil_read : (k : goal.After-pencil_through-pencil) →
    k.pencil_through-pencil.result ≡ pencil_of (get_or k.lift_vertices-table.result 1 unlifted) (get_or k.lift_vertices-table.result k.loop-c.c unlifted)
pencil_read k =
    let lifts = k.lift_vertices-table.ensures in
    let first = read (λ (w : Lifted). w) k.args.rim.now.valid lifts 1 (omega (arith, k.args.rim.now.valid.least)) k.index-lifted-1.result k.index-lifted-1.is in
    let second = read (λ (w : Lifted). w) k.args.rim.now.valid lifts k.loop-c.c k.loop-c-test.true k.index-lifted-c.result k.index-lifted-c.is in
    k.pencil_through-pencil.ensures ∙ (λ i. pencil_of (first i) (second i))

sphere_read : (e : goal.After-circumsphere-ball) → e.circumsphere-ball.result
    ≡ sphere_of e.pencil_through-pencil.result (get_or (after e.args.rim.now.polygon.n e.loop-c.c e.lift_vertices-table.result) e.loop-seen.seen-index unlifted)
sphere_read e =
    e.circumsphere-ball.ensures
    ∙ ap (sphere_of e.pencil_through-pencil.result)
    (e.seen-item.is ∙ get_or_default (after e.args.rim.now.polygon.n e.loop-c.c e.lift_vertices-table.result) e.loop-seen.seen-index e.seen-item.result unlifted
    e.loop-seen-test.true)

pub loop-c-init : goal.loop-c-init
loop-c-init c = (omega arith, record { pairs = λ k l h i. absurd (omega arith) })

pub returns-then-ball-ne0 : goal.returns-then-ball-ne0
returns-then-ball-ne0 c =
    let s = (goal.at.returns-then-ball-ne0 c).In-loop-seen in
    let k = pencil_read (goal.at.returns-then-ball-ne0 c).After-pencil_through-pencil in
    let e = pair_after c.args.rim.now.polygon.n c.loop-c.c c.lift_vertices-table.result k c.loop-seen.seen-index (seen<n s) in
    sym (found_solid c.args.rim.now.valid c.lift_vertices-table.ensures c.loop-c.c (c.loop-c.c + 1 + c.loop-seen.seen-index) c.loop-c.invariant.0
    (omega arith) (seen<n s) (sym e ∙ ap (λ (b : Sphere). equal b.orient (pos 0)) (sym (sphere_read (goal.at.returns-then-ball-ne0 c).After-circumsphere-ball))
    ∙ sym (λ i. equal (c.ball.view_is i).orient (pos 0)) ∙ other_bits c.ball.inside.orient c.if-ball-ne0.true))

pub loop-seen-preserved : goal.loop-seen-preserved
loop-seen-preserved c =
    coplanar_with_on (ap (λ (b : Sphere). equal b.orient (pos 0)) (sym (sphere_read (goal.at.loop-seen-preserved c).After-circumsphere-ball))
    ∙ sym (λ i. equal (c.ball.view_is i).orient (pos 0)) ∙ zero_bits c.ball.inside.orient (signed_fits tt c.ball.invariant.orient_in) c.if-ball-ne0.false)
    c.loop-seen.invariant

pub loop-c-preserved : goal.loop-c-preserved
loop-c-preserved c =
    let long = after_long c.args.rim.now.polygon.n c.loop-c.c c.lift_vertices-table.result
    (omega (arith, c.args.rim.now.valid.most, c.lift_vertices-table.ensures.long)) in (
      omega (arith, c.loop-c.invariant.0),
      coplanar_on (pair_after c.args.rim.now.polygon.n c.loop-c.c c.lift_vertices-table.result
          (pencil_read (goal.at.loop-c-preserved c).After-pencil_through-pencil))
          (omega (arith, long, c.loop-seen-test.false)) c.loop-seen.invariant
          c.loop-c.invariant.1,
    )

pub returns : goal.returns
returns c =
    sym (all_coplanar c.args.rim.now.valid c.lift_vertices-table.ensures c.loop-c.c
    (λ h. omega (arith, c.loop-c-test.false)) c.loop-c.invariant.1)
