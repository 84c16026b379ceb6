-- `geometry::sphere::circumsphere` meets its contract. The bounds are those of the pencil and of the lifted point.
use mathlib.Core.Bool.{Bool}
use mathlib.Core.Path.{◌≡◌, sym, ◌∙◌, ap}
use Prim.Native.Nat.{◌*◌}
use lib.IntN.{ℤ, pos}
use Rattle.integers.specs.Order.{equal}
use Rattle.integers.proofs.Order.{zero_bits, other_bits}
use Rattle.integers.proofs.Bounds.{Holds, bits, given, returned, at_most_as, at_most_held, signed_fits}
use Rattle.geometry.specs.Vectors.{dot_of, cross_of, scaled_by, plus}
use Rattle.geometry.specs.Bounds.{max_orient, max_crossed, max_square, max_normal, Within}
use Rattle.geometry.specs.Lifting.{turned}
use Rattle.geometry.proofs.Vectors.{within_as, within_plus, within_scaled, within_cross, at_most_dot, products_fit, scale_fits, sum_fits}
use Rattle.geometry.proofs.Spheres.{no_sphere_bounds}
use Rattle.geometry.proofs.sphere.circumsphere.Goals.{After-cross, After-mul, After-dot-orient}
use Rattle.geometry.proofs.sphere.circumsphere.Goals as goal

-- the orientation, and whether it is 0
held : (c : goal.After-dot-orient) → Holds max_orient (dot_of c.pencil.inside.normal c.t.inside.vector) (bits c.dot-orient.result)
held c = returned tt c.dot-orient.ensures (at_most_dot c.pencil.invariant.normal_in c.t.invariant.vector_in)

tested : (c : goal.After-dot-orient) {b : Bool} → equal c.dot-orient.result (pos 0) ≡ b →
    equal (dot_of c.args.pencil.normal c.args.t.vector) (pos 0) ≡ b
tested c e =
    sym (λ i. equal (dot_of (c.pencil.view_is i).normal (c.t.view_is i).vector) (pos 0))
    ∙ ap (λ (o : ℤ). equal o (pos 0)) (sym c.dot-orient.ensures) ∙ e

crossed : (c : goal.After-cross) → Within max_crossed c.cross.result
crossed c = within_as c.cross.ensures (within_cross c.pencil.invariant.weighted_in c.t.invariant.vector_in)

multiplied : (c : goal.After-mul) → Within (max_square * max_normal) c.mul.result
multiplied c = within_as c.mul.ensures (within_scaled (at_most_held (given tt c.t.invariant.square_in)) c.pencil.invariant.normal_in)

pub dot-orient-requires : goal.dot-orient-requires
dot-orient-requires c = products_fit tt tt tt c.pencil.invariant.normal_in c.t.invariant.vector_in

pub invariant_of-result : goal.invariant_of-result
invariant_of-result c = no_sphere_bounds

pub returns-then-orient-eq0 : goal.returns-then-orient-eq0
returns-then-orient-eq0 c =
    let k = (goal.at.returns-then-orient-eq0 c).After-dot-orient in
    let z = tested k (zero_bits k.dot-orient.result (signed_fits tt (at_most_as k.dot-orient.ensures (held k).bound)) c.if-orient-eq0.true) in
    rw z

pub cross-requires : goal.cross-requires
cross-requires c = products_fit tt tt tt c.pencil.invariant.weighted_in c.t.invariant.vector_in

pub mul-requires : goal.mul-requires
mul-requires c = scale_fits tt tt tt (at_most_held (given tt c.t.invariant.square_in)) c.pencil.invariant.normal_in

pub add-centre-requires : goal.add-centre-requires
add-centre-requires c = let a = goal.at.add-centre-requires c in sum_fits tt tt tt (crossed a.After-cross) (multiplied a.After-mul)

pub turn-requires : goal.turn-requires
turn-requires c =
    let a = goal.at.turn-requires c in
    (at_most_held (held a.After-dot-orient), within_as c.add-centre.ensures (within_plus (crossed a.After-cross) (multiplied a.After-mul)))

pub returns : goal.returns
returns c =
    let k = (goal.at.returns c).After-dot-orient in
    let z = tested k (other_bits k.dot-orient.result c.if-orient-eq0.false) in
    let l = (given tt c.t.invariant.square_in).value in
    let m = c.mul.ensures ∙ (λ i. scaled_by (l i) c.pencil.inside.normal) in
    let e = c.add-centre.ensures ∙ (λ i. plus (c.cross.ensures i) (m i)) in
    c.turn.ensures
    ∙ (λ i. turned ((held k).value i) (e i))
    ∙ (λ i. turned (dot_of (c.pencil.view_is i).normal (c.t.view_is i).vector)
    (plus (cross_of (c.pencil.view_is i).weighted (c.t.view_is i).vector) (scaled_by (c.t.view_is i).square (c.pencil.view_is i).normal)))
    ∙ rw z
