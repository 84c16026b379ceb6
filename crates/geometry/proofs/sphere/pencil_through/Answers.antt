-- `geometry::sphere::pencil_through` meets its contract. The bounds are those of the two lifted points.
use mathlib.Core.Path.{◌∙◌}
use Prim.Native.Nat.{◌*◌}
use Rattle.geometry.specs.Bounds.{max_square, max_difference, Within}
use Rattle.geometry.specs.Vectors.{scaled_by, minus}
use Rattle.geometry.specs.Lifting.{pencil_of}
use Rattle.integers.proofs.Bounds.{given, at_most_held}
use Rattle.geometry.proofs.Vectors.{within_as, within_cross, within_minus, within_scaled, products_fit, scale_fits, difference_fits}
use Rattle.geometry.proofs.sphere.pencil_through.Goals.{After-mul, After-mul-2}
use Rattle.geometry.proofs.sphere.pencil_through.Goals as goal

first : (c : goal.After-mul) → Within (max_square * max_difference) c.mul.result
first c = within_as c.mul.ensures (within_scaled (at_most_held (given tt c.u.invariant.square_in)) c.v.invariant.vector_in)

second : (c : goal.After-mul-2) → Within (max_square * max_difference) c.mul-2.result
second c = within_as c.mul-2.ensures (within_scaled (at_most_held (given tt c.v.invariant.square_in)) c.u.invariant.vector_in)

pub cross-requires : goal.cross-requires
cross-requires c = products_fit tt tt tt c.u.invariant.vector_in c.v.invariant.vector_in

pub mul-requires : goal.mul-requires
mul-requires c = scale_fits tt tt tt (at_most_held (given tt c.u.invariant.square_in)) c.v.invariant.vector_in

pub mul-requires-2 : goal.mul-requires-2
mul-requires-2 c = scale_fits tt tt tt (at_most_held (given tt c.v.invariant.square_in)) c.u.invariant.vector_in

pub sub-requires : goal.sub-requires
sub-requires c = difference_fits tt tt tt (first (goal.at.sub-requires c).After-mul) (second (goal.at.sub-requires c).After-mul-2)

pub invariant_of-result : goal.invariant_of-result
invariant_of-result c = record {
  normal_in = within_as c.cross.ensures (within_cross c.u.invariant.vector_in c.v.invariant.vector_in);
  weighted_in =
      within_as c.sub.ensures (within_minus (first (goal.at.invariant_of-result c).After-mul) (second (goal.at.invariant_of-result c).After-mul-2));
}

pub returns : goal.returns
returns c =
    let i! = (given tt c.u.invariant.square_in).value in
    let j! = (given tt c.v.invariant.square_in).value in
    let e = c.mul.ensures ∙ (λ i. scaled_by (i! i) c.v.inside.vector) in
    let f = c.mul-2.ensures ∙ (λ i. scaled_by (j! i) c.u.inside.vector) in
    let g = c.sub.ensures ∙ (λ i. minus (e i) (f i)) in
    (λ i. record { normal = c.cross.ensures i; weighted = g i }) ∙ (λ i. pencil_of (c.u.view_is i) (c.v.view_is i))
