-- `planar::circle_through` meets its contract. Assumes nothing.
use mathlib.Core.Path.{◌∙◌, ap, subst}
use lib.IntN.{pos}
use Rattle.geometry.specs.Values.{PencilValue}
use Rattle.geometry.specs.Lifting.{sphere_of}
use Rattle.planar.specs.Seen.{Across, axis_across}
use Rattle.planar.proofs.Axes.{same_circle, across_bounds}
use Rattle.planar.proofs.circle_through.Goals as goal

pub axis_across-requires : goal.axis_across-requires
axis_across-requires c = c.pencil.invariant.normal_in

pub invariant_of-axis : goal.invariant_of-axis
invariant_of-axis c = across_bounds c.axis_across.ensures

pub returns : goal.returns
returns c =
    let k = c.pencil_through-pencil.result in
    let across = subst (λ (v : PencilValue). Across v.normal c.axis_across.result) c.pencil.view_is c.axis_across.ensures in
    c.circumsphere.ensures
    ∙ same_circle k across
    ∙ ap (λ (k : PencilValue). sphere_of k (record { vector = axis_across k.normal; square = pos 0 })) c.pencil_through-pencil.ensures
