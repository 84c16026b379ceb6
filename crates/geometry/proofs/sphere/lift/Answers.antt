-- `geometry::sphere::lift` meets its contract.
use mathlib.Core.Path.{◌∙◌, ap}
use Rattle.geometry.specs.Vectors.{square_of}
use Rattle.geometry.specs.Bounds.{max_difference, Within}
use Rattle.integers.proofs.Bounds.{returned, at_most_held}
use Rattle.geometry.proofs.Vectors.{within_difference, within_as, at_most_dot, products_fit}
use Rattle.geometry.proofs.sphere.lift.Goals.{After-difference-vector}
use Rattle.geometry.proofs.sphere.lift.Goals as goal

inside : (c : goal.After-difference-vector) → Within max_difference c.difference-vector.result
inside c = within_as c.difference-vector.ensures (within_difference c.requires.1 c.requires.0)

pub difference-vector-requires : goal.difference-vector-requires
difference-vector-requires c = (c.requires.1, c.requires.0)

pub dot-square-requires : goal.dot-square-requires
dot-square-requires c = products_fit tt tt tt (inside (goal.at.dot-square-requires c).After-difference-vector)
    (inside (goal.at.dot-square-requires c).After-difference-vector)

pub invariant_of-result : goal.invariant_of-result
invariant_of-result c =
    let h = inside (goal.at.invariant_of-result c).After-difference-vector in
    record { vector_in = h; square_in = at_most_held (returned tt c.dot-square.ensures (at_most_dot h h)) }

pub returns : goal.returns
returns c =
    let d = c.difference-vector.ensures in
    let h = inside (goal.at.returns c).After-difference-vector in
    let e = (returned tt c.dot-square.ensures (at_most_dot h h)).value ∙ ap square_of d in
    λ i. record { vector = d i; square = e i }
