-- `geometry::face::normal` meets its contract.
use mathlib.Core.Path.{◌∙◌}
use Rattle.geometry.specs.Vectors.{cross_of}
use Rattle.geometry.proofs.Vectors.{within_difference, within_as, products_fit}
use Rattle.geometry.proofs.face.normal.Goals as goal

pub difference-requires : goal.difference-requires
difference-requires c = (c.requires.1, c.requires.0)

pub difference-requires-2 : goal.difference-requires-2
difference-requires-2 c = (c.requires.2, c.requires.0)

pub cross-requires : goal.cross-requires
cross-requires c =
    let s = c in
    products_fit tt tt tt
    (within_as c.difference.ensures (within_difference s.requires.1 s.requires.0))
    (within_as c.difference-2.ensures (within_difference s.requires.2 s.requires.0))

pub returns : goal.returns
returns c = c.cross.ensures ∙ (λ i. cross_of (c.difference.ensures i) (c.difference-2.ensures i))
