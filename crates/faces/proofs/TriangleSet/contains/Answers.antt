-- `faces::TriangleSet::contains` meets its contract. Assumes nothing.
use Rattle.faces.specs.Masks.{has}
use Rattle.faces.proofs.TriangleSet.contains.Goals as goal

pub returns : goal.returns
unfolding has
returns c = cc
