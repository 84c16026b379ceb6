-- `validation::edges::add` meets its contract. Assumes nothing.
use Rattle.std.proofs.Common.{rules}
use Rattle.validation.specs.Edges.{added}
use Rattle.validation.proofs.edges.add.Goals as goal

pub returns : goal.returns
unfolding added
returns c = search rules
