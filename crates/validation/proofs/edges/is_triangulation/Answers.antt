-- `validation::edges::is_triangulation` meets its contract. Assumes nothing.
use mathlib.Core.Path.{◌∙◌}
use Rattle.validation.proofs.EdgeCounts.{edges_triangulation}
use Rattle.validation.proofs.edges.is_triangulation.Goals as goal

pub returns : goal.returns
returns c =
    let s = c in
    c.edges_fit.ensures ∙ edges_triangulation s.args.n _ _ _ _ c.count_edges.ensures s.requires
