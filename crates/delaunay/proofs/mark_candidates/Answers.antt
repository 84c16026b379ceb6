-- `delaunay::mark_candidates` meets its contract. Assumes nothing.
use mathlib.Core.Path.{sym, ◌∙◌}
use Rattle.delaunay.proofs.Flat.{flat_plane}
use Rattle.delaunay.proofs.Marking.{marked_flat, marked_solid}
use Rattle.delaunay.proofs.mark_candidates.Goals as goal

pub mark_triangles-requires : goal.mark_triangles-requires
mark_triangles-requires c = flat_plane c.args.rim.now.polygon (sym c.is_flat.ensures ∙ c.if-is_flat.true)

pub returns-then-is_flat : goal.returns-then-is_flat
returns-then-is_flat c = marked_flat c.args.rim.now.polygon (sym c.is_flat.ensures ∙ c.if-is_flat.true) c.mark_triangles.ensures

pub returns-else-is_flat : goal.returns-else-is_flat
returns-else-is_flat c = marked_solid c.args.rim.now.polygon (sym c.is_flat.ensures ∙ c.if-is_flat.false) c.mark_tetrahedra.ensures
