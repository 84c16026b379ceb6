-- `patch_program::printout_of` meets its contract. Assumes nothing.
use mathlib.Core.Path.{refl}
use Rattle.patch_program.proofs.Printing.{few_triangles, lines_ready, printed}
use Rattle.patch_program.proofs.printout_of.Goals as goal

pub vertices_of-vertices-requires : goal.vertices_of-vertices-requires
vertices_of-vertices-requires c = few_triangles _ _ _ c.patch_file-outcome.ensures.tables

pub new-rows-requires : goal.new-rows-requires
new-rows-requires c =
    (lines_ready _ _ _ c.patch_file-outcome.ensures.tables 4096 refl c.row_count-row_count.ensures.0 c.part-patch.ensures).0

pub lines-lines-requires : goal.lines-lines-requires
lines-lines-requires c =
    (lines_ready _ _ _ c.patch_file-outcome.ensures.tables 4096 refl c.row_count-row_count.ensures.0 c.part-patch.ensures).1

pub returns : goal.returns
returns c =
    printed c.args.limit c.args.file.now c.patch_file-outcome.ensures.tables c.vertices_of-vertices.ensures
    c.row_count-row_count.ensures.0 c.part-patch.ensures (rw c.new-rows.ensures at c.lines-lines.ensures)
