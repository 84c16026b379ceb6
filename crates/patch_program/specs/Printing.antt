-- What a program prints for a file (rule 5.4). Definitions only.
use Rattle.std.specs.Prelude.{List, ℕ}
use Rattle.pipeline.specs.Patching.{Patching, handed_back, patch_file}
use Rattle.patch_lines.specs.declared.Line.{Line}
use Rattle.patch_lines.specs.Lines.{lines_of, in_places, vertices_of}
use Rattle.patch_program.specs.declared.Printout.{Printout}
use Rattle.patch_program.specs.Run.{empty_tables}

-- the lines after a call, of the part handed back and by the tables that it left: so none after 'none' and in a refusal (rules 3.8, 3.9, 5.4)
abbrev pub lines_after : Patching → List Line
lines_after r = lines_of r.left.candidates r.left.weights r.left.rows (handed_back r)

-- what is printed after a call: its outcome, the number of vertices, and the lines in the first places (rule 5.4)
abbrev pub printout_after : Patching → Printout
printout_after r = record { outcome = r.outcome; vertices = vertices_of r.outcome; lines = in_places (lines_after r) }

-- what is printed for a file under a limit (rules 5.3, 5.4, 5.9)
unfoldable pub printout_of : ℕ → List ℕ → Printout
printout_of limit file = printout_after (patch_file limit file empty_tables)
