use mathlib.Core.List.{map}
use lib.ListN.{drop, replicate}
use Rattle.lists.proofs.Writing.{Writing}
use Rattle.patch_lines.specs.Lines.{line_of, no_line, line_places}
use Rattle.patch_lines.proofs.Listing.lines.Given as goal

abbrev pub invariant-loop-k : goal.invariant-loop-k
invariant-loop-k l =
    Writing (map (line_of l.self.candidates.now l.self.weights.now l.self.rows.rows.now l.self.patch.now) l.self.patch.now)
    (map (line_of l.self.candidates.now l.self.weights.now l.self.rows.rows.now l.self.patch.now) (drop l.k l.self.patch.now)) (replicate line_places no_line) 0 l.lines l.k
