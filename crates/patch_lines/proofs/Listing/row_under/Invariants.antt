use mathlib.Core.Path.{◌≡◌}
use lib.ListN.{drop}
use Rattle.patch_lines.specs.Lines.{row_under}
use Rattle.patch_lines.proofs.Listing.row_under.Given as goal

abbrev pub invariant-loop-triangle : goal.invariant-loop-triangle
invariant-loop-triangle l = row_under l.self.candidates.now l.self.rows.rows.now (drop l.triangle-index l.self.patch.now) l.t
    ≡ row_under l.self.candidates.now l.self.rows.rows.now l.self.patch.now l.t
