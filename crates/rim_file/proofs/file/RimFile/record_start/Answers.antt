-- `rim_file::file::RimFile::record_start` meets its contract. Assumes nothing.
use mathlib.Core.Path.{◌∙◌}
use Rattle.rim_file.proofs.Layouts.{layout_is, start_as}
use Rattle.rim_file.proofs.file.RimFile.record_start.Goals as goal

pub returns : goal.returns
returns c = c.record_start.ensures ∙ start_as _ (layout_is _ c.args.self.now.edition_is) _
