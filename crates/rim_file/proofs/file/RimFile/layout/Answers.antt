-- `rim_file::file::RimFile::layout` meets its contract. Assumes nothing.
use mathlib.Core.Path.{◌∙◌}
use Rattle.rim_file.proofs.Layouts.{layout_is}
use Rattle.rim_file.proofs.file.RimFile.layout.Goals as goal

pub returns : goal.returns
returns c = c.layout.ensures ∙ layout_is _ c.args.self.now.edition_is
