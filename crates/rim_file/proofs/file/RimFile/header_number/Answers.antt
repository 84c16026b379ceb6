-- `rim_file::file::RimFile::header_number` meets its contract. Assumes nothing.
use mathlib.Core.Path.{◌∙◌}
use native.Mathlib.Omega.{arith}
use Rattle.rim_file.proofs.Layouts.{header_as, number_as}
use Rattle.rim_file.proofs.file.RimFile.header_number.Goals as goal

pub u16_at-requires : goal.u16_at-requires
u16_at-requires c = omega (arith, header_as _ c.layout.ensures)

pub returns : goal.returns
returns c = c.u16_at.ensures ∙ number_as _ c.layout.ensures _
