-- `conversion::writing::write_file` meets its contract. Assumes nothing.
use mathlib.Core.Path.{ap}
use native.Mathlib.Omega.{arith}
use lib.ListN.{length}
use lib.Seq.{length-sets}
use Rattle.rim_file.proofs.Layouts.{header_as}
use Rattle.rim_file.proofs.Lengths.{whole}
use Rattle.conversion.proofs.Targets.{file_stored}
use Rattle.conversion.proofs.writing.write_file.Goals as goal

pub copy-requires : goal.copy-requires
copy-requires c =
    let opened = simp length-sets at (ap length c.fill.ensures) in
    (omega (arith, header_as _ c.layout.ensures, (whole _ c.requires.right).header), omega (arith, c.requires.long, opened))

pub returns : goal.returns
returns c =
    file_stored c.args.file.now.bytes.now (whole _ c.requires.right) c.args.out.now c.args.target
    c.fill.ensures (header_as _ c.layout.ensures) c.copy.ensures c.write_records.ensures
