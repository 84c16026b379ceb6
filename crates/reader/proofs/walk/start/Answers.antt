-- `reader::walk::start` meets its contract. Assumes nothing.
use mathlib.Core.Path.{refl}
use Rattle.rim_file.proofs.Lengths.{whole}
use Rattle.reader.proofs.Walking.{walking_start}
use Rattle.reader.proofs.walk.start.Goals as goal

pub first_record-requires : goal.first_record-requires
first_record-requires c = (whole _ c.requires).header

pub returns : goal.returns
returns c = ((λ limit. walking_start limit _ _ _ c.first_record.ensures), refl)
