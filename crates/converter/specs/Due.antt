-- The numbers due on a file to convert and on the output table, each by itself and at its place. Definitions only.
use Rattle.std.specs.Prelude.{◌≡◌, true, false, List, ℕ, ◌<◌, length}
use Rattle.terms.specs.Limits.{max_vertices}
use Rattle.polygon.specs.Normal.{no_normal}
use Rattle.rim_file.specs.File.{is_edition2, offset, length_wrong}
use Rattle.rim_file.specs.Record.{held_normal}
use Rattle.reader.specs.Order.{FilePlace, rim}
use Rattle.reader.specs.Due.{InFile, FileDue}
use Rattle.conversion.specs.Converted.{converted}

-- number k is due at a place of the file (rules 4.1 to 4.11, 4.13, 4.18, 4.19): the reader's with the largest limit, 13 and 19 on the file as a whole
pub data ConvertDue (file out : List ℕ) : FilePlace → ℕ → Type 0 where
  by_reader : {p : FilePlace} {k : ℕ} → FileDue max_vertices file p k → ConvertDue file out p k
  thirteen : length_wrong file ≡ false → length out < length (converted file) → ConvertDue file out rim 13
  nineteen : (k : ℕ) → InFile file k → is_edition2 file ≡ true → (held_normal file (offset file k) ≡ no_normal → ⊥) → ConvertDue file out rim 19
