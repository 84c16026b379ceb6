-- The places that a rim file needs in the lent tables. Definitions only.
use Rattle.std.specs.Prelude.{false, List, ℕ}
use Rattle.terms.specs.Numbers.{first_due}
use Rattle.reader.specs.Reading.{polygon_of}
use Rattle.reader.specs.Reading as reader
use Rattle.finder.specs.Finding.{number_due}
use Rattle.finder.specs.Sizes.{Sizes, sizes_by}

-- the first number due before any table is looked at (rule 4.31): the reader's in their order, then those of its polygon
abbrev pub sizes_number : ℕ → List ℕ → ℕ
sizes_number limit file = first_due (reader.number_due limit file) (number_due false (polygon_of file))

-- that number, or the places (rule 5.5)
unfoldable pub sizes_file : ℕ → List ℕ → Sizes
sizes_file limit file = sizes_by (sizes_number limit file) (polygon_of file)
