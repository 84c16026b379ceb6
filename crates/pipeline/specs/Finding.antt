-- The finder's call on a rim file: what it answers and what it leaves in every place of its three tables. Definitions only.
use Rattle.std.specs.Prelude.{List, ℕ}
use Rattle.terms.specs.Numbers.{first_due}
use Rattle.reader.specs.Reading.{polygon_of}
use Rattle.reader.specs.Reading as reader
use Rattle.finder.specs.Finding.{Values, due_values, Finding, find_by, find_number}

-- the first number due on a rim file read with a limit and on the three tables (rule 4.31): the reader's in their order, then those of its polygon
abbrev pub find_file_number : ℕ → List ℕ → List (List ℕ) → List ℕ → List (List ℕ) → ℕ
find_file_number limit file candidates weights rows = first_due (reader.number_due limit file) (find_number (polygon_of file) candidates weights rows)

-- the number and the two counts that are answered (rule 5.2)
abbrev pub find_file_values : ℕ → List ℕ → List (List ℕ) → List ℕ → List (List ℕ) → Values
find_file_values limit file candidates weights rows = due_values (find_file_number limit file candidates weights rows) (polygon_of file)

-- that number, or the lists of the file's polygon (rule 5.1): a number changes no table (rule 4.30)
unfoldable pub find_file : ℕ → List ℕ → List (List ℕ) → List ℕ → List (List ℕ) → Finding
find_file limit file candidates weights rows = find_by (find_file_number limit file candidates weights rows) (polygon_of file) candidates weights rows
