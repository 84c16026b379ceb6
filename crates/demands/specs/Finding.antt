-- The numbers due on a call of the finder alone, which is lent three tables. Definitions only.
use Rattle.std.specs.Prelude.{List, ℕ, ◌<◌, length}
use Rattle.reader.specs.Order.{FilePlace}
use Rattle.finder.specs.declared.Places.{Places}
use Rattle.finder.specs.Sizes.{places_of}
use Rattle.demands.specs.Demand1.{polygon_in, FileCallDue}

-- one of the finder's three tables has fewer places than these (rule 4.13)
pub data FindTooShort (needed : Places) (candidates : List (List ℕ)) (weights : List ℕ) (rows : List (List ℕ)) : Type 0 where
  few_candidates : length candidates < needed.candidates → FindTooShort needed candidates weights rows
  few_weights : length weights < needed.candidates → FindTooShort needed candidates weights rows
  few_rows : length rows < needed.rows → FindTooShort needed candidates weights rows

-- number k is due on the finder's call with a limit and a file, at its place (rules 4.13, 4.31)
abbrev pub FindFileDue : ℕ → List ℕ → List (List ℕ) → List ℕ → List (List ℕ) → FilePlace → ℕ → Type 0
FindFileDue limit file candidates weights rows = FileCallDue limit file (FindTooShort (places_of (polygon_in limit file)) candidates weights rows)
