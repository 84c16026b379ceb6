-- What the candidate finder answers and leaves in every table. Definitions only.
use Rattle.std.specs.Prelude.{Bool, cond, List, ℕ, zero, suc, ◌-◌, eqb, ltb, length, Result, Ok, Err}
use Rattle.codes.specs.declared.Refusal.{Refusal}
use Rattle.codes.specs.Refusals.{refusal, number_of}
use Rattle.polygon.specs.declared.Polygon.{Polygon}
use Rattle.polygon.specs.Polygon.{code_of}
use Rattle.delaunay.specs.Candidates.{candidates_of, degenerate}
use Rattle.dihedrals.specs.Dihedrals.{rows_of}
use Rattle.weights.specs.Weights.{weights_of}
use Rattle.lists.specs.Lists.{either, filled}
use Rattle.finder.specs.declared.Counts.{Counts}

-- the counts of the lists, or a refusal (rule 5.2)
abbrev pub Found : Type 0
Found = Result Counts Refusal

abbrev pub counts : ℕ → ℕ → Counts
counts candidates rows = record { candidates = candidates; rows = rows }

-- the two counts of each case of an answer (rule 5.2)
abbrev pub candidate_count_of : Found → ℕ
candidate_count_of (Ok lists) = lists.candidates
candidate_count_of (Err r) = 0

abbrev pub row_count_of : Found → ℕ
row_count_of (Ok lists) = lists.rows
row_count_of (Err r) = 0

-- the number and the two counts together (rule 5.2)
pub record Values : Type 0 where
  pub number : ℕ
  pub candidates : ℕ
  pub rows : ℕ

abbrev pub values : ℕ → ℕ → ℕ → Values
values number candidates rows = record { number = number; candidates = candidates; rows = rows }

abbrev pub values_of : Found → Values
values_of found = values (number_of found) (candidate_count_of found) (row_count_of found)

-- what they are by the first number due: the counts of the lists where none is, two zeros with a number (rules 4.30, 5.2)
abbrev pub due_values : ℕ → Polygon → Values
due_values zero p = values 0 (length (candidates_of p)) (length (rows_of p (candidates_of p)))
due_values (suc k) p = values (suc k) 0 0

-- an answer, and what the tables hold then (rule 5.1)
pub record Finding : Type 0 where
  pub answer : Found
  pub candidates : List (List ℕ)
  pub weights : List ℕ
  pub rows : List (List ℕ)

abbrev pub finding : Found → List (List ℕ) → List ℕ → List (List ℕ) → Finding
finding answer candidates weights rows = record { answer = answer; candidates = candidates; weights = weights; rows = rows }

-- a table has too few places (rule 4.13)
abbrev pub short : ℕ → ℕ → Bool
short lent needed = ltb lent needed

-- one of the finder's tables has too few: candidates and weights need a place for each candidate, rows one for each row (rule 4.13)
abbrev pub short_tables : Polygon → List (List ℕ) → List ℕ → List (List ℕ) → Bool
short_tables p candidates weights rows =
    either (short (length candidates) (length (candidates_of p)))
    (either (short (length weights) (length (candidates_of p)))
    (short (length rows) (length (rows_of p (candidates_of p)))))

-- the triangle table or the work table, which are lent to a later stage, has too few (rule 4.13)
abbrev pub short_beside : Polygon → ℕ → ℕ → Bool
short_beside p trianglePlaces workPlaces = either (short trianglePlaces (p.n - 2)) (short workPlaces (length (candidates_of p)))

-- the first number due, 0 where none is (rule 4.34): that of the polygon, then 12, then 13 where a table is too short
unfoldable pub number_due : Bool → Polygon → ℕ
number_due too_short p = cond (eqb (code_of p) 0) (cond (degenerate p) 12 (cond too_short 13 0)) (code_of p)

-- no number: the lists in the first places of the tables, all further places as they were (rule 3.9); a number changes no table (rule 4.30)
abbrev pub find_by : ℕ → Polygon → List (List ℕ) → List ℕ → List (List ℕ) → Finding
find_by zero p candidates weights rows =
    finding (Ok (counts (length (candidates_of p)) (length (rows_of p (candidates_of p)))))
    (filled (candidates_of p) candidates)
    (filled (weights_of p (candidates_of p)) weights)
    (filled (rows_of p (candidates_of p)) rows)
find_by (suc k) p candidates weights rows = finding (Err (refusal (suc k))) candidates weights rows

-- the finder's call, by its first number due (rule 5.1)
abbrev pub find_number : Polygon → List (List ℕ) → List ℕ → List (List ℕ) → ℕ
find_number p candidates weights rows = number_due (short_tables p candidates weights rows) p

abbrev pub find_call : Polygon → List (List ℕ) → List ℕ → List (List ℕ) → Finding
find_call p candidates weights rows = find_by (find_number p candidates weights rows) p candidates weights rows

-- the same, where a triangle table and a work table are lent too (rules 4.13, 5.1)
abbrev pub beside_number : Polygon → ℕ → ℕ → List (List ℕ) → List ℕ → List (List ℕ) → ℕ
beside_number p trianglePlaces workPlaces candidates weights rows =
    number_due (either (short_beside p trianglePlaces workPlaces) (short_tables p candidates weights rows)) p

abbrev pub find_beside_call : Polygon → ℕ → ℕ → List (List ℕ) → List ℕ → List (List ℕ) → Finding
find_beside_call p trianglePlaces workPlaces candidates weights rows =
    find_by (beside_number p trianglePlaces workPlaces candidates weights rows) p candidates weights rows
