-- Rows that ascend by outer, then inner, and where a pair stands among them. What functions say to each other; nobody has to believe it.
use Rattle.std.specs.Prelude.{ℕ, ◌<◌, ◌≡◌, Bool, true, cond, List, length, eqb, ltb}
use Rattle.lists.specs.Lists.{both}
use Rattle.lists.specs.Counts.{how_many}
use Rattle.terms.specs.Entries.{entry_at, outer, inner, row_weight, lexicographic}
use Rattle.triangulation.specs.Problems.{pair_weight}

-- a row is before (o, i), as `row_before` has it of two rows
abbrev pub row_is_before : List ℕ → ℕ → ℕ → Bool
row_is_before r o i = lexicographic (outer r) o (ltb (inner r) i)

-- a row's weight where it is the row (o, i), else 0
abbrev pub row_or_zero : List ℕ → ℕ → ℕ → ℕ
row_or_zero r o i = cond (both (eqb (outer r) o) (eqb (inner r) i)) (row_weight r) 0

-- rows ascend by outer, then inner
pub record RowsAscend (rows : List (List ℕ)) : Type 0 where
  pub up : (k l : ℕ) → k < l → l < length rows → row_is_before (entry_at rows k) (outer (entry_at rows l)) (inner (entry_at rows l)) ≡ true

-- how many rows are before (o, i): where rows ascend these come first, so it is the place of the first row that is not
abbrev pub rows_before : List (List ℕ) → ℕ → ℕ → ℕ
rows_before rows o i = how_many (length rows) (λ k. row_is_before (entry_at rows k) o i)

-- `run` has the rows of outer t
pub record Run (rows : List (List ℕ)) (t : ℕ) (run : List (List ℕ)) : Type 0 where
  pub ascends : RowsAscend run
  pub same : (u : ℕ) → pair_weight run t u ≡ pair_weight rows t u
