-- The places of a row table that hold rows. What functions say to each other; nobody has to believe it.
use Rattle.std.specs.Prelude.{cond, List, [], ◌∷◌, ℕ, suc, eqb}
use Rattle.terms.specs.Entries.{outer, inner}

-- the rows before the first entry that names one candidate twice
abbrev pub row_count_of : List (List ℕ) → ℕ
row_count_of [] = 0
row_count_of (r ∷ rows) = cond (eqb (outer r) (inner r)) 0 (suc (row_count_of rows))
