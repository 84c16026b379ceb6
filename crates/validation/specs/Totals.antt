-- The total of a list of triangles, row by row. What functions say to each other; nobody has to believe it.
use Rattle.std.specs.Prelude.{ℕ, Bool, List}
use Rattle.terms.specs.Entries.{entry_at, vertex_a, vertex_c}
use Rattle.lists.specs.Sums.{only, sum}
use Rattle.triangulation.specs.Triangulations.{short_edge}
use Rattle.triangulation.specs.Problems.{pair_weight}
use Rattle.validation.specs.Edges.{candidates_alone}

-- candidate i hangs on candidate o, as a problem says it
abbrev pub hangs_on : List (List ℕ) → ℕ → ℕ → Bool
hangs_on candidates i o = short_edge (candidates_alone candidates) (vertex_a (entry_at candidates i)) (vertex_c (entry_at candidates i)) o

-- the weight of the row from candidate o to candidate i, where i hangs on o
abbrev pub hanging_row : List (List ℕ) → List (List ℕ) → ℕ → ℕ → ℕ
hanging_row candidates rows o i = only (hangs_on candidates i o) (pair_weight rows o i)

-- of all that a list names
abbrev pub hanging_rows : List (List ℕ) → List (List ℕ) → List ℕ → ℕ → ℕ
hanging_rows candidates rows list o = sum (hanging_row candidates rows o) list
