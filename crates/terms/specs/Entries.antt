-- The words of the lists: a candidate is [a, b, c], a row is [outer, inner, weight]; which of two comes first, which candidate hangs on which.
-- Definitions only.
use Rattle.std.specs.Prelude.{Bool, List, [], ◌∷◌, ℕ, eqb, ltb, get_or}
use Rattle.lists.specs.Lists.{both, either}

-- three numbers as an entry (rules 2.4, 2.13)
abbrev pub triple : ℕ → ℕ → ℕ → List ℕ
triple x y z = x ∷ y ∷ z ∷ []

-- entry i of a list of candidates or rows
abbrev pub entry_at : List (List ℕ) → ℕ → List ℕ
entry_at l i = get_or l i []

-- the vertices of a candidate (rule 2.4)
abbrev pub vertex_a : List ℕ → ℕ
vertex_a t = get_or t 0 0

abbrev pub vertex_b : List ℕ → ℕ
vertex_b t = get_or t 1 0

abbrev pub vertex_c : List ℕ → ℕ
vertex_c t = get_or t 2 0

-- the candidates that a row names, and its weight (rule 2.13)
abbrev pub outer : List ℕ → ℕ
outer r = get_or r 0 0

abbrev pub inner : List ℕ → ℕ
inner r = get_or r 1 0

abbrev pub row_weight : List ℕ → ℕ
row_weight r = get_or r 2 0

-- the smaller number comes first, and of equal numbers the rest decides (rules 2.4, 2.13)
abbrev pub lexicographic : ℕ → ℕ → Bool → Bool
lexicographic x y rest = either (ltb x y) (both (eqb x y) rest)

-- candidate s is strictly before candidate t: by rising a, then b, then c (rule 2.4)
unfoldable pub before : List ℕ → List ℕ → Bool
before s t =
    lexicographic (vertex_a s) (vertex_a t)
    (lexicographic (vertex_b s) (vertex_b t)
    (ltb (vertex_c s) (vertex_c t)))

-- row r is strictly before row s: by rising outer, then inner (rule 2.13)
unfoldable pub row_before : List ℕ → List ℕ → Bool
row_before r s = lexicographic (outer r) (outer s) (ltb (inner r) (inner s))

-- the edge (i, j) is the edge (k, l) (rule 2.9)
abbrev pub same_edge : ℕ → ℕ → ℕ → ℕ → Bool
same_edge i j k l = both (eqb i k) (eqb j l)

-- candidate t's edge (a, c) is the edge (i, j) (rule 2.9)
abbrev pub long_edge_is : List ℕ → ℕ → ℕ → Bool
long_edge_is t i j = same_edge (vertex_a t) (vertex_c t) i j

-- candidate t hangs on candidate u: its edge (a, c) is the edge (a, b) or (b, c) of u (rule 2.9)
unfoldable pub hangs : List ℕ → List ℕ → Bool
hangs t u = either (long_edge_is t (vertex_a u) (vertex_b u)) (long_edge_is t (vertex_b u) (vertex_c u))
