-- Tables over the edges (i, j), i < j. What functions say to each other; nobody has to believe it.
use Rattle.std.specs.Prelude.{ℕ, ◌+◌, ◌-◌, ◌*◌, ◌^◌, ◌≤◌, ◌<◌, ◌≡◌, Bool, length, get_or, set, eqb, ltb}
use mathlib.Core.List.{List, [], Memᴰ}
use Rattle.lists.specs.Lists.{every, both}
use Rattle.terms.specs.Limits.{max_vertices}
use Rattle.terms.specs.Entries.{entry_at, vertex_a, vertex_b, vertex_c}
use Rattle.lists.specs.Sums.{only, sum}
use Rattle.triangulation.specs.Triangulations.{Problem, long_edge, short_edge, is_boundary, edge_ok}
use Rattle.triangulation.specs.Problems.{problem_from}

-- the place of the edge (i, j), and how many places there are
abbrev pub edge_at : ℕ → ℕ → ℕ
edge_at i j = i * max_vertices + j

abbrev pub edge_places : ℕ
edge_places = max_vertices * max_vertices

abbrev pub count_at : List ℕ → ℕ → ℕ → ℕ
count_at table i j = get_or table (edge_at i j) 0

-- one more at the edge (i, j)
unfoldable pub added : List ℕ → ℕ → ℕ → List ℕ
added table i j = set table (edge_at i j) (count_at table i j + 1)

-- one more at (i, j) fits into a byte
abbrev pub Room : List ℕ → ℕ → ℕ → Type 0
Room table i j = count_at table i j + 1 < 2 ^ 8

-- candidate k is a triangle
pub record Triangle (candidates : List (List ℕ)) (k : ℕ) : Type 0 where
  pub there : k < length candidates
  pub ab : vertex_a (entry_at candidates k) < vertex_b (entry_at candidates k)
  pub bc : vertex_b (entry_at candidates k) < vertex_c (entry_at candidates k)
  pub few : vertex_c (entry_at candidates k) < max_vertices

-- a short list names triangles alone
pub record Triangles (candidates : List (List ℕ)) (list : List ℕ) : Type 0 where
  pub each : (k : ℕ) → Memᴰ k list → Triangle candidates k
  pub short_list : length list ≤ max_vertices

-- a job's candidates alone, without its n
abbrev pub candidates_alone : List (List ℕ) → Problem
candidates_alone candidates = problem_from 0 candidates [] []

-- its n alone
abbrev pub vertices_alone : ℕ → Problem
vertices_alone n = problem_from n [] [] []

-- 1 where candidate k has the edge (i, j) with its third vertex between, and where it has it with that vertex outside
abbrev pub between : List (List ℕ) → ℕ → ℕ → ℕ → ℕ
between candidates i j k = only (long_edge (candidates_alone candidates) i j k) 1

abbrev pub outside : List (List ℕ) → ℕ → ℕ → ℕ → ℕ
outside candidates i j k = only (short_edge (candidates_alone candidates) i j k) 1

-- the table has at each edge the sum of g over the list
pub record Sums (g : ℕ → ℕ → ℕ → ℕ) (list table : List ℕ) : Type 0 where
  pub long_enough : length table ≡ edge_places
  pub at : (i j : ℕ) → i < max_vertices → j < max_vertices → count_at table i j ≡ sum (g i j) list

-- both tables do, each for its side
pub record Counted (candidates : List (List ℕ)) (list betweens outsides : List ℕ) : Type 0 where
  pub on_between : Sums (between candidates) list betweens
  pub on_outside : Sums (outside candidates) list outsides

-- the test of the edge (i, j), and of all edges
abbrev pub edge_fits : ℕ → List ℕ → List ℕ → ℕ → ℕ → Bool
edge_fits n betweens outsides j i = edge_ok (vertices_alone n) (is_boundary (vertices_alone n) i j) (count_at betweens i j) (count_at outsides i j)

abbrev pub edges_fit : ℕ → List ℕ → List ℕ → Bool
edges_fit n betweens outsides = every 0 n (λ j. every 0 j (edge_fits n betweens outsides j))

-- each number of the list is below the bound
abbrev pub all_below_bound : List ℕ → ℕ → Bool
all_below_bound list bound = every 0 (length list) (λ i. ltb (get_or list i 0) bound)

-- the list has n - 2 numbers, each of them a candidate's
abbrev pub names_triangles : ℕ → ℕ → List ℕ → Bool
names_triangles n count list = both (eqb (length list) (n - 2)) (all_below_bound list count)
