-- Hinges: pairs of candidates that share an edge, the inner hanging on the outer (rule 2.9). What functions say to each other; nobody has to believe it.
use Rattle.std.specs.Prelude.{Bool, List, ℕ, ◌+◌, ◌*◌, ◌≤◌, ◌<◌, eqb, length, get_or}
use Rattle.terms.specs.Limits.{max_vertices, max_triples}
use Rattle.terms.specs.Entries.{entry_at, vertex_a, vertex_b, vertex_c, long_edge_is, hangs}
use Rattle.lists.specs.Lists.{over, when}
use Rattle.blocks.specs.Blocks.{ByFirst}

-- no more pairs of candidates
abbrev pub max_pairs : ℕ
max_pairs = max_triples * max_triples

-- the candidates that hang on candidate o, in ascending order
abbrev pub inners_on : List (List ℕ) → ℕ → List ℕ
inners_on candidates o = over 0 (length candidates) (λ i. when (hangs (entry_at candidates i) (entry_at candidates o)) i)

-- an inner for each hanging pair, in the order of their outers (rule 2.13)
abbrev pub inners_of : List (List ℕ) → List ℕ
inners_of candidates = over 0 (length candidates) (inners_on candidates)

-- those whose edge (a, c) is candidate o's edge (a, b), for e = 0, or (b, c), for e = 1
abbrev pub inners_at : List (List ℕ) → ℕ → ℕ → List ℕ
inners_at candidates o e = over 0 (length candidates) (λ i.
    when (long_edge_is (entry_at candidates i) (get_or (entry_at candidates o) e 0) (get_or (entry_at candidates o) (e + 1) 0)) i)

-- the candidates from lo to hi - 1 that end in vertex c
abbrev pub ending_in : List (List ℕ) → ℕ → ℕ → ℕ → List ℕ
ending_in candidates lo hi c = over lo hi (λ i. when (eqb (vertex_c (entry_at candidates i)) c) i)

-- the vertices x between i and j for which P holds of (i, x, j)
abbrev pub beneath : (ℕ → ℕ → ℕ → Bool) → ℕ → ℕ → List ℕ
beneath P i j = over (i + 1) j (λ x. when (P i x j) x)

-- triples a < b < c of at most max_vertices vertices, ascending by their first vertex
pub record Sorted (candidates : List (List ℕ)) : Type 0 where
  pub few : length candidates ≤ max_triples
  pub a<b : (i : ℕ) → i < length candidates → vertex_a (entry_at candidates i) < vertex_b (entry_at candidates i)
  pub b<c : (i : ℕ) → i < length candidates → vertex_b (entry_at candidates i) < vertex_c (entry_at candidates i)
  pub c<limit : (i : ℕ) → i < length candidates → vertex_c (entry_at candidates i) < max_vertices
  pub by_first : ByFirst candidates
