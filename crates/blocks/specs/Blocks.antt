-- Blocks: candidates of one first vertex stand together. What functions say to each other; nobody has to believe it.
use Rattle.std.specs.Prelude.{List, [], ◌∷◌, ℕ, suc, ◌≤◌, ◌<◌, length, get_or, ltb}
use Rattle.lists.specs.Lists.{over}
use Rattle.lists.specs.Counts.{how_many}
use Rattle.terms.specs.Limits.{max_vertices}
use Rattle.terms.specs.Entries.{entry_at, vertex_a}

-- a start for each vertex, and the end of the last block
abbrev pub start_count : ℕ
start_count = suc max_vertices

-- candidates ascend by their first vertex
pub record ByFirst (candidates : List (List ℕ)) : Type 0 where
  pub up : (i j : ℕ) → i < j → j < length candidates → vertex_a (entry_at candidates i) ≤ vertex_a (entry_at candidates j)

-- r candidates have a first vertex below k, and these come first
pub record BlockStart (candidates : List (List ℕ)) (k r : ℕ) : Type 0 where
  pub within : r ≤ length candidates
  pub below : (i : ℕ) → i < r → vertex_a (entry_at candidates i) < k
  pub above : (i : ℕ) → r ≤ i → i < length candidates → k ≤ vertex_a (entry_at candidates i)

-- how many candidates have a first vertex below k: the block of k starts after them
abbrev pub start_of : List (List ℕ) → ℕ → ℕ
start_of candidates k = how_many (length candidates) (λ i. ltb (vertex_a (entry_at candidates i)) k)

-- the starts of all blocks: place k holds how many candidates have a first vertex below k, for k from 0 to 64
abbrev pub starts_of : List (List ℕ) → List ℕ
starts_of candidates = over 0 start_count (λ k. start_of candidates k ∷ [])

-- so each place of a list has the start of its block
pub record Starts (candidates : List (List ℕ)) (starts : List ℕ) : Type 0 where
  pub at : (k : ℕ) → k < start_count → BlockStart candidates k (get_or starts k 0)
