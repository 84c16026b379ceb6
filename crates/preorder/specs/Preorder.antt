-- The loop that lists a patch, turn by turn (rule 3.12). Definitions only.
use Rattle.std.specs.Prelude.{ℕ, zero, suc, ◌+◌, ◌-◌, ◌/◌, ◌≤◌, ◌<◌, ◌≡◌, get_or, length, take, ltb}
use mathlib.Core.List.{List, [], ◌∷◌, ◌++◌, Memᴰ}
use Rattle.terms.specs.Limits.{max_vertices}
use Rattle.lists.specs.Lists.{filled, when}
use Rattle.triangulation.specs.Triangulations.{Problem}
use Rattle.preorder.specs.declared.Part.{Part}

-- the part of the polygon from vertex i to vertex j, under triangle t (rule 3.12)
abbrev pub part_under : ℕ → ℕ → ℕ → Part
part_under t i j = record { outer = t; first = i; last = j }

-- the part beneath the edge (i, j) of triangle u; beneath a rim edge (i, i + 1) there is none (rule 3.12)
abbrev pub beneath : ℕ → ℕ → ℕ → List Part
beneath u i j = when (ltb (i + 1) j) (part_under u i j)

module _ (job : Problem) where
  -- the parts beneath a part's triangle u: left before right (rule 3.12)
  abbrev pub halves : Part → ℕ → List Part
  halves p u = beneath u p.first (job.b u) ++ beneath u (job.b u) p.last

  -- a turn that lists triangle u: the parts beneath it take the place of the next part (rule 3.12)
  abbrev pub turn : List Part → ℕ → List Part
  turn [] u = []
  turn (p ∷ rest) u = halves p u ++ rest

  -- the parts that wait after k turns, the next one first, where the patch has the triangles l (rule 3.12): before the first turn the whole polygon,
  -- under a number that no row names
  unfoldable pub parts_after : List ℕ → ℕ → List Part
  parts_after l zero = part_under job.size 0 (job.n - 1) ∷ []
  parts_after l (suc k) = turn (parts_after l k) (get_or l k 0)

-- the turn after k turns takes the part that comes next, and lists the triangle on its edge: the patch's triangle at place k (rule 3.12)
pub record NextListed (job : Problem) (l : List ℕ) (k : ℕ) : Type 0 where
  pub next : Part
  pub rest : List Part
  pub comes_next : parts_after job l k ≡ next ∷ rest
  pub on_first : job.a (get_or l k 0) ≡ next.first
  pub on_last : job.c (get_or l k 0) ≡ next.last

-- what is promised of the loop that lists the triangles l (rule 3.12): each turn lists one, no part is a rim edge (i, i + 1), and after each turn no
-- more parts wait than triangles are still to be listed
pub record TurnByTurn (job : Problem) (l : List ℕ) : Type 0 where
  pub one_each : (k : ℕ) → k < length l → NextListed job l k
  pub no_rim_edge : (k : ℕ) (p : Part) → Memᴰ p (parts_after job l k) → p.first + 1 < p.last
  pub no_more_wait : (k : ℕ) → length (parts_after job l k) ≤ length l - k

-- the most parts that wait at once (rule 3.12): after k turns at most k + 1, and at most n - 2 - k, so twice as many are n - 1 at most
abbrev pub most_parts : ℕ
most_parts = (max_vertices - 1) / 2

-- the parts in the first places of a stack as a list, the top one first: it comes next
abbrev pub waiting : List Part → ℕ → List Part
waiting stack zero = []
waiting stack (suc k) = get_or stack k (part_under 0 0 0) ∷ waiting stack k

-- the parts l wait on the stack
pub record Waits (stack : List Part) (height : ℕ) (l : List Part) : Type 0 where
  pub parts : waiting stack height ≡ l
  pub places : length stack ≡ most_parts

-- the loop where turn `count` starts, and after the last turn (rule 3.12): the first `count` triangles of l are listed in the table, which held
-- `before`, and `height` parts of the stack wait
pub record Listing (job : Problem) (l before : List ℕ) (stack : List Part) (height count : ℕ) (table : List ℕ) : Type 0 where
  pub listed : table ≡ filled (take count l) before
  pub waits : Waits stack height (parts_after job l count)
  -- no more parts wait than triangles are still to be listed
  pub no_more_wait : height ≤ length l - count
