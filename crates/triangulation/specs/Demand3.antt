-- Demand 3 as a statement about any answer to a problem, and what a caller is handed after a patch. Definitions only.
use Rattle.std.specs.Prelude.{ℕ, ◌-◌, ◌≤◌, ◌<◌, ◌≡◌, ◌≢◌, true, length, get_or}
use mathlib.Core.List.{List, ◌∷◌, Memᴰ}
use Rattle.lists.specs.Sums.{numbers_from}
use Rattle.triangulation.specs.Triangulations.{Problem, Answer, none, patch, subsets, is_triangulation, total_weight, preorder}

-- the set s of candidates is a tiling (rule 3.3), by the test; `Tiling` of Tiling.antt says the same of vertices and triangles
abbrev pub Triangulates : Problem → List ℕ → Type 0
Triangulates job s = Memᴰ s (subsets (numbers_from 0 job.size)) × (is_triangulation job s ≡ true)

-- no tiling costs less (rules 3.7, 3.14)
abbrev pub Cheapest : Problem → ℕ → Type 0
Cheapest job total = (s : List ℕ) → Triangulates job s → total ≤ total_weight job s

-- the first list has the smaller number where the two first differ (rule 3.6)
pub data Earlier : List ℕ → List ℕ → Type 0 where
  here : {x y : ℕ} {xs ys : List ℕ} → x < y → Earlier (x ∷ xs) (y ∷ ys)
  later : {x y : ℕ} {xs ys : List ℕ} → x ≡ y → Earlier xs ys → Earlier (x ∷ xs) (y ∷ ys)

-- a patch is right (rule 3.7): it is a tiling in walk order with that tiling's total, no tiling has a lower total, and every other tiling of equal
-- total comes later in walk order
pub record Optimal (job : Problem) (total : ℕ) (triangles : List ℕ) : Type 0 where
  pub set : List ℕ
  pub tiles : Triangulates job set
  pub walk : triangles ≡ preorder job set
  pub weight : total ≡ total_weight job set
  pub lowest : Cheapest job total
  pub first : (s : List ℕ) → Triangulates job s → s ≢ set → total_weight job s ≡ total → Earlier triangles (preorder job s)

-- an answer is right (rule 3.7): it is a patch exactly when there is a tiling, and 'none' exactly when there is none; and a patch is right
pub record Demand3 (job : Problem) (answer : Answer) : Type 0 where
  pub patch_is : (total : ℕ) (triangles : List ℕ) → answer ≡ patch total triangles → Optimal job total triangles
  pub patch_if : (s : List ℕ) → Triangulates job s → (total : ℕ) × (triangles : List ℕ) × (answer ≡ patch total triangles)
  pub none_is : answer ≡ none → (s : List ℕ) → Triangulates job s → ⊥
  pub none_if : ((s : List ℕ) → Triangulates job s → ⊥) → answer ≡ none

-- a list names each member of a set, nothing else, and nothing twice (rule 3.8)
pub record NamesOnce (listed set : List ℕ) : Type 0 where
  pub all : (k : ℕ) → Memᴰ k set → Memᴰ k listed
  pub only : (k : ℕ) → Memᴰ k listed → Memᴰ k set
  pub apart : (i j : ℕ) → i < j → j < length listed → get_or listed i 0 ≡ get_or listed j 0 → ⊥

-- what the caller is handed after a patch (rules 3.5 to 3.8): the walk order of the one right tiling, n - 2 triangles, each of the tiling's once
pub record HandedBack (job : Problem) (total : ℕ) (part : List ℕ) : Type 0 where
  pub right : Optimal job total part
  pub count : length part ≡ job.n - 2
  pub once : NamesOnce part right.set
