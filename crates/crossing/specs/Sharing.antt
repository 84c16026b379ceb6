-- What two candidates share, and the edges of the rim (rules 2.21, 3.16). Definitions only.
use mathlib.Core.List.{List, [], ◌∷◌, Memᴰ}
use Rattle.std.specs.Prelude.{ℕ, ◌<◌}
use Rattle.lists.specs.Sums.{sum}
use Rattle.polygon.specs.declared.Polygon.{Polygon}
use Rattle.triangulation.specs.Tiling.{RimEdge}
use Rattle.crossing.specs.Crossing.{Meet, Belong}

-- t and u share exactly the points of the vertices l (rule 2.21): these are corners of both; a point of both has all its weight on them, in t and in u; and
-- weights on them alone give one point of t and of u
pub record Exactly (p : Polygon) (t u l : List ℕ) : Type 0 where
  pub corners : (i : ℕ) → Memᴰ i l → Memᴰ i t × Memᴰ i u
  pub only : (v w : ℕ → ℕ) → Meet p t u v w → Belong v t l × Belong w u l
  pub all : (v : ℕ → ℕ) → 0 < sum v l → ((i : ℕ) → 0 < v i → Memᴰ i l) → Meet p t u v v

-- t and u share nothing, exactly a corner, or exactly an edge (rule 2.21)
pub data Sharing (p : Polygon) (t u : List ℕ) : Type 0 where
  nothing : Exactly p t u [] → Sharing p t u
  a_corner : (i : ℕ) → Exactly p t u (i ∷ []) → Sharing p t u
  an_edge : (i j : ℕ) → i < j → Exactly p t u (i ∷ j ∷ []) → Sharing p t u

-- the ends of a rim edge (rule 3.2)
pub data IsRimEdge (n : ℕ) : List ℕ → Type 0 where
  ends : (i j : ℕ) → i < j → j < n → RimEdge n i j → IsRimEdge n (i ∷ j ∷ [])

-- no vertex belongs to both (rule 3.16)
abbrev pub NoVertexShared : List ℕ → List ℕ → Type 0
NoVertexShared e f = (i : ℕ) → Memᴰ i e → Memᴰ i f → ⊥
