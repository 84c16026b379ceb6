-- What a tiling is (rules 3.2, 3.3), said of vertices and triangles; that a set is one exactly when it passes the test of Triangulations is proved
-- (`true_tiling` and `tiling_true` of proofs/Tiling.antt). Definitions only.
use Rattle.std.specs.Prelude.{ℕ, ◌+◌, ◌-◌, ◌<◌, ◌≡◌, length, get_or}
use mathlib.Core.List.{List, Memᴰ}
use Rattle.triangulation.specs.Triangulations.{Problem}

-- of vertices i < j < n, (i, j) is a rim edge (rule 3.2)
pub data RimEdge (n i j : ℕ) : Type 0 where
  to_next : j ≡ i + 1 → RimEdge n i j
  closing : i ≡ 0 → j ≡ n - 1 → RimEdge n i j

-- exactly one member of s has the property P (rule 3.3)
pub record ExactlyOne (P : ℕ → Type 0) (s : List ℕ) : Type 0 where
  pub the : ℕ
  pub member : Memᴰ the s
  pub has : P the
  pub only : (k : ℕ) → Memᴰ k s → P k → k ≡ the

module _ (job : Problem) where
  -- candidate k has the edge (i, j), where i < j, and v is its third vertex (rule 3.3)
  pub data Third (i j k v : ℕ) : Type 0 where
    of_ab : job.a k ≡ i → job.b k ≡ j → job.c k ≡ v → Third i j k v
    of_bc : job.b k ≡ i → job.c k ≡ j → job.a k ≡ v → Third i j k v
    of_ac : job.a k ≡ i → job.c k ≡ j → job.b k ≡ v → Third i j k v

  -- (i, j) is an edge of candidate k (rule 3.3)
  pub data HasEdge (i j k : ℕ) : Type 0 where
    edge : {v : ℕ} → Third i j k v → HasEdge i j k

  -- so it is, and the third vertex is between i and j (rule 3.3)
  pub data Between (i j k : ℕ) : Type 0 where
    between : {v : ℕ} → Third i j k v → i < v → v < j → Between i j k

  -- so it is, and the third vertex is outside i to j (rule 3.3)
  pub data Outside (i j k : ℕ) : Type 0 where
    before : {v : ℕ} → Third i j k v → v < i → Outside i j k
    after : {v : ℕ} → Third i j k v → j < v → Outside i j k

  -- an edge (i, j) in no triangle of s, or in two, one on each side (rule 3.3)
  pub data Inner (s : List ℕ) (i j : ℕ) : Type 0 where
    unused : ((k : ℕ) → Memᴰ k s → HasEdge i j k → ⊥) → Inner s i j
    in_two : ExactlyOne (Between i j) s → ExactlyOne (Outside i j) s → Inner s i j

  -- s is a tiling (rule 3.3)
  pub record Tiling (s : List ℕ) : Type 0 where
    -- a set of candidates, listed in ascending order
    pub candidates : (k : ℕ) → Memᴰ k s → k < job.size
    pub ascending : (x y : ℕ) → x < y → y < length s → get_or s x 0 < get_or s y 0
    -- each rim edge belongs to exactly one of them, and any other edge to none, or to one on each side
    pub rim : (i j : ℕ) → i < j → j < job.n → RimEdge job.n i j → ExactlyOne (HasEdge i j) s
    pub inner : (i j : ℕ) → i < j → j < job.n → (RimEdge job.n i j → ⊥) → Inner s i j
