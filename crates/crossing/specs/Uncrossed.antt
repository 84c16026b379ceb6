-- That nothing crosses, of the lists that a call leaves for a rim and of its patch (rules 2.20 to 2.22, 3.16). Definitions only.
use Rattle.triangulator.specs.Call.{patch_with}
use Rattle.std.specs.Prelude.{◌≡◌, ℕ, ◌<◌, length, Some, None, Ok}
use mathlib.Core.List.{List, [], ◌∷◌, map, Memᴰ}
use Rattle.terms.specs.Entries.{entry_at, row_weight}
use Rattle.polygon.specs.declared.Polygon.{Polygon}
use Rattle.pipeline.specs.Patching.{Patching, handed_back}
use Rattle.demands.specs.Candidates.{Flat}
use Rattle.demands.specs.Demand3.{candidates_left_of, rows_left_of}
use Rattle.crossing.specs.Crossing.{Meet, NoCrossing}
use Rattle.crossing.specs.Sharing.{Sharing, IsRimEdge, NoVertexShared}

-- of lists of candidates and rows
pub record UncrossedLists (p : Polygon) (candidates rows : List (List ℕ)) : Type 0 where
  -- no two candidates cross (rule 2.20)
  pub apart : NoCrossing p (λ t. Memᴰ t candidates)
  -- two of them share nothing, exactly a corner, or exactly an edge (rule 2.21)
  pub shares : (i j : ℕ) → i < j → j < length candidates → Sharing p (entry_at candidates i) (entry_at candidates j)
  -- a vertex that lies in a candidate is a corner of it (rule 2.21)
  pub corner_only : (i : ℕ) → i < p.n → (t : List ℕ) → Memᴰ t candidates → (v w : ℕ → ℕ) → Meet p t (i ∷ []) v w → Memᴰ i t
  -- the rows of a flat rim weigh 0 (rule 2.22)
  pub flat_rows : Flat p → (k : ℕ) → k < length rows → row_weight (entry_at rows k) ≡ 0

-- the triangles of the patch that a call hands back: under each number the candidate that it left there (rule 3.8)
abbrev pub patch_of : Patching → List (List ℕ)
patch_of x = map (entry_at x.left.candidates) (handed_back x)

-- of what a call answered and left
pub record Uncrossed (p : Polygon) (x : Patching) : Type 0 where
  -- the lists in the first places of the tables (rules 2.20 to 2.22, 3.9)
  pub lists : UncrossedLists p (candidates_left_of p x.left) (rows_left_of p x.left)
  -- no two triangles of the patch cross (rule 3.16)
  pub patch : NoCrossing p (λ t. Memᴰ t (patch_of x))
  -- after a patch two rim edges meet only in ends that they share (rule 3.16)
  pub rim : (count total : ℕ) → x.outcome ≡ Ok (Some (patch_with count total)) → NoCrossing p (IsRimEdge p.n)
  -- where two rim edges that share no vertex meet in a point, the answer is 'none' (rule 3.16)
  pub crossed_none : (e f : List ℕ) → IsRimEdge p.n e → IsRimEdge p.n f → NoVertexShared e f → (v w : ℕ → ℕ) → Meet p e f v w → x.outcome ≡ Ok None
