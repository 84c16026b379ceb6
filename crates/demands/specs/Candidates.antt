-- The candidates of a rim, and 12, as statements about its vertices. Definitions only.
use Rattle.std.specs.Prelude.{◌≡◌, true, false, ℕ, ◌<◌}
use Rattle.polygon.specs.declared.Polygon.{Polygon}
use Rattle.geometry.specs.Spheres.{coplanar, strictly_inside, on_sphere}
use Rattle.planar.specs.Planes.{InOnePlane}
use Rattle.planar.specs.Circles.{collinear, strictly_inside_circle, on_circle}
use Rattle.polygon.specs.Polygon.{vertex}

-- the four vertices a < b < c < d count (rule 2.3): they are not in one plane, and no vertex is strictly inside their sphere
pub record Counts (p : Polygon) (a b c d : ℕ) : Type 0 where
  pub a<b : a < b
  pub b<c : b < c
  pub c<d : c < d
  pub d<n : d < p.n
  pub solid : coplanar (vertex p a) (vertex p b) (vertex p c) (vertex p d) ≡ false
  pub empty : (v : ℕ) → v < p.n → strictly_inside (vertex p a) (vertex p b) (vertex p c) (vertex p d) (vertex p v) ≡ false

-- (x, y, z) is a face of four vertices that count (rule 2.4)
pub data Face (p : Polygon) : ℕ → ℕ → ℕ → Type 0 where
  abc : (a b c d : ℕ) → Counts p a b c d → Face p a b c
  abd : (a b c d : ℕ) → Counts p a b c d → Face p a b d
  acd : (a b c d : ℕ) → Counts p a b c d → Face p a c d
  bcd : (a b c d : ℕ) → Counts p a b c d → Face p b c d

-- the rim is flat (rule 2.5): some plane holds every vertex
abbrev pub Flat : Polygon → Type 0
Flat p = InOnePlane (vertex p) p.n

-- the three vertices a < b < c of a flat rim count (rule 2.19): they are not on one line, and no vertex is strictly inside their circle
pub record CountsInPlane (p : Polygon) (a b c : ℕ) : Type 0 where
  pub flat : Flat p
  pub a<b : a < b
  pub b<c : b < c
  pub c<n : c < p.n
  pub proper : collinear (vertex p a) (vertex p b) (vertex p c) ≡ false
  pub empty : (v : ℕ) → v < p.n → strictly_inside_circle (vertex p a) (vertex p b) (vertex p c) (vertex p v) ≡ false

-- (x, y, z) is a candidate (rule 2.4): a face of four vertices that count, or three of a flat rim that do
pub data Candidate (p : Polygon) (x y z : ℕ) : Type 0 where
  face : Face p x y z → Candidate p x y z
  three : CountsInPlane p x y z → Candidate p x y z

-- four vertices that count have a fifth vertex on their sphere (rule 4.12)
pub record Cospherical (p : Polygon) : Type 0 where
  pub a : ℕ
  pub b : ℕ
  pub c : ℕ
  pub d : ℕ
  pub four : Counts p a b c d
  pub fifth : ℕ
  pub fifth<n : fifth < p.n
  pub not_a : fifth ≡ a → ⊥
  pub not_b : fifth ≡ b → ⊥
  pub not_c : fifth ≡ c → ⊥
  pub not_d : fifth ≡ d → ⊥
  pub on : on_sphere (vertex p a) (vertex p b) (vertex p c) (vertex p d) (vertex p fifth) ≡ true

-- three vertices of a flat rim that count have a fourth vertex on their circle (rule 4.12)
pub record Cocircular (p : Polygon) : Type 0 where
  pub a : ℕ
  pub b : ℕ
  pub c : ℕ
  pub three : CountsInPlane p a b c
  pub fourth : ℕ
  pub fourth<n : fourth < p.n
  pub not_a : fourth ≡ a → ⊥
  pub not_b : fourth ≡ b → ⊥
  pub not_c : fourth ≡ c → ⊥
  pub on : on_circle (vertex p a) (vertex p b) (vertex p c) (vertex p fourth) ≡ true

-- 12 is due on the rim (rule 4.12)
pub data Degenerate (p : Polygon) : Type 0 where
  by_sphere : Cospherical p → Degenerate p
  by_circle : Cocircular p → Degenerate p
