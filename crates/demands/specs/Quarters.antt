-- The weights and rows of a polygon by lengths in quarters, as statements about lists and whole numbers. Definitions only.
use Rattle.std.specs.Prelude.{◌≡◌, false, List, ℕ, ◌+◌, ◌*◌, ◌<◌, length, get_or}
use Rattle.polygon.specs.declared.Polygon.{Polygon}
use Rattle.polygon.specs.declared.normal.Normal.{Normal}
use Rattle.polygon.specs.Normal.{is_none, normal_at, NormalInRange}
use Rattle.grid.specs.declared.GridPoint.{GridPoint}
use Rattle.grid.specs.Point.{PointOnGrid}
use Rattle.geometry.specs.declared.Vector.{Vector}
use Rattle.geometry.specs.Faces.{normal_of}
use Rattle.geometry.specs.Quarters.{IsLength, IsBendBetween, LongerByQuarter}
use Rattle.terms.specs.Entries.{entry_at, outer, inner, row_weight}
use Rattle.dihedrals.specs.Dihedrals.{face_normal}
use Rattle.weights.specs.Weights.{vector_of, rim_bend, rim_bends}

-- a normal: of a triangle on the grid, or of a surface outside the rim (rules 1.13, 2.6, 4.18)
pub data IsNormal : Vector → Type 0 where
  of_triangle : (a b c : GridPoint) → PointOnGrid a → PointOnGrid b → PointOnGrid c → IsNormal (normal_of a b c)
  of_surface : (k : Normal) → NormalInRange k → IsNormal (vector_of k)

-- the weights and rows are those of lengths in quarters, of normals outside too (rules 2.7, 2.10)
pub record InQuarters (p : Polygon) (candidates : List (List ℕ)) (weights : List ℕ) (rows : List (List ℕ)) : Type 0 where
  -- a candidate's weight: with m for the length of its normal, the whole part of four times the Euclidean one, the area factor times m, and besides, summed
  -- over its rim edges that have a surface outside, a bend weight (rules 2.7, 2.8, 2.15)
  pub weight : (i : ℕ) → i < length candidates → (m : ℕ) × IsLength (face_normal p (entry_at candidates i)) m × (0 < m)
      × (get_or weights i 0 ≡ p.area_factor * m + rim_bends p (entry_at candidates i))
  -- such a weight is the bend factor times the bend of the two normals (rules 2.10, 2.11, 2.15)
  pub outside : (i v : ℕ) → i < length candidates → v < p.n → is_none (normal_at p.normals v) ≡ false →
      (b : ℕ) × IsBendBetween (face_normal p (entry_at candidates i)) (vector_of (normal_at p.normals v)) b
      × (rim_bend p (entry_at candidates i) v ≡ p.bend_factor * b)
  -- so is that of a row (rules 2.10 to 2.13)
  pub row : (k : ℕ) → k < length rows →
      (b : ℕ) × IsBendBetween (face_normal p (entry_at candidates (inner (entry_at rows k)))) (face_normal p (entry_at candidates (outer (entry_at rows k)))) b
      × (row_weight (entry_at rows k) ≡ p.bend_factor * b)
  -- of two candidates with the same bends along the rim the one whose normal is longer by a quarter or more, by the Euclidean lengths, weighs more, unless
  -- the area factor is 0 (rules 2.7, 2.8)
  pub told_apart : (i j : ℕ) → i < length candidates → j < length candidates →
      LongerByQuarter (face_normal p (entry_at candidates i)) (face_normal p (entry_at candidates j)) → 0 < p.area_factor →
      rim_bends p (entry_at candidates i) ≡ rim_bends p (entry_at candidates j) → get_or weights i 0 < get_or weights j 0
