-- Points in one plane, and points on one line. Definitions only.
use Rattle.std.specs.Prelude.{◌≡◌, ℕ, ◌<◌, ℤ, pos, ◌+ℤ◌, ◌*ℤ◌}
use Rattle.grid.specs.declared.GridPoint.{GridPoint}
use Rattle.geometry.specs.declared.Vector.{Vector}
use Rattle.geometry.specs.Vectors.{difference_of, cross_of, zero_vector}

-- some plane holds each of the first n points (rule 2.5): a x + b y + c z = d, where a, b and c are not all 0
pub record InOnePlane (at : ℕ → GridPoint) (n : ℕ) : Type 0 where
  pub a : ℤ
  pub b : ℤ
  pub c : ℤ
  pub d : ℤ
  pub proper : a ≡ pos 0 → b ≡ pos 0 → c ≡ pos 0 → ⊥
  pub lies : (i : ℕ) → i < n → a *ℤ (at i).x +ℤ b *ℤ (at i).y +ℤ c *ℤ (at i).z ≡ d

-- some line holds each of the first n points (rule 2.17): from a point of it they lie along its direction, which is not 0
pub record OnOneLine (at : ℕ → GridPoint) (n : ℕ) : Type 0 where
  pub point : GridPoint
  pub direction : Vector
  pub proper : direction ≡ zero_vector → ⊥
  pub lies : (i : ℕ) → i < n → cross_of direction (difference_of (at i) point) ≡ zero_vector
