-- What lengths in quarters and bends are, as statements about whole numbers. Definitions only.
use Rattle.std.specs.Prelude.{ℕ, ◌+◌, ◌*◌, ◌≤◌, ◌<◌, ℤ, pos, nat_abs, ◌-ℤ◌, ◌*ℤ◌, ◌≤ℤ◌, ◌<ℤ◌}
use Rattle.geometry.specs.declared.Vector.{Vector}
use Rattle.integers.specs.Rounding.{IsFloorRoot}
use Rattle.geometry.specs.Vectors.{dot_of, square_of}
use Rattle.geometry.specs.Faces.{length_scale, square_scale, ratio_scale, dividend_scale}

-- m is the length of n, the whole part of four times its Euclidean length (rule 2.7): m quarters are at most that, and m + 1 are more
abbrev pub IsLength : Vector → ℕ → Type 0
IsLength n m = IsFloorRoot (square_scale * nat_abs (square_of n)) m

-- b is the bend of two normals, from their dot product d and their lengths (rules 2.10, 2.11): 1000 - b is the ratio 16,000 d / (m k), rounded down, unless
-- that is above 1000, when b is 0, or below -1000, when b is 2000
pub record IsBend (d : ℤ) (m k b : ℕ) : Type 0 where
  pub most : b ≤ 2 * ratio_scale
  pub low : b < 2 * ratio_scale → ((pos ratio_scale -ℤ pos b) *ℤ pos (m * k)) ≤ℤ (pos dividend_scale *ℤ d)
  pub high : 0 < b → (pos dividend_scale *ℤ d) <ℤ ((pos (ratio_scale + 1) -ℤ pos b) *ℤ pos (m * k))

-- b is the bend of these normals, whose lengths are above 0 (rules 2.7, 2.10, 2.11)
pub record IsBendBetween (n k : Vector) (b : ℕ) : Type 0 where
  pub m : ℕ
  pub l : ℕ
  pub m_is : IsLength n m
  pub l_is : IsLength k l
  pub m_above_0 : 0 < m
  pub l_above_0 : 0 < l
  pub is : IsBend (dot_of n k) m l b

-- the Euclidean length of k is above that of n by a quarter or more (rule 2.7): each fraction s / t that is at most that of n is, with a quarter added, at
-- most that of k
abbrev pub LongerByQuarter : Vector → Vector → Type 0
LongerByQuarter n k = (s t : ℕ) → 0 < t → s * s ≤ nat_abs (square_of n) * (t * t) →
    (length_scale * s + t) * (length_scale * s + t) ≤ square_scale * nat_abs (square_of k) * (t * t)
