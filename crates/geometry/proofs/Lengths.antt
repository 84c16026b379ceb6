-- The length of a normal is the whole part of four times its Euclidean length, so it is less than a quarter below that. Assumes nothing.
use mathlib.Core.Path.{◌≡◌, refl, sym, ◌∙◌, ap, subst}
use Prim.Native.Nat.{ℕ, zero, suc, ◌+◌, ◌*◌, ◌≤◌, ◌<◌}
use native.Mathlib.Nat.{lt_of_le_of_lt, mul-le-mul_right}
use native.Mathlib.Omega.{arith}
use lib.Dec.{lit<}
use lib.IntN.{ℤ, pos, nat_abs}
use Rattle.geometry.specs.declared.Vector.{Vector}
use Rattle.integers.specs.Rounding.{IsFloorRoot, floor_root}
use Rattle.integers.proofs.Rounding.{floor_root_is, floor_root_unique, root_at_most}
use Rattle.geometry.specs.Vectors.{square_of, zero_vector}
use Rattle.geometry.specs.Bounds.{max_normal, max_length, Within}
use Rattle.geometry.specs.Faces.{length_scale, square_scale, length_of}
use Rattle.geometry.specs.Quarters.{IsLength, LongerByQuarter}
use Rattle.geometry.proofs.Vectors.{at_most_dot}
use Rattle.geometry.proofs.Squares.{square_size, vanishes}

scaled_le : {x y : ℕ} → x ≤ y → square_scale * x ≤ square_scale * y
scaled_le h = omega arith

module _ {n : Vector} (h : Within max_normal n) where
  -- m quarters are at most the root of the square, and m + 1 are more: m / 4 is less than a quarter below the root (rule 2.7)
  pub length_is : IsLength n (length_of n)
  unfolding length_of
  length_is = floor_root_is (square_scale * nat_abs (square_of n)) (lt_of_le_of_lt (scaled_le (at_most_dot h h).size) (lit< tt))

  -- and it is the only such number
  pub length_unique : (m : ℕ) → IsLength n m → m ≡ length_of n
  length_unique m l = floor_root_unique (square_scale * nat_abs (square_of n)) m (length_of n) l length_is

  pub length_bound : length_of n ≤ max_length
  length_bound = root_at_most (length_of n) max_length length_is.low (lt_of_le_of_lt (scaled_le (at_most_dot h h).size) (lit< tt))

  -- a normal that is not zero is at least 1 long, which is 4 quarters
  pub length_above_0 : (square_of n ≡ pos 0 → ⊥) → 0 < length_of n
  length_above_0 k = above (root_at_most length_scale (length_of n) (unit (nat_abs (square_of n)) refl) length_is.high)
    where
      unit : (x : ℕ) → nat_abs (square_of n) ≡ x → length_scale * length_scale ≤ square_scale * nat_abs (square_of n)
      unit zero e = absurd (k (square_size n ∙ ap pos e))
      unit (suc x) e = omega arith

      above : {m : ℕ} → length_scale ≤ m → 0 < m
      above h = omega arith

  pub not_zero_above_0 : (n ≡ zero_vector → ⊥) → 0 < length_of n
  not_zero_above_0 z = length_above_0 (λ e. z (vanishes n e))

  pub length_is_above_0 : (n ≡ zero_vector → ⊥) → (m : ℕ) → IsLength n m → 0 < m
  length_is_above_0 z m i = subst (λ (l : ℕ). 0 < l) (sym (length_unique m i)) (not_zero_above_0 z)

-- every normal has one length
pub has_one_length : (n : Vector) → Within max_normal n → (m : ℕ) × IsLength n m × ((l : ℕ) → IsLength n l → l ≡ m)
has_one_length n h = (length_of n, length_is h, length_unique h)

-- it is four times the whole root, or up to 3 more
pub about_four_times : (n : Vector) (m r : ℕ) → IsLength n m → IsFloorRoot (nat_abs (square_of n)) r
    → (length_scale * r ≤ m) × (m < length_scale * (r + 1))
about_four_times n m r i j = (
  root_at_most (length_scale * r) m (fourfold (nat_abs (square_of n)) j.low) i.high,
  next (root_at_most m (length_scale * r + 3) i.low (square (nat_abs (square_of n)) j.high)),
)
  where
    fourfold : (x : ℕ) → r * r ≤ x → length_scale * r * (length_scale * r) ≤ square_scale * x
    fourfold x l = omega arith

    square : (x : ℕ) → x < (r + 1) * (r + 1) → square_scale * x < (length_scale * r + 3 + 1) * (length_scale * r + 3 + 1)
    square x l = omega arith

    next : m ≤ length_scale * r + 3 → m < length_scale * (r + 1)
    next l = omega arith

pub length_by_square : (n k : Vector) → square_of n ≡ square_of k → length_of n ≡ length_of k
unfolding length_of
length_by_square n k e = ap (λ (z : ℤ). floor_root (square_scale * nat_abs z)) e

-- ---- two lengths that differ by a quarter or more are told apart

-- the longer has the larger m: the fraction l / 4 is at most the Euclidean length of n, so (l + 1) / 4 is at most that of k
pub longer_is_more : (n k : Vector) → LongerByQuarter n k → (l m : ℕ) → IsLength n l → IsLength k m → l < m
longer_is_more n k h l m i j =
    above (root_at_most (l + 1) m (quarters (nat_abs (square_of k)) (h l length_scale (lit< tt) (commuted (nat_abs (square_of n)) i.low))) j.high)
  where
    above : l + 1 ≤ m → l < m
    above h = omega arith

    commuted : (x : ℕ) → l * l ≤ square_scale * x → l * l ≤ x * square_scale
    commuted x h = omega arith

    quarters : (x : ℕ) → (length_scale * l + length_scale) * (length_scale * l + length_scale) ≤ square_scale * x * square_scale
        → (l + 1) * (l + 1) ≤ square_scale * x
    quarters x h = omega arith

-- a test by whole numbers: 16 |k|² is above 16 |n|² by c + 1, and c is at least 8 |n|
module _ (n k : Vector) (c : ℕ) where
  abbrev twice : ℕ
  twice = 2 * length_scale

  pub longer_by_quarter : square_scale * nat_abs (square_of n) + c + 1 ≤ square_scale * nat_abs (square_of k) → twice * twice * nat_abs (square_of n) ≤ c * c →
      LongerByQuarter n k
  longer_by_quarter h l s t p q =
      sum (nat_abs (square_of n)) (nat_abs (square_of k)) q (mul-le-mul_right t (at_most_product (nat_abs (square_of n)) l q)) (mul-le-mul_right (t * t) h)
    where
      -- 8 s is at most c t, as their squares are
      at_most_product : (x : ℕ) → twice * twice * x ≤ c * c → s * s ≤ x * (t * t) → twice * s ≤ c * t
      at_most_product x l q =
          let w = mul-le-mul_right (t * t) l in
          root_at_most {x = c * t * (c * t)} (twice * s) (c * t) (omega arith) (omega arith)

      sum : (x y : ℕ) → s * s ≤ x * (t * t) → twice * s * t ≤ c * t * t → (square_scale * x + c + 1) * (t * t) ≤ square_scale * y * (t * t) →
          (length_scale * s + t) * (length_scale * s + t) ≤ square_scale * y * (t * t)
      sum x y a b d = omega arith
