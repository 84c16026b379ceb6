-- Bounds of differences, sums and products of vectors. Assumes nothing.
use mathlib.Core.Path.{◌≡◌, sym, subst}
use Prim.Native.Nat.{ℕ, ◌+◌, ◌*◌}
use native.Mathlib.Omega.{arith}
use lib.Dec.{T, leb}
use lib.IntN.{ℤ, pos, ◌+ℤ◌, ◌-ℤ◌}
use Rattle.grid.specs.declared.GridPoint.{GridPoint}
use Rattle.grid.specs.Point.{OnGrid, PointOnGrid}
use Rattle.geometry.specs.declared.Vector.{Vector}
use Rattle.integers.specs.Bounds.{AtMost, largest}
use Rattle.integers.proofs.Bounds.{bits, given, stored, at_most_add, at_most_sub, at_most_mul, at_most_le}
use Rattle.geometry.specs.Vectors.{difference_of, dot_of, cross_of, scaled_by, plus, minus, opposite}
use Rattle.geometry.specs.Bounds.{max_difference, Within, SumFits, DifferenceFits, ScaleFits, ProductsFit, third}

-- a grid coordinate
pub coordinate : {c : ℤ} → OnGrid c → AtMost 1000 c
coordinate h = record { size = h.size }

zero_in : AtMost 0 (pos 0)
zero_in = record { size = lib.Dec.lit≤ tt }

pub within_difference : {p q : GridPoint} → PointOnGrid p → PointOnGrid q → Within max_difference (difference_of p q)
within_difference h k = record {
  in_x = at_most_sub (coordinate h.x) (coordinate k.x);
  in_y = at_most_sub (coordinate h.y) (coordinate k.y);
  in_z = at_most_sub (coordinate h.z) (coordinate k.z);
}

module _ {m n : ℕ} {u v : Vector} (h : Within m u) (k : Within n v) where
  pub within_plus : Within (m + n) (plus u v)
  within_plus = record { in_x = at_most_add h.in_x k.in_x; in_y = at_most_add h.in_y k.in_y; in_z = at_most_add h.in_z k.in_z }

  pub within_minus : Within (m + n) (minus u v)
  within_minus = record { in_x = at_most_sub h.in_x k.in_x; in_y = at_most_sub h.in_y k.in_y; in_z = at_most_sub h.in_z k.in_z }

  pub at_most_dot : AtMost (m * n + m * n + m * n) (dot_of u v)
  at_most_dot = at_most_add (at_most_add (at_most_mul h.in_x k.in_x) (at_most_mul h.in_y k.in_y)) (at_most_mul h.in_z k.in_z)

  pub within_cross : Within (m * n + m * n) (cross_of u v)
  within_cross = record {
    in_x = at_most_sub (at_most_mul h.in_y k.in_z) (at_most_mul h.in_z k.in_y);
    in_y = at_most_sub (at_most_mul h.in_z k.in_x) (at_most_mul h.in_x k.in_z);
    in_z = at_most_sub (at_most_mul h.in_x k.in_y) (at_most_mul h.in_y k.in_x);
  }

pub within_scaled : {m n : ℕ} {k : ℤ} {v : Vector} → AtMost m k → Within n v → Within (m * n) (scaled_by k v)
within_scaled a h = record { in_x = at_most_mul a h.in_x; in_y = at_most_mul a h.in_y; in_z = at_most_mul a h.in_z }

at_most_opposite : {n : ℕ} {z : ℤ} → AtMost n z → AtMost n (pos 0 -ℤ z)
at_most_opposite {n} h = let s = at_most_sub zero_in h in record { size = omega (arith, s.size) }

pub within_opposite : {n : ℕ} {v : Vector} → Within n v → Within n (opposite v)
within_opposite h = record { in_x = at_most_opposite h.in_x; in_y = at_most_opposite h.in_y; in_z = at_most_opposite h.in_z }

pub within_le : {m n : ℕ} {v : Vector} → T (leb m n) → Within m v → Within n v
within_le t h = record { in_x = at_most_le t h.in_x; in_y = at_most_le t h.in_y; in_z = at_most_le t h.in_z }

pub within_as : {n : ℕ} {u v : Vector} → u ≡ v → Within n v → Within n u
within_as {n} e h = subst (λ (w : Vector). Within n w) (sym e) h

-- a number times a bounded vector, the sum and the difference of two, can be computed: comparisons of numbers
pub scale_fits : {m n : ℕ} {k : ℤ} {v : Vector} → T (leb m largest) → T (leb n largest) → T (leb (m * n) largest) → AtMost m k → Within n v → ScaleFits k v
scale_fits s t r h k = record { factor_in = at_most_le s h; vector_in = within_le t k; product_in = within_le r (within_scaled h k) }

module _ {m n : ℕ} {u v : Vector} (s : T (leb m largest)) (t : T (leb n largest)) (r : T (leb (m + n) largest)) (h : Within m u) (k : Within n v) where
  pub sum_fits : SumFits u v
  sum_fits = record { left = within_le s h; right = within_le t k; sum_in = within_le r (within_plus h k) }

  pub difference_fits : DifferenceFits u v
  difference_fits = record { left = within_le s h; right = within_le t k; difference_in = within_le r (within_minus h k) }

-- what the machine holds of a sum and of a difference that fit
module _ {a b : ℤ} (h : AtMost largest a) (k : AtMost largest b) where
  pub sum_held : AtMost largest (a +ℤ b) → bits (bits a +ℤ bits b) ≡ a +ℤ b
  sum_held r = (stored tt (record { value = (λ i. (given tt h).value i +ℤ (given tt k).value i); bound = r })).value

  pub difference_held : AtMost largest (a -ℤ b) → bits (bits a -ℤ bits b) ≡ a -ℤ b
  difference_held r = (stored tt (record { value = (λ i. (given tt h).value i -ℤ (given tt k).value i); bound = r })).value

-- the products of two bounded vectors can be computed: three comparisons of numbers
pub products_fit : {m n : ℕ} {u v : Vector} → T (leb m largest) → T (leb n largest) → T (leb (m * n) third) → Within m u → Within n v → ProductsFit u v
products_fit s t r h k = record {
  left = within_le s h;
  right = within_le t k;
  xx = at_most_le r (at_most_mul h.in_x k.in_x);
  yy = at_most_le r (at_most_mul h.in_y k.in_y);
  zz = at_most_le r (at_most_mul h.in_z k.in_z);
  yz = at_most_le r (at_most_mul h.in_y k.in_z);
  zy = at_most_le r (at_most_mul h.in_z k.in_y);
  zx = at_most_le r (at_most_mul h.in_z k.in_x);
  xz = at_most_le r (at_most_mul h.in_x k.in_z);
  xy = at_most_le r (at_most_mul h.in_x k.in_y);
  yx = at_most_le r (at_most_mul h.in_y k.in_x);
}
