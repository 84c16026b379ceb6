-- The bend: from 0 to 2000, and its values for equal, perpendicular and opposite normals. Assumes nothing.
use mathlib.Core.Path.{◌≡◌, refl, sym, ◌∙◌, ap, subst}
use mathlib.Core.List.{[], ◌∷◌}
use mathlib.Core.Bool.{Bool, true, false, cond}
use Prim.Native.Nat.{ℕ, zero, suc, ◌+◌, ◌*◌, ◌-◌, ◌/◌, ◌≤◌, ◌<◌}
use native.Mathlib.Nat.{le_antisymm, le-div_iff_mul-le, zero-div}
use native.Mathlib.Omega.{arith}
use lib.Dec.{ltb}
use lib.IntN.{ℤ, pos, negsuc, neg_ℤ, nat_abs, ◌-ℤ◌, ◌*ℤ◌, +ℤ_idl}
use borrow.Author.Tests.{ltb-false}
use Rattle.geometry.specs.declared.Vector.{Vector}
use Rattle.integers.specs.Rounding.{floor_div, clamped}
use Rattle.integers.proofs.Ring.{con, ◌:-◌, ring}
use Rattle.integers.proofs.Rounding.{clamped_range, product_above_0}
use Rattle.geometry.specs.Vectors.{dot_of, square_of, zero_vector, opposite}
use Rattle.geometry.specs.Bounds.{max_normal, max_bend, Within}
use Rattle.geometry.specs.Faces.{square_scale, dividend_scale, length_of, ratio_of, bend_of, bend_between}
use Rattle.geometry.proofs.Terms.{vec, dot_e, opposite_e}
use Rattle.geometry.proofs.Squares.{square_size}
use Rattle.geometry.proofs.Lengths.{length_is, not_zero_above_0, length_by_square}

-- ---- three bends, with both lengths 400: of triangles that go on in one plane, of folded ones, and of a dot product of -1 (rules 2.11, 6.5)

pub going_on : bend_of (pos 10000) 400 400 ≡ 0
unfolding bend_of ratio_of
going_on = refl

pub folded : bend_of (negsuc 9999) 400 400 ≡ 2000
unfolding bend_of ratio_of
folded = refl

pub nearly_perpendicular : bend_of (negsuc 0) 400 400 ≡ 1001
unfolding bend_of ratio_of
nearly_perpendicular = refl

-- ---- its range

module _ (d : ℤ) (m k : ℕ) where
  bend_natural : (j : ℕ) × (j ≤ max_bend) × (pos 1000 -ℤ ratio_of d m k ≡ pos j)
  unfolding ratio_of
  bend_natural = clamped_range (floor_div (pos dividend_scale *ℤ d) (m * k))

  pub bend_is : pos (bend_of d m k) ≡ pos 1000 -ℤ ratio_of d m k
  unfolding bend_of
  bend_is = ap (λ (z : ℤ). pos (nat_abs z)) bend_natural.2 ∙ sym bend_natural.2

  pub bend_bound : bend_of d m k ≤ max_bend
  unfolding bend_of
  bend_bound = subst (λ (z : ℤ). nat_abs z ≤ max_bend) (sym bend_natural.2) bend_natural.1

-- ---- its ends

-- a quotient of at least 1000 is held at 1000, one of at most -1000 at -1000
held_high : (y : ℕ) → 1000 ≤ y → clamped (negsuc 999) (pos 1000) (pos y) ≡ pos 1000
held_high y h = go (ltb 1000 y) refl
  where
    go : (t : Bool) → ltb 1000 y ≡ t → cond t (pos 1000) (pos y) ≡ pos 1000
    go true e = refl
    go false e = ap pos (le_antisymm (ltb-false 1000 y e) h)

held_low : (y : ℕ) → 999 ≤ y → clamped (negsuc 999) (pos 1000) (negsuc y) ≡ negsuc 999
held_low y h = go (ltb 999 y) refl
  where
    go : (t : Bool) → ltb 999 y ≡ t → cond t (negsuc 999) (negsuc y) ≡ negsuc 999
    go true e = refl
    go false e = ap negsuc (le_antisymm (ltb-false 999 y e) h)

module _ (m k : ℕ) (above : 0 < m * k) where
  -- d, in the scale of squares, is at least the product of the lengths
  pub bend_least : (x : ℕ) → m * k ≤ square_scale * x → bend_of (pos x) m k ≡ 0
  unfolding bend_of ratio_of
  bend_least x h =
      ap (λ (z : ℤ). nat_abs (pos 1000 -ℤ z)) (held_high (dividend_scale * x / (m * k)) ((le-div_iff_mul-le above).1 (omega arith)))

  -- -d is
  pub bend_most : (x : ℕ) → m * k ≤ square_scale * x → bend_of (neg_ℤ (pos x)) m k ≡ 2000
  unfolding bend_of ratio_of
  bend_most zero h = absurd (omega arith)
  bend_most (suc a) h =
      let e : dividend_scale * suc a ≡ suc (dividend_scale * a + (dividend_scale - 1)) = omega arith in
      ap (λ (n : ℕ). nat_abs (pos 1000 -ℤ clamped (negsuc 999) (pos 1000) (floor_div (neg_ℤ (pos n)) (m * k)))) e
      ∙ ap (λ (z : ℤ). nat_abs (pos 1000 -ℤ z))
      (held_low ((dividend_scale * a + (dividend_scale - 1)) / (m * k)) ((le-div_iff_mul-le above).1 (omega arith)))

pub bend_perpendicular : (m k : ℕ) → bend_of (pos 0) m k ≡ 1000
unfolding bend_of ratio_of
bend_perpendicular m k = ap (λ (y : ℕ). nat_abs (pos 1000 -ℤ clamped (negsuc 999) (pos 1000) (pos y))) (zero-div (m * k))

-- ---- the bends of rule 6.5

pub equal_normals : {n : Vector} → Within max_normal n → (n ≡ zero_vector → ⊥) → bend_between n n ≡ 0
equal_normals {n} h z =
    ap (λ (d : ℤ). bend_of d (length_of n) (length_of n)) (square_size n)
    ∙ bend_least (length_of n) (length_of n) (product_above_0 (length_of n) (length_of n) l l) (nat_abs (square_of n)) (length_is h).low
  where
    l : 0 < length_of n
    l = not_zero_above_0 h z

pub perpendicular_normals : (n k : Vector) → dot_of n k ≡ pos 0 → bend_between n k ≡ 1000
perpendicular_normals n k e = ap (λ (d : ℤ). bend_of d (length_of n) (length_of k)) e ∙ bend_perpendicular (length_of n) (length_of k)

module _ (n : Vector) where
  opposite_dot : dot_of n (opposite n) ≡ pos 0 -ℤ square_of n
  opposite_dot = ring (n.x ∷ n.y ∷ n.z ∷ []) (dot_e (vec 0) (opposite_e (vec 0))) (con (pos 0) :- dot_e (vec 0) (vec 0)) tt

  pub opposite_square : square_of (opposite n) ≡ square_of n
  opposite_square = ring (n.x ∷ n.y ∷ n.z ∷ []) (dot_e (opposite_e (vec 0)) (opposite_e (vec 0))) (dot_e (vec 0) (vec 0)) tt

  pub opposite_normals : Within max_normal n → (n ≡ zero_vector → ⊥) → bend_between n (opposite n) ≡ 2000
  opposite_normals h z =
      (λ i. bend_of (dot i) (length_of n) (length_by_square (opposite n) n opposite_square i))
      ∙ bend_most (length_of n) (length_of n) (product_above_0 (length_of n) (length_of n) l l) (nat_abs (square_of n)) (length_is h).low
    where
      l : 0 < length_of n
      l = not_zero_above_0 h z

      dot : dot_of n (opposite n) ≡ neg_ℤ (pos (nat_abs (square_of n)))
      dot = opposite_dot ∙ +ℤ_idl (neg_ℤ (square_of n)) ∙ ap neg_ℤ (square_size n)
