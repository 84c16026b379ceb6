-- The order of f32 patterns with no sign bit is that of their values; a pattern from the infinity's on has no value. Assumes nothing.
use mathlib.Core.Path.{◌≡◌, refl, sym, ap, ◌∙◌, subst}
use mathlib.Core.Logic.{inl, inr}
use Prim.Native.Nat.{ℕ, zero, suc, ◌+◌, ◌*◌, ◌/◌, ◌%◌, ◌^◌, ◌≤◌, ◌<◌}
use native.Mathlib.Nat.{le_of_lt, le_trans, le_of_eq, lt_of_lt_of_le, lt_of_le_of_lt, lt_of_not-le, eq-or-lt_of_le}
use native.Mathlib.Nat.{mul-one, mul_assoc, mul-le-mul_left, mul-le-mul_right, mul-lt-mul_of_pos_right, pow-succ'}
use native.Mathlib.Omega.{arith}
use mathlib.Core.Bool.{Bool, true, false, cond}
use lib.Dec.{T, leb, eqb}
use lib.Pow.{pow_pos, pow_mono}
use lib.Ieee.{Float, nan, inf, binary32, of_fields, of_bits, to_bits, fits}
use lib.Ieee.Bits.{of_bits-to_bits}
use lib.Ieee.Exact.{HasValue}
use Rattle.std.proofs.Common.{Err}
use Rattle.grid.specs.declared.OffGrid.TheVariants.{NotFinite}
use Rattle.grid.specs.Number.{finite, numerator, denominator, negative, in_range, round_eighths, grid_number_of}
use Rattle.grid.specs.Pattern.{significand, exponent, units}
use Rattle.grid.proofs.Value.{of_bits_is, bits_value}
use Rattle.grid.proofs.Round.{digits_lt}

-- ---- a larger pattern stands for a larger number

bigger : (e t d u : ℕ) → t < 8388608 → e < d → significand e t * 2 ^ exponent e < significand d u * 2 ^ exponent d
bigger e t zero u h l = absurd (none e l)
  where
    none : (e : ℕ) → e < 0 → ⊥
    none e l = omega arith
bigger zero t (suc k) u h l =
    lt_of_lt_of_le (lt_of_le_of_lt (le_of_eq (mul-one t)) h)
    (le_trans (le_of_eq (sym (mul-one 8388608))) (le_trans (mul-le-mul_left 8388608 (pow_pos k)) (mul-le-mul_right (2 ^ k) (head u))))
  where
    head : (u : ℕ) → 8388608 ≤ 8388608 + u
    head u = omega arith
bigger (suc j) t (suc k) u h l =
    lt_of_lt_of_le (mul-lt-mul_of_pos_right (head2 t h) (pow_pos j))
    (le_trans (le_of_eq (mul_assoc 8388608 2 (2 ^ j) ∙ ap (λ (x : ℕ). 8388608 * x) (sym (pow-succ' 2 j))))
    (le_trans (mul-le-mul_left 8388608 (pow_mono (back j k l))) (mul-le-mul_right (2 ^ k) (head u))))
  where
    head2 : (t : ℕ) → t < 8388608 → 8388608 + t < 8388608 * 2
    head2 t h = omega arith

    back : (j k : ℕ) → suc j < suc k → suc j ≤ k
    back j k l = omega arith

    head : (u : ℕ) → 8388608 ≤ 8388608 + u
    head u = omega arith

significand_mono : (e t u : ℕ) → t < u → significand e t < significand e u
significand_mono zero t u h = h
significand_mono (suc e) t u h = omega arith

fields_le : (a b : ℕ) → a < b → a / 8388608 ≤ b / 8388608
fields_le a b h = omega arith

digits_order : (a b : ℕ) → a < b → a / 8388608 ≡ b / 8388608 → a % 8388608 < b % 8388608
digits_order a b h e = omega arith

pub units_lt : (a b : ℕ) → a < b → units a < units b
units_lt a b h =
    elim (eq-or-lt_of_le (fields_le a b h)) [
      | inl e ↦ subst (λ (x : ℕ). units a < significand x (b % 8388608) * 2 ^ exponent x) e
          (mul-lt-mul_of_pos_right (significand_mono (a / 8388608) (a % 8388608) (b % 8388608) (digits_order a b h e))
          (pow_pos (exponent (a / 8388608))))
      | inr l ↦ bigger (a / 8388608) (a % 8388608) (b / 8388608) (b % 8388608) (digits_lt a) l
    ]

pub units_le : (a b : ℕ) → a ≤ b → units a ≤ units b
units_le a b h = elim (eq-or-lt_of_le h) [ inl e ↦ le_of_eq (ap units e) | inr l ↦ le_of_lt (units_lt a b l) ]

-- ---- a pattern from the infinity's on is not finite
at_ones : (s : Bool) (t : ℕ) → of_fields binary32 s 255 t ≡ cond (eqb t 0) (inf s) nan
unfolding of_fields
at_ones s t = refl

field_ones : (b : ℕ) → 2139095040 ≤ b % 2147483648 → b % 2147483648 / 8388608 ≡ 255
field_ones b h = omega arith

ends : (b : ℕ) → 2139095040 ≤ b % 2147483648 → of_bits binary32 b ≡ cond (eqb (b % 8388608) 0) (inf (leb 2147483648 b)) nan
ends b h =
    of_bits_is b
    ∙ ap (λ (e : ℕ). of_fields binary32 (leb 2147483648 b) e (b % 8388608)) (field_ones b h)
    ∙ at_ones (leb 2147483648 b) (b % 8388608)

end_grid : (p s : Bool) → grid_number_of (cond p (inf s) nan) ≡ Err NotFinite
unfolding grid_number_of finite in_range round_eighths numerator denominator negative
end_grid true s = refl
end_grid false s = refl

end_value : (p s t : Bool) (a c : ℕ) → HasValue (cond p (inf s) nan) t a c → ⊥
end_value true s t a c h = h
end_value false s t a c h = h

pub bits_not_finite : (b : ℕ) → 2139095040 ≤ b % 2147483648 → grid_number_of (of_bits binary32 b) ≡ Err NotFinite
bits_not_finite b h = ap grid_number_of (ends b h) ∙ end_grid (eqb (b % 8388608) 0) (leb 2147483648 b)

pub not_finite : (x : Float) → T (fits binary32 x) → 2139095040 ≤ to_bits binary32 x % 2147483648 → Err NotFinite ≡ grid_number_of x
not_finite x f h = sym (bits_not_finite (to_bits binary32 x) h) ∙ ap grid_number_of (of_bits-to_bits binary32 x f)

pub finite_bits : (x : Float) → T (fits binary32 x) → (s : Bool) (a c : ℕ) → HasValue x s a c → to_bits binary32 x % 2147483648 < 2139095040
finite_bits x f s a c v =
    let b = to_bits binary32 x in
    lt_of_not-le (λ (h : 2139095040 ≤ b % 2147483648).
    end_value (eqb (b % 8388608) 0) (leb 2147483648 b) s a c (subst (λ (y : Float). HasValue y s a c) (sym (of_bits-to_bits binary32 x f) ∙ ends b h) v))

-- what a value's own pattern says of it
pub own_bits : (x : Float) → T (fits binary32 x) → to_bits binary32 x % 2147483648 < 2139095040
    → HasValue x (leb 2147483648 (to_bits binary32 x)) (units (to_bits binary32 x % 2147483648)) (2 ^ 149)
own_bits x f h =
    let b = to_bits binary32 x in
    subst (λ (y : Float). HasValue y (leb 2147483648 b) (units (b % 2147483648)) (2 ^ 149)) (of_bits-to_bits binary32 x f) (bits_value b h)
