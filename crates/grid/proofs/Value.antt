-- What the fields of an f32's pattern say of its exact value. Assumes nothing.
use mathlib.Core.Path.{◌≡◌, refl, sym, ap, ◌∙◌, subst}
use Prim.Native.Nat.{ℕ, zero, suc, ◌+◌, ◌*◌, ◌/◌, ◌%◌, ◌^◌, ◌≤◌, ◌<◌}
use native.Mathlib.Nat.{mul_assoc, mul_right_comm, eq_of_mul-eq-mul_right, mul-le-mul_right, le_of_mul-le-mul_right, le_trans, le_of_eq}
use native.Mathlib.Omega.{arith}
use mathlib.Core.Bool.{Bool, true, false, cond}
use lib.Dec.{T, leb, eqb, not_T, eqb→eq, leb→le, le→leb}
use lib.Ieee.{Float, nan, inf, fin, binary32, up, down, odd, of_fields, of_bits, is_nan}
use lib.Ieee.Bits.{cond_no}
use lib.Ieee.Fits.{down_pos}
use lib.Ieee.Exact.{HasValue, odd_sign}
use Rattle.std.proofs.Common.{Ok, Err}
use Rattle.grid.specs.declared.OffGrid.TheVariants.{OutOfRange}
use Rattle.grid.specs.Number.{finite, numerator, denominator, negative, signed, nearest_even, in_range, round_eighths, grid_number_of}
use Rattle.grid.specs.Pattern.{grid_fraction, significand, exponent, units}
use Rattle.grid.proofs.Nearest.{nearest_same}

-- ---- NaN patterns
pub nan_is : (x : Float) → is_nan x ≡ true → x ≡ nan
unfolding is_nan
nan_is nan e = refl
nan_is (inf s) e = absurd (subst T (sym e) tt)
nan_is (fin s m e') e = absurd (subst T (sym e) tt)

-- ---- a pattern's value
pub of_bits_is : (b : ℕ) → of_bits binary32 b ≡ of_fields binary32 (leb 2147483648 b) (b % 2147483648 / 8388608) (b % 8388608)
unfolding of_bits
of_bits_is b = refl

differ : (x : ℕ) → suc x < 255 → suc x ≡ 255 → ⊥
differ x h e = omega arith

fields_odd : (s : Bool) (e t : ℕ) → e < 255 → of_fields binary32 s e t ≡ odd 24 s (significand e t) (exponent e) 149
unfolding of_fields
fields_odd s zero t h = refl
fields_odd s (suc e) t h =
    cond_no (eqb (suc e) 255) (cond (eqb t 0) (inf s) nan) (odd 24 s (8388608 + t) e 149)
    (not_T (eqb (suc e) 255) (λ (u : T (eqb (suc e) 255)). differ e h (eqb→eq (suc e) 255 u)))

digits_same : (b : ℕ) → b % 2147483648 % 8388608 ≡ b % 8388608
digits_same b = omega arith

field_in : (a : ℕ) → a < 2139095040 → a / 8388608 < 255
field_in a h = omega arith

pub bits_value : (b : ℕ) → b % 2147483648 < 2139095040 → HasValue (of_bits binary32 b) (leb 2147483648 b) (units (b % 2147483648)) (2 ^ 149)
bits_value b h =
    let a = b % 2147483648 in
    subst (λ (x : Float). HasValue x (leb 2147483648 b) (units a) (2 ^ 149))
    (sym (of_bits_is b ∙ ap (λ (t : ℕ). of_fields binary32 (leb 2147483648 b) (a / 8388608) t) (sym (digits_same b))
    ∙ fields_odd (leb 2147483648 b) (a / 8388608) (a % 8388608) (field_in a h)))
    (odd_sign 24 (leb 2147483648 b) (significand (a / 8388608) (a % 8388608)) (exponent (a / 8388608)) 149)

-- ---- one value has one sign and one number of units
pub value_unique : (x : Float) (s t : Bool) (a b c : ℕ) → HasValue x s a c → HasValue x t b c → (s ≡ t) × (a ≡ b)
value_unique nan s t a b c h k = absurd h
value_unique (inf u) s t a b c h k = absurd h
value_unique (fin u m e) s t a b c h k = (sym h.0 ∙ k.0, eq_of_mul-eq-mul_right (down e) (down_pos e) a b (sym h.1 ∙ k.1))

-- ---- equal fractions have one grid number
bool_same : (p q : Bool) → (T p → T q) → (T q → T p) → p ≡ q
bool_same true true f g = refl
bool_same true false f g = absurd (f tt)
bool_same false true f g = absurd (g tt)
bool_same false false f g = refl

within : (a b c d : ℕ) → 0 < b → a * d ≡ c * b → a ≤ 1000 * b → c ≤ 1000 * d
within a b c d B e h = le_of_mul-le-mul_right (le_trans (le_of_eq (sym e)) (le_trans (mul-le-mul_right d h) (le_of_eq (mul_right_comm 1000 b d)))) B

pub step_same : (s : Bool) (a b c d : ℕ) → 0 < b → 0 < d → a * d ≡ c * b → grid_fraction s a b ≡ grid_fraction s c d
step_same s a b c d B D e =
    ap (λ (t : Bool). cond t (Ok (signed s (nearest_even a b))) (Err OutOfRange))
    (bool_same (leb a (1000 * b)) (leb c (1000 * d))
    (λ (t : T (leb a (1000 * b))). le→leb c (1000 * d) (within a b c d B e (leb→le a (1000 * b) t)))
    (λ (t : T (leb c (1000 * d))). le→leb a (1000 * b) (within c d a b D (sym e) (leb→le c (1000 * d) t))))
    ∙ ap (λ (n : ℕ). cond (leb c (1000 * d)) (Ok (signed s n)) (Err OutOfRange)) (nearest_same a b c d B D e)

pub grid_value : (x : Float) (s : Bool) (a c : ℕ) → 0 < c → HasValue x s a c → grid_number_of x ≡ grid_fraction s (8 * a) c
unfolding grid_number_of finite in_range round_eighths numerator denominator negative
grid_value nan s a c C h = absurd h
grid_value (inf t) s a c C h = absurd h
grid_value (fin t m e) s a c C h =
    ap (λ (u : Bool). grid_fraction u (8 * (m * up e)) (down e)) h.0
    ∙ step_same s (8 * (m * up e)) (down e) (8 * a) c (down_pos e) C (mul_assoc 8 (m * up e) c ∙ ap (λ (n : ℕ). 8 * n) h.1 ∙ sym (mul_assoc 8 a (down e)))
