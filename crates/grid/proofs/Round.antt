-- The number nearest to what a pattern below 1024 stands for. Assumes nothing.
use mathlib.Core.Path.{◌≡◌, sym, ap, ◌∙◌, subst}
use Prim.Native.Nat.{ℕ, zero, suc, ◌+◌, ◌-◌, ◌*◌, ◌/◌, ◌%◌, ◌^◌, ◌≤◌, ◌<◌}
use native.Mathlib.Nat.{mul_assoc, mul-le-mul_left, mul-lt-mul_of_pos_right, lt_of_lt_of_le, zero-lt-suc, mod-lt, mod-eq_of_lt, div-eq_of_lt, div-le_self}
use native.Mathlib.Omega.{arith}
use lib.Pow.{pow_pos, pow_mono, pow-add}
use Rattle.grid.specs.Number.{nearest_even}
use Rattle.grid.specs.Pattern.{significand, exponent, units}
use Rattle.grid.proofs.Nearest.{down, nearest_same}

-- ---- below a half
pub digits_lt : (c : ℕ) → c % 8388608 < 8388608
digits_lt c = omega arith

pub significand_lt : (e t : ℕ) → t < 8388608 → significand e t < 2 ^ 24
significand_lt zero t h = omega arith
significand_lt (suc e) t h = omega arith

exponent_le : (e k : ℕ) → e ≤ suc k → exponent e ≤ k
exponent_le zero k h = omega arith
exponent_le (suc e) k h = omega arith

small_field : (c : ℕ) → c < 1056964608 → c / 8388608 ≤ 125
small_field c h = omega arith

units_small : (c : ℕ) → c < 1056964608 → units c < 2 ^ 148
units_small c h =
    let e = c / 8388608 in
    lt_of_lt_of_le (mul-lt-mul_of_pos_right (significand_lt e (c % 8388608) (digits_lt c)) (pow_pos (exponent e)))
    (mul-le-mul_left (2 ^ 24) (pow_mono (exponent_le e 124 (small_field c h))))

whole_lt : (v u : ℕ) → v * 2 < u → v < u
whole_lt v u h = omega arith

pub below_half : (c : ℕ) → c < 1056964608 → 0 ≡ nearest_even (units c) (2 ^ 149)
below_half c h = nothing (units c) (2 ^ 149) (mul-lt-mul_of_pos_right (units_small c h) (zero-lt-suc 1))
  where
    nothing : (v u : ℕ) → v * 2 < u → 0 ≡ nearest_even v u
    nothing v u k = sym (div-eq_of_lt (whole_lt v u k)) ∙ down v u (subst (λ (r : ℕ). r * 2 < u) (sym (mod-eq_of_lt (whole_lt v u k))) k)

-- ---- from a half to 1024
sum_is : (e : ℕ) → suc e ≤ 136 → e + (150 - suc e) ≡ 149
sum_is e h = omega arith

no_field : 126 ≤ 0 → ⊥
no_field h = omega arith

scaled : (e t : ℕ) → 126 ≤ e → e ≤ 136 → (8388608 + t) * 2 ^ 149 ≡ significand e t * 2 ^ exponent e * 2 ^ (150 - e)
scaled zero t h k = absurd (no_field h)
scaled (suc e) t h k =
    ap (λ (n : ℕ). (8388608 + t) * 2 ^ n) (sym (sum_is e k))
    ∙ ap (λ (n : ℕ). (8388608 + t) * n) (pow-add 2 e (150 - suc e))
    ∙ sym (mul_assoc (8388608 + t) (2 ^ e) (2 ^ (150 - suc e)))

field_ge : (c : ℕ) → 1056964608 ≤ c → 126 ≤ c / 8388608
field_ge c h = omega arith

field_le : (c : ℕ) → c < 1149239296 → c / 8388608 ≤ 136
field_le c h = omega arith

shift_le : (c : ℕ) → 1056964608 ≤ c → 150 - c / 8388608 ≤ 24
shift_le c h = omega arith

one_times : (n : ℕ) → n ≤ 2 ^ 24 → 1 * n % 4294967296 ≡ n
one_times n h = omega arith

-- the code's 1 moved up by the places after the point, and the digits, which are so many such ones
abbrev pub one : ℕ → ℕ
one c = 1 * 2 ^ (150 - c / 8388608) % 4294967296

abbrev pub digits : ℕ → ℕ
digits c = 8388608 + c % 8388608

power : (c : ℕ) → 1056964608 ≤ c → one c ≡ 2 ^ (150 - c / 8388608)
power c h = one_times (2 ^ (150 - c / 8388608)) (pow_mono (shift_le c h))

pub one_pos : (c : ℕ) → 1056964608 ≤ c → 0 < one c
one_pos c h = subst (λ (n : ℕ). 0 < n) (sym (power c h)) (pow_pos (150 - c / 8388608))

pub twice_fits : (c : ℕ) → 1056964608 ≤ c → digits c % one c * 2 < 2 ^ 32
twice_fits c h = small (digits c % one c) (one c) (mod-lt (digits c) (one_pos c h)) (subst (λ (n : ℕ). n ≤ 2 ^ 24) (sym (power c h)) (pow_mono (shift_le c h)))
  where
    small : (r n : ℕ) → r < n → n ≤ 2 ^ 24 → r * 2 < 2 ^ 32
    small r n l k = omega arith

pub next_fits : (c : ℕ) → digits c / one c + 1 < 2 ^ 32
next_fits c = small (c % 8388608) (digits c / one c) (digits_lt c) (div-le_self (digits c) (one c))
  where
    small : (t q : ℕ) → t < 8388608 → q ≤ 8388608 + t → q + 1 < 2 ^ 32
    small t q h k = omega arith

pub from_half : (c : ℕ) → 1056964608 ≤ c → c < 1149239296 → nearest_even (digits c) (one c) ≡ nearest_even (units c) (2 ^ 149)
from_half c h k =
    nearest_same (digits c) (one c) (units c) (2 ^ 149) (one_pos c h) (pow_pos 149)
    (scaled (c / 8388608) (c % 8388608) (field_ge c h) (field_le c k) ∙ ap (λ (n : ℕ). units c * n) (sym (power c h)))
