-- The product of a finite f32 by 8.0: exact, or an infinity; and the range and the grid number from its pattern. Assumes nothing.
use mathlib.Core.Path.{◌≡◌, refl, sym, ap, ◌∙◌, subst}
use Prim.Native.Nat.{ℕ, zero, suc, ◌+◌, ◌-◌, ◌*◌, ◌/◌, ◌%◌, ◌^◌, ◌≤◌, ◌<◌, compare}
use native.Mathlib.Nat.{le_of_lt, le_trans, le_of_eq, lt_of_le_of_lt, lt_of_lt_of_le, mul-one, mul_comm, mul_assoc, mul_right_comm, mul-le-mul_left}
use native.Mathlib.Nat.{mul-le-mul_right, mul-lt-mul_of_pos_left, mul-pos, zero-lt-suc, le-div_iff_mul-le, div-le_of_le-mul, mul-div_cancel}
use native.Mathlib.Omega.{arith}
use mathlib.Core.Bool.{Bool, true, false, not, cond}
use borrow.Author.Tests.{le-leb, lt-leb, le-ltb, ltb-true, ltb-false}
use lib.IntN.{ℤ}
use lib.Dec.{T, leb, ltb}
use lib.Pow.{pow_pos, pow-add}
use lib.Ieee.{Float, nan, inf, fin, binary32, up, down, unlike, size, nearest, odd, of_bits, to_bits, is_nan, fits, mul, round}
use lib.Ieee as ieee
use lib.Ieee.Digits.{size-le, back}
use lib.Ieee.Fits.{down_pos, mul-fits, core, round_is}
use lib.Ieee.Exact.{HasValue, round_exact}
use lib.Ieee.Nearest.{nearest-ge}
use lib.Ieee.Scale.{round_same}
use Rattle.std.proofs.Common.{Ok, Err}
use Rattle.grid.specs.declared.OffGrid.TheVariants.{OutOfRange}
use Rattle.grid.specs.Number.{signed, nearest_even, grid_number_of}
use Rattle.grid.specs.Pattern.{significand, exponent, units}
use Rattle.grid.proofs.Value.{bits_value, value_unique, grid_value}
use Rattle.grid.proofs.Nearest.{at_most_next}
use Rattle.grid.proofs.Round.{significand_lt, digits_lt}
use Rattle.grid.proofs.Patterns.{units_lt, units_le, own_bits, finite_bits}

-- ---- the product is 8 times the value, rounded to the format
abbrev pub eight : Float
eight = of_bits binary32 1090519040

times : (s : Bool) (m : ℕ) (e : ℤ) → mul binary32 (fin s m e) eight ≡ round binary32 s (m * up e * 8) (down e * 1)
unfolding mul of_bits
times true m e = refl
times false m e = refl

product_is : (x : Float) (s : Bool) (u : ℕ) → HasValue x s u (2 ^ 149) → mul binary32 x eight ≡ round binary32 s (8 * u) (2 ^ 149)
product_is nan s u h = absurd h
product_is (inf t) s u h = absurd h
product_is (fin t m e) s u h =
    let n = m * up e in
    let d = down e in
    ap (λ (t : Bool). mul binary32 (fin t m e) eight) h.0
    ∙ times s m e
    ∙ round_same binary32 s (n * 8) (d * 1) (8 * u) (2 ^ 149) (subst (λ (k : ℕ). 0 < k) (sym (mul-one d)) (down_pos e)) (pow_pos 149)
    (mul_right_comm n 8 (2 ^ 149) ∙ ap (λ (k : ℕ). k * 8) h.1 ∙ mul_comm (u * d) 8 ∙ sym (mul_assoc 8 u d) ∙ ap (λ (k : ℕ). 8 * u * k) (sym (mul-one d)))

-- ---- below the overflow it is exact: 24 digits, q, that were moved up by j places are moved up by three more
exact : (s : Bool) (q j : ℕ) → q < 2 ^ 24 → 8 * (q * 2 ^ j) < 2 ^ 277 → HasValue (round binary32 s (8 * (q * 2 ^ j)) (2 ^ 149)) s (8 * (q * 2 ^ j)) (2 ^ 149)
exact s q j Q B =
    let p : 8 * (q * 2 ^ j) ≡ q * 2 ^ (j + 3) = mul_comm 8 (q * 2 ^ j) ∙ mul_assoc q (2 ^ j) 8 ∙ ap (λ (x : ℕ). q * x) (sym (pow-add 2 j 3)) in
    round_exact binary32 s (8 * (q * 2 ^ j)) (2 ^ 149) q (j + 3) (pow_pos 149) Q (lt_of_le_of_lt (le_of_eq (sym p)) B) (ap (λ (x : ℕ). x * 2 ^ 149) p)

-- ---- from 2 ^ 277 units on it is an infinity
units_over : (s : Bool) (q k : ℕ) → 2 ^ 277 ≤ q * 2 ^ k → ieee.units binary32 s q k ≡ inf s
unfolding ieee.units
units_over s q k h = ap (λ (t : Bool). cond t (odd 25 s q k 149) (inf s)) (le-ltb (q * 2 ^ k) (2 ^ 277) h)

core_over : (s : Bool) (p k : ℕ) → k ≤ 277 → 2 ^ 277 ≤ p → core binary32 s (p * 2 ^ 149) (2 ^ 149) k ≡ inf s
core_over s p k K h =
    let u = 2 ^ 149 * 2 ^ k in
    let q = p * 2 ^ 149 / u in
    let whole : 2 ^ (277 - k) * 2 ^ k ≡ 2 ^ 277 = sym (pow-add 2 (277 - k) k) ∙ ap (λ (j : ℕ). 2 ^ j) (back 277 k K) in
    let most : 2 ^ (277 - k) ≤ q =
    (le-div_iff_mul-le (mul-pos (pow_pos 149) (pow_pos k))).1
    (le_trans (le_of_eq (ap (λ (n : ℕ). 2 ^ (277 - k) * n) (mul_comm (2 ^ 149) (2 ^ k)) ∙ sym (mul_assoc (2 ^ (277 - k)) (2 ^ k) (2 ^ 149))
    ∙ ap (λ (n : ℕ). n * 2 ^ 149) whole)) (mul-le-mul_right (2 ^ 149) h)) in
    let o = compare (p * 2 ^ 149 % u * 2) u in
    units_over s (nearest q o) k (le_trans (le_of_eq (sym whole)) (mul-le-mul_right (2 ^ k) (le_trans most (nearest-ge q o))))

overflow : (s : Bool) (p : ℕ) → 2 ^ 277 ≤ p → p < 2 ^ 280 → round binary32 s p (2 ^ 149) ≡ inf s
overflow s p h l =
    let n = p * 2 ^ 149 / 2 ^ 149 in
    let e : n ≡ p = mul-div_cancel p (pow_pos 149) in
    round_is binary32 s p (2 ^ 149) ∙ core_over s p (size n - 24) (spare (size n) (size-le n 280 (lt_of_le_of_lt (le_of_eq e) l))) h
  where
    spare : (z : ℕ) → z ≤ 280 → z - 24 ≤ 277
    spare z h = omega arith

infinity_bits : (s : Bool) → to_bits binary32 (inf s) % 2147483648 ≡ 2139095040
unfolding to_bits
infinity_bits true = refl
infinity_bits false = refl

-- ---- whatever two finite floats are, their product is no NaN
units_no_nan : (s : Bool) (q k : ℕ) → T (not (is_nan (ieee.units binary32 s q k)))
unfolding ieee.units odd is_nan
units_no_nan s q k = by (ltb (q * 2 ^ k) (2 ^ 277)) q
  where
    by : (t : Bool) (q : ℕ) → T (not (is_nan (cond t (odd 25 s q k 149) (inf s))))
    by true zero = tt
    by true (suc q) = tt
    by false q = tt

mul_no_nan : (x y : Float) (s t : Bool) (a b : ℕ) → HasValue x s a (2 ^ 149) → HasValue y t b (2 ^ 149) → T (not (is_nan (mul binary32 x y)))
unfolding mul round
mul_no_nan nan y s t a b h k = absurd h
mul_no_nan (inf u) y s t a b h k = absurd h
mul_no_nan (fin u m e) nan s t a b h k = absurd k
mul_no_nan (fin u m e) (inf v) s t a b h k = absurd k
mul_no_nan (fin u m e) (fin v n d) s t a b h k =
    let num = m * up e * (n * up d) * 2 ^ 149 in
    let den = down e * down d in
    let j = size (num / den) - 24 in
    units_no_nan (unlike u v) (nearest (num / (den * 2 ^ j)) (compare (num % (den * 2 ^ j) * 2) (den * 2 ^ j))) j

pub product_no_nan : (x : Float) (k : ℕ) → T (fits binary32 x) → to_bits binary32 x % 2147483648 < 2139095040 → k % 2147483648 < 2139095040 →
    T (not (is_nan (mul binary32 x (of_bits binary32 k))))
product_no_nan x k f h l =
    let b = to_bits binary32 x in
    mul_no_nan x (of_bits binary32 k) (leb 2147483648 b) (leb 2147483648 k) (units (b % 2147483648)) (units (k % 2147483648)) (own_bits x f h) (bits_value k l)

-- ---- what a pattern below 1024.0 rounds to is small
rounded_le : (c : ℕ) → c < 1149239296 → nearest_even (units c) (2 ^ 149) ≤ 1025
rounded_le c h =
    le_trans (at_most_next (units c) (2 ^ 149))
    (up1 (units c / 2 ^ 149) (div-le_of_le-mul (2 ^ 149) (le_trans (le_of_lt (units_lt c 1149239296 h)) (le_of_eq (mul_comm 1024 (2 ^ 149))))))
  where
    up1 : (n : ℕ) → n ≤ 1024 → n + 1 ≤ 1025
    up1 n h = omega arith

pub rounded_small : {n c most : ℕ} → n ≡ nearest_even (units c) (2 ^ 149) → c ≤ most → most < 1149239296 → n < 2 ^ 63
rounded_small {n} {c} {most} e h l = small n (nearest_even (units c) (2 ^ 149)) e (rounded_le c (lt_of_le_of_lt h l))
  where
    small : (n m : ℕ) → n ≡ m → m ≤ 1025 → n < 2 ^ 63
    small n m e h = omega arith

-- ---- a finite x, by its pattern, and the pattern of its product. 0x7e00_0000, 2 ^ 125, is where 8 |x| reaches 2 ^ 128 and overflows
module _ (x : Float) (f : T (fits binary32 x)) (finite : to_bits binary32 x % 2147483648 < 2139095040) where
  abbrev s : Bool
  s = leb 2147483648 (to_bits binary32 x)

  abbrev a : ℕ
  a = to_bits binary32 x % 2147483648

  abbrev w : Float
  w = mul binary32 x eight

  abbrev c : ℕ
  c = to_bits binary32 w % 2147483648

  held : HasValue x s (units a) (2 ^ 149)
  held = own_bits x f finite

  product : a < 2113929216 → HasValue w s (8 * units a) (2 ^ 149)
  product h =
      subst (λ (y : Float). HasValue y s (8 * units a) (2 ^ 149)) (sym (product_is x s (units a) held))
      (exact s (significand (a / 8388608) (a % 8388608)) (exponent (a / 8388608)) (significand_lt (a / 8388608) (a % 8388608) (digits_lt a))
      (mul-lt-mul_of_pos_left (units_lt a 2113929216 h) (zero-lt-suc 7)))

  infinite : 2113929216 ≤ a → w ≡ inf s
  infinite h =
      product_is x s (units a) held
      ∙ overflow s (8 * units a) (mul-le-mul_left 8 (units_le 2113929216 a h)) (mul-lt-mul_of_pos_left (units_lt a 2139095040 finite) (zero-lt-suc 7))

  product_same : a < 2113929216 → (leb 2147483648 (to_bits binary32 w) ≡ s) × (units c ≡ 8 * units a)
  product_same h =
      value_unique w (leb 2147483648 (to_bits binary32 w)) s (units c) (8 * units a) (2 ^ 149)
      (own_bits w (mul-fits binary32 x eight) (finite_bits w (mul-fits binary32 x eight) s (8 * units a) (2 ^ 149) (product h))) (product h)

  -- ---- the range: 0x447a_0000 is the pattern of 1000.0
  pub too_far : 1148846080 < c → Err OutOfRange ≡ grid_number_of x
  too_far r =
      sym (grid_value x s (units a) (2 ^ 149) (pow_pos 149) held
      ∙ ap (λ (t : Bool). cond t (Ok (signed s (nearest_even (8 * units a) (2 ^ 149)))) (Err OutOfRange))
      (lt-leb (8 * units a) (1000 * 2 ^ 149) (by (ltb a 2113929216) (ltb-true a 2113929216) (ltb-false a 2113929216))))
    where
      by : (t : Bool) → (t ≡ true → a < 2113929216) → (t ≡ false → 2113929216 ≤ a) → 1000 * 2 ^ 149 < 8 * units a
      by true h k = lt_of_lt_of_le (units_lt 1148846080 c r) (le_of_eq (product_same (h refl)).1)
      by false h k = mul-lt-mul_of_pos_left (units_lt 1123680256 a (lt_of_lt_of_le far (k refl))) (zero-lt-suc 7)
        where
          far : 1123680256 < 2113929216
          far = omega arith

  module _ (r : c ≤ 1148846080) where
    below_overflow : a < 2113929216
    below_overflow = by (ltb a 2113929216) (ltb-true a 2113929216) (ltb-false a 2113929216)
      where
        none : (n : ℕ) → n ≡ 2139095040 → n ≤ 1148846080 → ⊥
        none n e h = omega arith

        by : (t : Bool) → (t ≡ true → a < 2113929216) → (t ≡ false → 2113929216 ≤ a) → a < 2113929216
        by true h k = h refl
        by false h k = absurd (none c (ap (λ (y : Float). to_bits binary32 y % 2147483648) (infinite (k refl)) ∙ infinity_bits s) r)

    ranged : units c ≤ 1000 * 2 ^ 149
    ranged = units_le c 1148846080 r

    pub grid_is : grid_number_of x ≡ Ok (signed (leb 2147483648 (to_bits binary32 w)) (nearest_even (units c) (2 ^ 149)))
    grid_is =
        let e = product_same below_overflow in
        grid_value x s (units a) (2 ^ 149) (pow_pos 149) held
        ∙ ap (λ (n : ℕ). cond (leb n (1000 * 2 ^ 149)) (Ok (signed s (nearest_even n (2 ^ 149)))) (Err OutOfRange)) (sym e.1)
        ∙ ap (λ (t : Bool). cond t (Ok (signed s (nearest_even (units c) (2 ^ 149)))) (Err OutOfRange)) (le-leb (units c) (1000 * 2 ^ 149) ranged)
        ∙ ap (λ (t : Bool). Ok (signed t (nearest_even (units c) (2 ^ 149)))) (sym e.0)
