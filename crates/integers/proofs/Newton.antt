-- Newton's iteration for the whole root of x. Assumes nothing.
use mathlib.Core.Path.{◌≡◌, subst}
use Prim.Native.Nat.{ℕ, zero, suc, ◌+◌, ◌*◌, ◌-◌, ◌/◌, ◌^◌, ◌≤◌, ◌<◌}
use native.Mathlib.Nat.{le_trans, lt_of_lt_of_le, mul_comm, mul-le-mul_left, div-lt_iff_lt-mul, lt-div-mul-add}
use native.Mathlib.Decide.{dec_le}
use native.Mathlib.Omega.{arith}
use lib.Count.{count_leading_zeros, leading_length}
use lib.Pow.{pow_mono, shr_lt}

-- the guess after r
abbrev pub next : ℕ → ℕ → ℕ
next x r = (r + x / r) / 2

-- Two numbers of sum 2 * m have a product of at most m * m: with a = m - d and b = m + d it is d * d less.
below_mean : (a b m : ℕ) → a ≤ m → a + b ≤ m + m → a * b ≤ m * m
below_mean a b m l s =
    let d = m - a in
    let k : b ≤ a + d + d = omega arith in
    let e : a + d ≡ m = omega arith in
    le_trans (mul-le-mul_left a k) (subst (λ (n : ℕ). a * (a + d + d) ≤ n * n) e (squares a d))
  where
    squares : (a d : ℕ) → a * (a + d + d) ≤ (a + d) * (a + d)
    squares a d = omega arith

product_le : (a b m : ℕ) → a + b ≤ m + m → a * b ≤ m * m
product_le a b m s = go (dec_le a m)
  where
    go : Dec (a ≤ m) → a * b ≤ m * m
    go (yes l) = below_mean a b m l s
    go (no f) = subst (λ (n : ℕ). n ≤ m * m) (mul_comm b a) (below_mean b a m (omega (arith, f)) (omega arith))

-- the next guess is at least the root, whatever the guess was: x is below (x / r + 1) * r
pub next_above : (x r : ℕ) → 0 < r → x < (next x r + 1) * (next x r + 1)
next_above x r h =
    let q = x / r in
    let s : q + 1 + r ≤ (next x r + 1) + (next x r + 1) = omega arith in
    let l : x < (q + 1) * r = omega (arith, lt-div-mul-add {a = x} {b = r} h) in
    lt_of_lt_of_le l (product_le (q + 1) r (next x r + 1) s)

-- only a guess above 0 has a square above x
pub guess_above_0 : (x r : ℕ) → x < r * r → 0 < r
guess_above_0 x zero h = absurd (omega arith)
guess_above_0 x (suc r) h = omega arith

-- and the next guess is below one whose square is above x, since x / r is below r
pub next_below : (x r : ℕ) → x < r * r → next x r < r
next_below x r h = let q : x / r < r = (div-lt_iff_lt-mul (guess_above_0 x r h)).1 h in omega arith

-- the exponent of the first guess: half of x's length in bits, rounded up
abbrev pub exponent : ℕ → ℕ
exponent x = (65 - count_leading_zeros 64 x) / 2

pub exponent_small : (x : ℕ) → x < 2 ^ 64 → exponent x ≤ 32
exponent_small x h = let l = leading_length 64 x h in omega (arith, l.1)

-- the first guess is above the root
pub shifted_below : (x : ℕ) → x < 2 ^ 64 → x / 2 ^ exponent x < 2 ^ exponent x
shifted_below x h =
    let l = leading_length 64 x h in
    let k = exponent x in
    let e : l.0 ≤ k + k = omega (arith, l.1) in
    shr_lt k k (lt_of_lt_of_le l.2 (pow_mono e))
