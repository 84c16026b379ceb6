-- Square roots and quotients cut to whole numbers, and the clamp to a range. Definitions only.
use Rattle.std.specs.Prelude.{cond, ℕ, zero, suc, ◌+◌, ◌*◌, ◌/◌, ◌≤◌, ◌<◌, leb, ℤ, pos, negsuc}
use Rattle.std.specs.Int.Signed.{lt_z}

-- r is the square root of x, cut down to a whole number; a length is that of 16 |n|² (rule 2.7)
pub record IsFloorRoot (x r : ℕ) : Type 0 where
  pub low : r * r ≤ x
  pub high : x < (r + 1) * (r + 1)

-- r + 1 where its square is still within x, else r
abbrev pub last_digit : ℕ → ℕ → ℕ
last_digit x r = cond (leb ((r + 1) * (r + 1)) x) (r + 1) r

-- that r for an x of k digits in base 4: twice that of x / 4, and a last binary digit
unfoldable pub root_digits : ℕ → ℕ → ℕ
root_digits zero x = 0
root_digits (suc k) x = last_digit x (2 * root_digits k (x / 4))

-- rule 2.7: that r for every x below 4 ^ 32 = 2 ^ 64 (`floor_root_is` of proofs/Rounding.antt)
abbrev pub floor_root : ℕ → ℕ
floor_root x = root_digits 32 x

-- rule 2.10: n / k rounded down, below zero too; -(a + 1) over k, rounded down, is -(a / k + 1). The caller sees to 0 < k
-- (`floor_div_low` and `floor_div_high` of proofs/Rounding.antt)
abbrev pub floor_div : ℤ → ℕ → ℤ
floor_div (pos a) k = pos (a / k)
floor_div (negsuc a) k = negsuc (a / k)

-- rule 2.10: x, or the nearer end of low to high where x is outside
abbrev pub clamped : ℤ → ℤ → ℤ → ℤ
clamped low high x = cond (lt_z x low) low (cond (lt_z high x) high x)
