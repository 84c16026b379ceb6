-- The grid number of a pattern's value is that of the pattern alone; and what it is at a few patterns. Assumes nothing.
use mathlib.Core.Path.{◌≡◌, refl}
use Prim.Native.Nat.{ℕ, ◌*◌, ◌%◌, ◌^◌, ◌≤◌, ◌<◌}
use mathlib.Core.Bool.{Bool, true, false, not, cond}
use lib.IntN.{pos}
use lib.Dec.{T, leb, leb→le, nleb→lt}
use lib.Pow.{pow_pos}
use lib.Ieee.{binary32, of_bits}
use Rattle.std.proofs.Common.{Ok, Err}
use Rattle.grid.specs.declared.OffGrid.TheVariants.{NotFinite, OutOfRange}
use Rattle.grid.specs.Number.{finite, numerator, denominator, negative, in_range, round_eighths, grid_number_of}
use Rattle.grid.specs.Pattern.{grid_fraction, grid_number_of_bits, units}
use Rattle.grid.proofs.Value.{bits_value, grid_value}
use Rattle.grid.proofs.Patterns.{bits_not_finite}

pub bits_agree : (b : ℕ) → grid_number_of (of_bits binary32 b) ≡ grid_number_of_bits b
bits_agree b = go (leb 2139095040 (b % 2147483648)) (leb→le 2139095040 (b % 2147483648)) (nleb→lt 2139095040 (b % 2147483648))
  where
    go : (t : Bool) → (T t → 2139095040 ≤ b % 2147483648) → (T (not t) → b % 2147483648 < 2139095040)
        → grid_number_of (of_bits binary32 b) ≡ cond t (Err NotFinite) (grid_fraction (leb 2147483648 b) (8 * units (b % 2147483648)) (2 ^ 149))
    go true h k = bits_not_finite b (h tt)
    go false h k = grid_value (of_bits binary32 b) (leb 2147483648 b) (units (b % 2147483648)) (2 ^ 149) (pow_pos 149) (bits_value b (k tt))

-- 125.0, the next above, the largest finite float (its product overflows), the least subnormal, minus zero, an infinity
at_125 : grid_number_of_bits 0x42fa_0000 ≡ Ok (pos 1000)
at_125 = refl

above_125 : grid_number_of_bits 0x42fa_0001 ≡ Err OutOfRange
above_125 = refl

largest : grid_number_of_bits 0x7f7f_ffff ≡ Err OutOfRange
largest = refl

least : grid_number_of_bits 1 ≡ Ok (pos 0)
least = refl

minus_zero : grid_number_of_bits 0x8000_0000 ≡ Ok (pos 0)
minus_zero = refl

infinite : grid_number_of_bits 0x7f80_0000 ≡ Err NotFinite
infinite = refl

direct : grid_number_of (of_bits binary32 0x42fa_0001) ≡ Err OutOfRange
unfolding grid_number_of finite in_range round_eighths numerator denominator negative of_bits
direct = refl
