-- The value of an f32's bit pattern in whole numbers, with no word of floats. What functions say to each other; nobody has to believe it.
use Rattle.std.specs.Prelude.{ℕ, zero, suc, ◌+◌, ◌*◌, ◌/◌, ◌%◌, ◌^◌, Bool, cond, leb, Ok, Err}
use Rattle.grid.specs.declared.OffGrid.TheVariants.{NotFinite, OutOfRange}
use Rattle.grid.specs.Number.{signed, nearest_even, GridNumber}

-- A finite pattern with no sign bit, of the exponent field e and the digits t, is significand e t * 2 ^ exponent e units of 2 ^ -149.
abbrev pub significand : ℕ → ℕ → ℕ
significand zero t = t
significand (suc e) t = 8388608 + t

abbrev pub exponent : ℕ → ℕ
exponent zero = 0
exponent (suc e) = e

abbrev pub units : ℕ → ℕ
units c = significand (c / 8388608) (c % 8388608) * 2 ^ exponent (c / 8388608)

-- rules 1.9 and 1.10 for a value of the sign s and the size a / 8b
abbrev pub grid_fraction : Bool → ℕ → ℕ → GridNumber
grid_fraction s a b = cond (leb a (1000 * b)) (Ok (signed s (nearest_even a b))) (Err OutOfRange)

-- rules 1.9, 1.10 and 4.8 from a pattern alone; that this is the grid number of its value: `bits_agree` of proofs/Agree.antt
abbrev pub grid_number_of_bits : ℕ → GridNumber
grid_number_of_bits b = cond (leb 2139095040 (b % 2147483648)) (Err NotFinite) (grid_fraction (leb 2147483648 b) (8 * units (b % 2147483648)) (2 ^ 149))
