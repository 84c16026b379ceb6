-- The test of equality of integers; those of order are `lt_z` and `le_z` of `lib.Signed`. Definitions only.
use Rattle.std.specs.Prelude.{Bool, false, eqb, ℤ, pos, negsuc}

abbrev pub equal : ℤ → ℤ → Bool
equal (pos a) (pos b) = eqb a b
equal (pos a) (negsuc b) = false
equal (negsuc a) (pos b) = false
equal (negsuc a) (negsuc b) = eqb a b
