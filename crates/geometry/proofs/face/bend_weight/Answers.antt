-- `geometry::face::bend_weight` meets its contract: the product is below 2 ^ 32.
use native.Mathlib.Nat.{lt_of_le_of_lt}
use lib.Dec.{lit<}
use Rattle.integers.proofs.Bounds.{mul_le}
use Rattle.geometry.proofs.face.bend_weight.Goals as goal

pub overflow_mul-result : goal.overflow_mul-result
overflow_mul-result c = record { fits = lt_of_le_of_lt (mul_le c.requires.0 c.requires.1) (lit< tt) }
