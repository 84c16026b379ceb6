-- Numbers and vectors that are 0. Assumes nothing.
use mathlib.Core.Path.{◌≡◌, ap}
use Prim.Native.Nat.{ℕ}
use native.Mathlib.Omega.{arith}
use lib.IntN.{pos, ◌+ℤ◌, ◌*ℤ◌}
use Rattle.geometry.specs.declared.Vector.{Vector}
use Rattle.integers.specs.Bounds.{AtMost}
use Rattle.geometry.specs.Vectors.{square_of, zero_vector}

-- 0 is within every bound
pub at_most_zero : {n : ℕ} → AtMost n (pos 0)
at_most_zero = record { size = omega arith }

-- a vector is 0 exactly where its square is: the other way round `zero_vector_lem` and `vanishes` of geometry/proofs/Squares.antt
pub zero_square : (n : Vector) → n.x ≡ pos 0 → n.y ≡ pos 0 → n.z ≡ pos 0 → square_of n ≡ pos 0
zero_square n ex ey ez = λ i. ex i *ℤ ex i +ℤ ey i *ℤ ey i +ℤ ez i *ℤ ez i

pub vanished : (v : Vector) → v ≡ zero_vector → square_of v ≡ pos 0
vanished v e = ap square_of e
