-- The square of a vector: not negative, and 0 for the zero vector alone. Assumes nothing.
use mathlib.Core.Path.{◌≡◌, refl, sym, ◌∙◌, ap, subst}
use Prim.Native.Nat.{ℕ, zero, suc, ◌+◌, ◌*◌}
use native.Mathlib.Omega.{arith}
use lib.Dec.{T}
use lib.IntN.{ℤ, pos, negsuc, nat_abs, ◌+ℤ◌, ◌*ℤ◌}
use lib.Signed.{non_neg}
use Rattle.geometry.specs.declared.Vector.{Vector}
use Rattle.integers.proofs.Laws.{square_is}
use Rattle.geometry.specs.Vectors.{square_of, zero_vector}

-- a square is not negative
square_natural : (v : Vector) → square_of v ≡ pos (nat_abs v.x * nat_abs v.x + nat_abs v.y * nat_abs v.y + nat_abs v.z * nat_abs v.z)
square_natural v = λ i. square_is v.x i +ℤ square_is v.y i +ℤ square_is v.z i

pub square_size : (v : Vector) → square_of v ≡ pos (nat_abs (square_of v))
square_size v = square_natural v ∙ ap (λ (z : ℤ). pos (nat_abs z)) (sym (square_natural v))

pub scaled_nonneg : (k : ℕ) (v : Vector) → T (non_neg (pos k *ℤ square_of v))
scaled_nonneg k v = subst (λ (z : ℤ). T (non_neg (pos k *ℤ z))) (sym (square_natural v)) tt

-- a vector whose square is 0 has coordinates 0
zero_square : (a b c : ℕ) → a * a + b * b + c * c ≡ 0 → (a ≡ 0) × (b ≡ 0) × (c ≡ 0)
zero_square zero zero zero e = (refl, refl, refl)
zero_square zero zero (suc c) e = absurd (omega arith)
zero_square zero (suc b) c e = absurd (omega arith)
zero_square (suc a) b c e = absurd (omega arith)

zero_size : (z : ℤ) → nat_abs z ≡ 0 → z ≡ pos 0
zero_size (pos n) e = ap pos e
zero_size (negsuc n) e = absurd (omega arith)

pub zero_vector_lem : (n : Vector) → square_of n ≡ pos 0 → (n.x ≡ pos 0) × (n.y ≡ pos 0) × (n.z ≡ pos 0)
zero_vector_lem n h =
    let k = zero_square (nat_abs n.x) (nat_abs n.y) (nat_abs n.z) (ap nat_abs (sym (square_natural n) ∙ h)) in
    (zero_size n.x k.0, zero_size n.y k.1, zero_size n.z k.2)

pub vanishes : (v : Vector) → square_of v ≡ pos 0 → v ≡ zero_vector
vanishes v h = let e = zero_vector_lem v h in λ i. record { x = e.0 i; y = e.1 i; z = e.2 i }
