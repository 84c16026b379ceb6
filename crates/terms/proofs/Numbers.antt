-- The first of two numbers. Assumes nothing.
use mathlib.Core.Path.{◌≡◌, refl, sym, ap}
use Prim.Native.Nat.{ℕ, zero, suc}
use native.Mathlib.Omega.{arith}
use Rattle.terms.specs.Numbers.{first_due}

pub due_here : {c j : ℕ} (k : ℕ) → c ≡ j → (c ≡ 0 → ⊥) → first_due j k ≡ c
due_here {c} {j} k e d = go j e
  where
    go : (j : ℕ) → c ≡ j → first_due j k ≡ c
    go zero e = absurd (d e)
    go (suc j) e = sym e

pub due_on : {j : ℕ} (k : ℕ) → j ≡ 0 → first_due j k ≡ k
due_on k e = ap (λ (j : ℕ). first_due j k) e

pub due_neither : (j k : ℕ) → first_due j k ≡ 0 → (j ≡ 0) × (k ≡ 0)
due_neither zero k e = (refl, e)
due_neither (suc j) k e = absurd (omega arith)
