-- A number below 2 ^ 63 as an i64, with a sign. Assumes nothing.
use mathlib.Core.Path.{◌≡◌, sym, ap, ◌∙◌, subst}
use mathlib.Core.Bool.{Bool, true, false}
use Prim.Native.Nat.{ℕ, zero, suc, ◌^◌, ◌<◌}
use native.Mathlib.Omega.{arith}
use lib.IntN.{ℤ, pos, neg_ℤ, ◌-ℤ◌, +ℤ_idl}
use lib.Signed.{mag}
use mir.Syntax.{w64}
use mir.Val.{SFits, to_z, of_z}
use mir.Facts.{to_z-of_z}
use Rattle.grid.specs.Number.{signed}

mag_neg : (n : ℕ) → n < 2 ^ 63 → mag (neg_ℤ (pos n)) < 2 ^ 63
mag_neg zero h = h
mag_neg (suc n) h = omega arith

-- the whole number n as the machine holds it, and with the other sign
held : {i : ℤ} {n : ℕ} → n < 2 ^ 63 → i ≡ pos n → to_z w64 (of_z w64 i) ≡ pos n
held {i} {n} b e = to_z-of_z (subst (SFits w64) (sym e) (record { sfits = b })) ∙ e

negated : {i : ℤ} {n : ℕ} → n < 2 ^ 63 → i ≡ pos n → pos 0 -ℤ to_z w64 (of_z w64 i) ≡ neg_ℤ (pos n)
negated {i} {n} b e = ap (λ (z : ℤ). pos 0 -ℤ z) (held b e) ∙ +ℤ_idl (neg_ℤ (pos n))

pub negated_fits : {i : ℤ} {n : ℕ} → n < 2 ^ 63 → i ≡ pos n → SFits w64 (pos 0 -ℤ to_z w64 (of_z w64 i))
negated_fits {i} {n} b e = subst (λ (z : ℤ). SFits w64 z) (sym (negated b e)) (record { sfits = mag_neg n b })

-- n is m, and below 2 ^ 63; what the machine holds is m with the sign t
pub plus : (t : Bool) {i : ℤ} {n m : ℕ} → n < 2 ^ 63 → i ≡ pos n → n ≡ m → t ≡ false → to_z w64 (of_z w64 i) ≡ signed t m
plus t {i} {n} {m} b e h k = held b e ∙ ap pos h ∙ ap (λ (t : Bool). signed t m) (sym k)

pub less : (t : Bool) {i : ℤ} {n m : ℕ} → n < 2 ^ 63 → i ≡ pos n → n ≡ m → t ≡ true → to_z w64 (of_z w64 (pos 0 -ℤ to_z w64 (of_z w64 i))) ≡ signed t m
less t {i} {n} {m} b e h k = to_z-of_z (negated_fits b e) ∙ negated b e ∙ ap (λ (n : ℕ). neg_ℤ (pos n)) h ∙ ap (λ (t : Bool). signed t m) (sym k)
