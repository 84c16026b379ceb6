-- The bits of a mask after one was set. Assumes nothing.
use mathlib.Core.Path.{◌≡◌, refl, sym, ◌∙◌, ap}
use mathlib.Core.Bool.{Bool, true, false}
use Prim.Native.Nat.{ℕ, zero, suc, ◌+◌, ◌-◌, ◌*◌, ◌/◌, ◌%◌, ◌^◌, ◌<◌}
use native.Mathlib.Nat.{mod-lt, mod-eq_of_lt, div-eq_of_lt, div_self, one-mul}
use native.Mathlib.Omega.{arith}
use borrow.Author.Tests.{eqb-true, eqb-false}
use lib.Bits.{bit_or, or_shr, or_mod, or_zero_l, shifted_even}
use lib.Dec.{eqb}
use lib.Pow.{pow_pos, pow-lt, pow-add, shl-shr}
use Rattle.lists.specs.Lists.{either}
use Rattle.faces.specs.Masks.{with_vertex, has_vertex}

-- bit z of 2 ^ c
same_bit : (c : ℕ) → 2 ^ c / 2 ^ c % 2 ≡ 1
same_bit c = ap (λ (n : ℕ). n % 2) (div_self (pow_pos c))

other_bit : (c z : ℕ) → (c ≡ z → ⊥) → 2 ^ c / 2 ^ z % 2 ≡ 0
other_bit c z h = go (c - z) refl
  where
    go : (d : ℕ) → c - z ≡ d → 2 ^ c / 2 ^ z % 2 ≡ 0
    go zero e = ap (λ (n : ℕ). n % 2) (div-eq_of_lt (pow-lt {i = c} {j = z} (omega arith)))
    go (suc d) e =
        let s : c ≡ suc d + z = omega arith in
        ap (λ (n : ℕ). n / 2 ^ z % 2) (ap (λ (n : ℕ). 2 ^ n) s ∙ pow-add 2 (suc d) z) ∙ ap (λ (n : ℕ). n % 2) (shl-shr (2 ^ suc d) z)
        ∙ ap (λ (n : ℕ). n % 2) (sym (one-mul (2 ^ suc d))) ∙ shifted_even 1 d

or_bits : (p q : ℕ) → p < 2 → (b : Bool) → (b ≡ true → q ≡ 1) → (b ≡ false → q ≡ 0) → eqb (bit_or p q) 1 ≡ either b (eqb p 1)
or_bits zero q h true e f = ap (λ (n : ℕ). eqb n 1) (or_zero_l q ∙ e refl)
or_bits zero q h false e f = ap (λ (n : ℕ). eqb n 1) (or_zero_l q ∙ f refl)
or_bits (suc zero) q h true e f = ap (λ (n : ℕ). eqb (bit_or 1 n) 1) (e refl)
or_bits (suc zero) q h false e f = ap (λ (n : ℕ). eqb (bit_or 1 n) 1) (f refl)
or_bits (suc (suc p)) q h b e f = absurd (omega arith)

pub bit_set : (mask c z : ℕ) → has_vertex (with_vertex mask c) z ≡ either (eqb c z) (has_vertex mask z)
bit_set mask c z =
    ap (λ (n : ℕ). eqb (n % 2) 1) (or_shr mask (2 ^ c) z)
    ∙ ap (λ (n : ℕ). eqb n 1) (or_mod (mask / 2 ^ z) (2 ^ c / 2 ^ z) 1)
    ∙ or_bits (mask / 2 ^ z % 2) (2 ^ c / 2 ^ z % 2) (mod-lt (mask / 2 ^ z) (omega arith)) (eqb c z)
    (λ e. ap (λ (n : ℕ). 2 ^ c / 2 ^ n % 2) (sym (eqb-true c z e)) ∙ same_bit c)
    (λ e. other_bit c z (eqb-false c z e))

-- no bit of 0 is set
pub bit_none : (z : ℕ) → has_vertex 0 z ≡ false
bit_none z = ap (λ (n : ℕ). eqb (n % 2) 1) (div-eq_of_lt (pow_pos z))

-- the machine's 1 << c
pub one_shifted : (c : ℕ) → c < 64 → 1 * 2 ^ c % 2 ^ 64 ≡ 2 ^ c
one_shifted c h = ap (λ (n : ℕ). n % 2 ^ 64) (one-mul (2 ^ c)) ∙ mod-eq_of_lt (pow-lt {i = c} {j = 64} h)
