-- The nearest whole number to a fraction, at a half the even one: its four cases, and the laws of the toolchain's own such rounding carried over.
-- Assumes nothing.
use mathlib.Core.Path.{◌≡◌, refl, sym, ap, ◌∙◌, subst}
use Prim.Native.Nat.{ℕ, zero, suc, ◌+◌, ◌*◌, ◌/◌, ◌%◌, ◌≤◌, ◌<◌, compare, Ordering}
use native.Mathlib.Nat.{lt_irrefl, le_of_lt, not-le_of_lt, le_trans, le_of_eq}
use native.Mathlib.Numerals.{add-one}
use native.Mathlib.Omega.{arith}
use borrow.Author.Tests.{lt-ltb, le-ltb, ltb-true, ltb-false, eq-eqb, ne_eqb, eqb-true, eqb-false}
use lib.Dec.{T, is_le, compare_is_eq, ltb, eqb, leb→le, le→leb, eqb→eq, eqb_refl}
use lib.Ieee.{nearest}
use lib.Ieee.Nearest.{closest, closest_same, closest_mono}
use Rattle.lists.proofs.Choice.{Truth, holds, fails, truth, yes, no}
use Rattle.grid.specs.Number.{nearest_even}

-- ---- the four cases of the definition, as what the code finds
pub down : (a b : ℕ) → a % b * 2 < b → a / b ≡ nearest_even a b
down a b h = sym (yes _ _ (lt-ltb (a % b * 2) b h))

pub up : (a b : ℕ) → b < a % b * 2 → a / b + 1 ≡ nearest_even a b
up a b h = sym (no _ _ (le-ltb (a % b * 2) b (le_of_lt h)) ∙ yes _ _ (lt-ltb b (a % b * 2) h))

pub even_stays : (a b : ℕ) → b ≤ a % b * 2 → a % b * 2 ≤ b → a / b % 2 ≡ 0 → a / b ≡ nearest_even a b
even_stays a b h k e = sym (no _ _ (le-ltb (a % b * 2) b h) ∙ no _ _ (le-ltb b (a % b * 2) k) ∙ yes _ _ (eq-eqb (a / b % 2) 0 e))

pub odd_moves : (a b : ℕ) → b ≤ a % b * 2 → a % b * 2 ≤ b → (a / b % 2 ≡ 0 → ⊥) → a / b + 1 ≡ nearest_even a b
odd_moves a b h k e = sym (no _ _ (le-ltb (a % b * 2) b h) ∙ no _ _ (le-ltb b (a % b * 2) k) ∙ no _ _ (ne_eqb (a / b % 2) 0 e))

-- ---- and as a view of the number
pub data Cases (a b : ℕ) : ℕ → Type 0 where
  below_half : a % b * 2 < b → Cases a b (a / b)
  above_half : b < a % b * 2 → Cases a b (a / b + 1)
  half_even : a % b * 2 ≡ b → a / b % 2 ≡ 0 → Cases a b (a / b)
  half_odd : a % b * 2 ≡ b → a / b % 2 ≡ 1 → Cases a b (a / b + 1)

same : (x y : ℕ) → x ≤ y → y ≤ x → y ≡ x
same x y h k = omega arith

odd : (q : ℕ) → (q % 2 ≡ 0 → ⊥) → q % 2 ≡ 1
odd q h = by (q % 2) (omega arith) h
  where
    by : (r : ℕ) → r < 2 → (r ≡ 0 → ⊥) → r ≡ 1
    by zero l n = absurd (n refl)
    by (suc r) l n = omega arith

pub cases : (a b : ℕ) → Cases a b (nearest_even a b)
cases a b = by (truth (ltb (a % b * 2) b)) (truth (ltb b (a % b * 2))) (truth (eqb (a / b % 2) 0))
  where
    by : Truth (ltb (a % b * 2) b) → Truth (ltb b (a % b * 2)) → Truth (eqb (a / b % 2) 0) → Cases a b (nearest_even a b)
    by (holds l) g e = subst (Cases a b) (down a b (ltb-true _ _ l)) (below_half (ltb-true _ _ l))
    by (fails l) (holds g) e = subst (Cases a b) (up a b (ltb-true _ _ g)) (above_half (ltb-true _ _ g))
    by (fails l) (fails g) (holds e) =
        let h = ltb-false _ _ l in
        let k = ltb-false _ _ g in
        subst (Cases a b) (even_stays a b h k (eqb-true _ _ e)) (half_even (same b (a % b * 2) h k) (eqb-true _ _ e))
    by (fails l) (fails g) (fails e) =
        let h = ltb-false _ _ l in
        let k = ltb-false _ _ g in
        subst (Cases a b) (odd_moves a b h k (eqb-false _ _ e)) (half_odd (same b (a % b * 2) h k) (odd (a / b) (eqb-false _ _ e)))

-- ---- it is what the toolchain's floats are rounded by
ord_lt : (a b : ℕ) → a < b → compare a b ≡ Ordering.lt
ord_lt a b h = go (compare a b) (le→leb a b (le_of_lt h)) (eqb→eq a b)
  where
    go : (o : Ordering) → T (is_le o) → (T (compare_is_eq o) → a ≡ b) → o ≡ Ordering.lt
    go Ordering.lt t e = refl
    go Ordering.eq t e = absurd (lt_irrefl b (subst (λ (x : ℕ). x < b) (e tt) h))
    go Ordering.gt t e = absurd t

ord_gt : (a b : ℕ) → b < a → compare a b ≡ Ordering.gt
ord_gt a b h = go (compare a b) (leb→le a b)
  where
    go : (o : Ordering) → (T (is_le o) → a ≤ b) → o ≡ Ordering.gt
    go Ordering.lt t = absurd (not-le_of_lt h (t tt))
    go Ordering.eq t = absurd (not-le_of_lt h (t tt))
    go Ordering.gt t = refl

ord_eq : (a b : ℕ) → a ≡ b → compare a b ≡ Ordering.eq
ord_eq a b h = go (compare a b) (subst (λ (x : ℕ). T (eqb a x)) h (eqb_refl a))
  where
    go : (o : Ordering) → T (compare_is_eq o) → o ≡ Ordering.eq
    go Ordering.lt t = absurd t
    go Ordering.eq t = refl
    go Ordering.gt t = absurd t

nearest_is : (a b : ℕ) → nearest_even a b ≡ closest a b
nearest_is a b = by (cases a b)
  where
    stays : (q : ℕ) → q % 2 ≡ 0 → q ≡ q + q % 2
    stays q e = omega arith

    moves : (q : ℕ) → q % 2 ≡ 1 → q + 1 ≡ q + q % 2
    moves q e = omega arith

    by : {n : ℕ} → Cases a b n → n ≡ closest a b
    by (below_half h) = sym (ap (nearest (a / b)) (ord_lt (a % b * 2) b h))
    by (above_half h) = add-one (a / b) ∙ sym (ap (nearest (a / b)) (ord_gt (a % b * 2) b h))
    by (half_even h e) = stays (a / b) e ∙ sym (ap (nearest (a / b)) (ord_eq (a % b * 2) b h))
    by (half_odd h e) = moves (a / b) e ∙ sym (ap (nearest (a / b)) (ord_eq (a % b * 2) b h))

-- equal fractions have one such number, and a larger fraction none that is smaller
pub nearest_same : (a b c d : ℕ) → 0 < b → 0 < d → a * d ≡ c * b → nearest_even a b ≡ nearest_even c d
nearest_same a b c d B D e = nearest_is a b ∙ closest_same a b c d B D e ∙ sym (nearest_is c d)

pub nearest_mono : (a b c d : ℕ) → 0 < b → 0 < d → a * d ≤ c * b → nearest_even a b ≤ nearest_even c d
nearest_mono a b c d B D h = le_trans (le_of_eq (nearest_is a b)) (le_trans (closest_mono a b c d B D h) (le_of_eq (sym (nearest_is c d))))

-- it is the whole part or the next number
pub at_most_next : (a b : ℕ) → nearest_even a b ≤ a / b + 1
at_most_next a b = by (cases a b)
  where
    by : {n : ℕ} → Cases a b n → n ≤ a / b + 1
    by (below_half h) = omega arith
    by (above_half h) = omega arith
    by (half_even h e) = omega arith
    by (half_odd h e) = omega arith
