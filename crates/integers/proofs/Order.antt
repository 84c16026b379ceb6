-- Tests of order and equality of integers, and order as a fact: by the sign of the difference, and unchanged by a positive factor. Assumes nothing.
use mathlib.Core.Path.{◌≡◌, refl, sym, ◌∙◌, ap, subst}
use mathlib.Core.List.{[], ◌∷◌}
use mathlib.Core.Bool.{Bool, true, false, not, cond}
use Prim.Native.Nat.{ℕ, zero, suc, ◌+◌, ◌*◌, ◌-◌, ◌^◌, ◌<◌}
use native.Mathlib.Omega.{arith}
use lib.Dec.{T, ltb, ltb→lt, le→leb}
use lib.IntN.{ℤ, pos, negsuc, neg_ℤ, sub_ℕ, ◌+ℤ◌, ◌-ℤ◌, ◌*ℤ◌, neg_ℤ-neg_ℤ}
use lib.Signed.{le_z, lt_z, ◌≤ℤ◌, le_z_yes, lt_z_yes, lt_z_no, <ℤ-≤ℤ_trans, clash_ℤ}
use borrow.Author.Tests.{lt-ltb, le-ltb, eq-eqb, ne_eqb, eqb-true, ltb-true, ltb-false}
use mir.Syntax.{w64}
use mir.Val.{SFits, of_z}
use Rattle.integers.specs.Order.{equal}
use Rattle.integers.proofs.Laws.{neg_mul, sub_zero, sub_self}
use Rattle.integers.proofs.Ring.{var, ◌:+◌, ◌:-◌, ◌:*◌, ring}

pub true≢false : {X : Type 0} → true ≡ false → X
true≢false e = absurd (subst T e tt)

-- ---- equality

pub equal_yes : (a b : ℤ) → equal a b ≡ true → a ≡ b
equal_yes (pos a) (pos b) e = ap pos (eqb-true a b e)
equal_yes (pos a) (negsuc b) e = true≢false (sym e)
equal_yes (negsuc a) (pos b) e = true≢false (sym e)
equal_yes (negsuc a) (negsuc b) e = ap negsuc (eqb-true a b e)

pub equal_self : (a : ℤ) → equal a a ≡ true
equal_self (pos a) = eq-eqb a a refl
equal_self (negsuc a) = eq-eqb a a refl

pub equal_is : {a b : ℤ} → a ≡ b → equal a b ≡ true
equal_is {a} e = subst (λ (z : ℤ). equal a z ≡ true) e (equal_self a)

pub equal_no : (a b : ℤ) → (a ≡ b → ⊥) → equal a b ≡ false
equal_no a b h = go (equal a b) refl
  where
    go : (t : Bool) → equal a b ≡ t → t ≡ false
    go true e = absurd (h (equal_yes a b e))
    go false e = refl

-- ---- the sign of the difference

ltb_sub : (a b : ℕ) → lt_z (sub_ℕ a b) (pos 0) ≡ ltb a b
ltb_sub a b = go (ltb a b)
  where
    go : (t : Bool) → lt_z (cond t (negsuc (b - suc a)) (pos (a - b))) (pos 0) ≡ t
    go true = refl
    go false = le-ltb (a - b) 0 (omega arith)

pub not_below : (n : ℕ) → ltb n 0 ≡ false
not_below n = le-ltb n 0 (omega arith)

pub less_by_difference : (a b : ℤ) → lt_z a b ≡ lt_z (a -ℤ b) (pos 0)
less_by_difference (pos a) (pos zero) = not_below a ∙ sym (not_below (a + 0))
less_by_difference (pos a) (pos (suc b)) = sym (ltb_sub a (suc b))
less_by_difference (pos a) (negsuc b) = sym (not_below (a + suc b))
less_by_difference (negsuc a) (pos zero) = sym (ltb_sub 0 (suc a) ∙ lt-ltb 0 (suc a) (omega arith))
less_by_difference (negsuc a) (pos (suc b)) = refl
less_by_difference (negsuc a) (negsuc b) = both (ltb b a) refl ∙ sym (ltb_sub (suc b) (suc a))
  where
    both : (t : Bool) → ltb b a ≡ t → t ≡ ltb (suc b) (suc a)
    both true e = let h = ltb-true b a e in sym (lt-ltb (suc b) (suc a) (omega arith))
    both false e = let h = ltb-false b a e in sym (le-ltb (suc b) (suc a) (omega arith))

pub equal_by_difference : (a b : ℤ) → equal a b ≡ equal (a -ℤ b) (pos 0)
equal_by_difference a b = go (equal a b) refl
  where
    go : (t : Bool) → equal a b ≡ t → t ≡ equal (a -ℤ b) (pos 0)
    go true e = sym (equal_is (sub_self a b (equal_yes a b e)))
    go false e = sym (equal_no (a -ℤ b) (pos 0) (λ z. true≢false (sym (equal_is (sub_zero a b z)) ∙ e)))

-- ---- a positive factor

pub product_suc : (k n : ℕ) → suc k * suc n ≡ suc (k * n + k + n)
product_suc k n = omega arith

module _ (k : ℕ) where
  pub less_multiple : (c : ℤ) → lt_z (pos (suc k) *ℤ c) (pos 0) ≡ lt_z c (pos 0)
  less_multiple (pos n) = not_below (suc k * n) ∙ sym (not_below n)
  less_multiple (negsuc n) = ap (λ (x : ℕ). lt_z (neg_ℤ (pos x)) (pos 0)) (product_suc k n)

  pub equal_multiple : (c : ℤ) → equal (pos (suc k) *ℤ c) (pos 0) ≡ equal c (pos 0)
  equal_multiple (pos zero) = eq-eqb (suc k * 0) 0 (omega arith)
  equal_multiple (pos (suc n)) = ne_eqb (suc k * suc n) 0 (λ e. omega (arith, product_suc k n)) ∙ sym (ne_eqb (suc n) 0 (λ e. omega arith))
  equal_multiple (negsuc n) = ap (λ (x : ℕ). equal (neg_ℤ (pos x)) (pos 0)) (product_suc k n)

-- a product that is 0, with a factor that is not
pub no_divisor : (a b : ℤ) → (a ≡ pos 0 → ⊥) → a *ℤ b ≡ pos 0 → b ≡ pos 0
no_divisor (pos zero) b h e = absurd (h refl)
no_divisor (pos (suc n)) b h e = equal_yes b (pos 0) (sym (equal_multiple n b) ∙ equal_is e)
no_divisor (negsuc n) b h e =
    let f : pos (suc n) *ℤ b ≡ pos 0 = sym (neg_ℤ-neg_ℤ (pos (suc n) *ℤ b)) ∙ ap neg_ℤ (sym (neg_mul (pos (suc n)) b) ∙ e) in
    equal_yes b (pos 0) (sym (equal_multiple n b) ∙ equal_is f)

-- ---- the machine's test `z == 0`, which compares bits

pub zero_bits : (z : ℤ) → SFits w64 z → of_z w64 z ≡ 0 → equal z (pos 0) ≡ true
zero_bits (pos n) f e = eq-eqb n 0 e
zero_bits (negsuc n) f e = let g : n < 2 ^ 63 = f.sfits in absurd (omega arith)

pub other_bits : (z : ℤ) → (of_z w64 z ≡ 0 → ⊥) → equal z (pos 0) ≡ false
other_bits (pos n) f = ne_eqb n 0 f
other_bits (negsuc n) f = refl

-- two tests of a and b, by an integer whose positive multiple is their difference
pub less_by_multiple : (k : ℕ) (a b c : ℤ) → a -ℤ b ≡ pos (suc k) *ℤ c → lt_z a b ≡ lt_z c (pos 0)
less_by_multiple k a b c e = less_by_difference a b ∙ ap (λ (z : ℤ). lt_z z (pos 0)) e ∙ less_multiple k c

pub equal_by_multiple : (k : ℕ) (a b c : ℤ) → a -ℤ b ≡ pos (suc k) *ℤ c → equal a b ≡ equal c (pos 0)
equal_by_multiple k a b c e = equal_by_difference a b ∙ ap (λ (z : ℤ). equal z (pos 0)) e ∙ equal_multiple k c

-- ---- order as a fact

not_less : {a b : ℤ} → a ≤ℤ b → lt_z b a ≡ false
not_less {a} {b} h = go (lt_z b a) refl
  where
    go : (t : Bool) → lt_z b a ≡ t → t ≡ false
    go true e = clash_ℤ (lt_z_yes (subst T (sym e) tt)) h
    go false e = refl

false-≤ℤ : {a b : ℤ} → lt_z b a ≡ false → a ≤ℤ b
false-≤ℤ e = lt_z_no (subst (λ (t : Bool). T (not t)) (sym e) tt)

pub ≤ℤ-trans : {a b c : ℤ} → a ≤ℤ b → b ≤ℤ c → a ≤ℤ c
≤ℤ-trans {a} {b} {c} h k = false-≤ℤ (go (lt_z c a) refl)
  where
    go : (t : Bool) → lt_z c a ≡ t → t ≡ false
    go true e = clash_ℤ (<ℤ-≤ℤ_trans (lt_z_yes (subst T (sym e) tt)) h) k
    go false e = refl

less_le : (a b : ℤ) → T (lt_z a b) → T (le_z a b)
less_le (pos a) (pos b) h = let k = ltb→lt a b h in le→leb a b (omega arith)
less_le (pos a) (negsuc b) h = absurd h
less_le (negsuc a) (pos b) h = tt
less_le (negsuc a) (negsuc b) h = let k = ltb→lt b a h in le→leb b a (omega arith)

pub true-≤ℤ : {a b : ℤ} → lt_z a b ≡ true → a ≤ℤ b
true-≤ℤ {a} {b} e = le_z_yes (less_le a b (subst T (sym e) tt))

-- a positive factor, or the same summand, on both sides
pub ≤ℤ-multiple : (a b : ℤ) (w : ℕ) → 0 < w → a ≤ℤ b → (a *ℤ pos w) ≤ℤ (b *ℤ pos w)
≤ℤ-multiple a b zero p h = absurd (omega arith)
≤ℤ-multiple a b (suc w) p h =
    false-≤ℤ (less_by_multiple w (b *ℤ pos (suc w)) (a *ℤ pos (suc w)) (b -ℤ a) common ∙ sym (less_by_difference b a) ∙ not_less h)
  where
    common : b *ℤ pos (suc w) -ℤ a *ℤ pos (suc w) ≡ pos (suc w) *ℤ (b -ℤ a)
    common = ring (a ∷ b ∷ pos (suc w) ∷ []) (var 1 :* var 2 :- var 0 :* var 2) (var 2 :* (var 1 :- var 0)) tt

pub ≤ℤ-plus : (a b c : ℤ) → a ≤ℤ b → (a +ℤ c) ≤ℤ (b +ℤ c)
≤ℤ-plus a b c h =
    false-≤ℤ (less_by_difference (b +ℤ c) (a +ℤ c) ∙ ap (λ (z : ℤ). lt_z z (pos 0)) same ∙ sym (less_by_difference b a) ∙ not_less h)
  where
    same : (b +ℤ c) -ℤ (a +ℤ c) ≡ b -ℤ a
    same = ring (a ∷ b ∷ c ∷ []) ((var 1 :+ var 2) :- (var 0 :+ var 2)) (var 1 :- var 0) tt
