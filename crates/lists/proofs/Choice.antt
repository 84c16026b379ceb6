-- A case picked by its test, and tests as facts. Assumes nothing.
use lib.Dec.{ltb, eqb}
use borrow.Author.Tests.{le-ltb, lt-ltb, eq-eqb, ne_eqb, not-true, not-false, ltb-true, ltb-false}
use mathlib.Core.Path.{◌≡◌, refl, sym, ap, ◌∙◌}
use mathlib.Core.Bool.{Bool, true, false, cond, not}
use mathlib.Core.Logic.{◌⊎◌, inl, inr}
use Prim.Native.Nat.{ℕ, ◌≤◌, ◌<◌}
use native.Mathlib.Omega.{arith}
use Rattle.lists.specs.Lists.{both, either}

pub yes : {A : Type 0} (x y : A) {b : Bool} → b ≡ true → cond b x y ≡ x
yes x y e = ap (λ (b : Bool). cond b x y) e

pub no : {A : Type 0} (x y : A) {b : Bool} → b ≡ false → cond b x y ≡ y
no x y e = ap (λ (b : Bool). cond b x y) e

-- a Bool is one or the other, as a fact to go by
pub data Truth (b : Bool) : Type 0 where
  holds : b ≡ true → Truth b
  fails : b ≡ false → Truth b

pub truth : (b : Bool) → Truth b
truth true = holds refl
truth false = fails refl

pub true_not_false : {b : Bool} → b ≡ true → b ≡ false → ⊥
true_not_false {b} p q = let z : ◌≡◌ {A = Bool} true false = cc in absurd_bool z
  where
    absurd_bool : ◌≡◌ {A = Bool} true false → ⊥
    absurd_bool e = let n : ◌≡◌ {A = ℕ} 1 0 = ap (λ (b : Bool). cond b 1 0) e in omega arith

pub both_left : (a b : Bool) → both a b ≡ true → a ≡ true
both_left true b e = refl
both_left false b e = e

pub both_right : (a b : Bool) → both a b ≡ true → b ≡ true
both_right true b e = e
both_right false b e = absurd (true_not_false e refl)

pub both_true : {a b : Bool} → a ≡ true → b ≡ true → both a b ≡ true
both_true {a} {b} p q = ap (λ x. both x b) p ∙ q

pub either_left : (a b : Bool) → a ≡ true → either a b ≡ true
either_left a b p = ap (λ x. either x b) p

pub either_right : (a b : Bool) → b ≡ true → either a b ≡ true
either_right true b p = refl
either_right false b p = p

pub either_cases : (a b : Bool) → either a b ≡ true → (a ≡ true) ⊎ (b ≡ true)
either_cases true b p = inl refl
either_cases false b p = inr p

-- neither of two tests that are not either
pub either_neither : (a b : Bool) → either a b ≡ false → b ≡ false
either_neither true b e = absurd (true_not_false refl e)
either_neither false b e = e

pub not_false_true : (b : Bool) → (b ≡ false → ⊥) → b ≡ true
not_false_true true h = refl
not_false_true false h = absurd (h refl)

pub not_true_false : (b : Bool) → (b ≡ true → ⊥) → b ≡ false
not_true_false false h = refl
not_true_false true h = absurd (h refl)

-- a number at most another is below it or the same
pub below_or_same : (j i : ℕ) → j ≤ i → (j < i) ⊎ (j ≡ i)
below_or_same j i h = by (ltb j i) refl
  where
    by : (b : Bool) → ltb j i ≡ b → (j < i) ⊎ (j ≡ i)
    by true e = inl (ltb-true j i e)
    by false e = inr (omega (arith, ltb-false j i e))

-- two numbers of which neither is below the other are one
pub neither_below : (m n : ℕ) → (m < n → ⊥) → (n < m → ⊥) → m ≡ n
neither_below m n h k = by (truth (ltb m n)) (truth (ltb n m))
  where
    by : Truth (ltb m n) → Truth (ltb n m) → m ≡ n
    by (holds l) g = absurd (h (ltb-true m n l))
    by (fails l) (holds g) = absurd (k (ltb-true n m g))
    by (fails l) (fails g) = omega (arith, ltb-false m n l, ltb-false n m g)

-- two numbers, one before the other or the same
pub data Compared (a b : ℕ) : Type 0 where
  less : a < b → Compared a b
  same : a ≡ b → Compared a b
  more : b < a → Compared a b

pub compared : (a b : ℕ) → Compared a b
compared a b = by (truth (ltb a b)) (truth (ltb b a))
  where
    by : Truth (ltb a b) → Truth (ltb b a) → Compared a b
    by (holds l) g = less (ltb-true a b l)
    by (fails l) (holds g) = more (ltb-true b a g)
    by (fails l) (fails g) = same (omega (arith, ltb-false a b l, ltb-false b a g))

-- a test of a number that a call handed on
pub le_via : {x y n : ℕ} → x ≡ y → n ≤ x → ltb y n ≡ false
le_via {y = y} {n = n} e h = le-ltb y n (omega arith)

pub lt_via : {x y n : ℕ} → x ≡ y → x < n → ltb y n ≡ true
lt_via {y = y} {n = n} e h = lt-ltb y n (omega arith)

pub ge_via : {x y n : ℕ} → x ≡ y → x ≤ n → ltb n y ≡ false
ge_via {y = y} {n = n} e h = le-ltb n y (omega arith)

pub gt_via : {x y n : ℕ} → x ≡ y → n < x → ltb n y ≡ true
gt_via {y = y} {n = n} e h = lt-ltb n y (omega arith)

pub eq_via : {x y n : ℕ} → x ≡ y → x ≡ n → eqb y n ≡ true
eq_via {y = y} {n = n} e h = eq-eqb y n (sym e ∙ h)

pub ne_via : {x y n : ℕ} → x ≡ y → (x ≡ n → ⊥) → eqb y n ≡ false
ne_via {y = y} {n = n} e h = ne_eqb y n (λ d. h (e ∙ d))

-- a test that a call handed on, and that was negated
pub fails_via : {r b : Bool} → r ≡ b → not r ≡ true → b ≡ false
fails_via {r} e h = sym e ∙ not-true r h

pub holds_via : {r b : Bool} → r ≡ b → not r ≡ false → b ≡ true
holds_via {r} e h = sym e ∙ not-false r h
