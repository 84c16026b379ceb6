-- The grid number is the only whole number that rule 1.10 allows: at most half a step from 8v, and even where it is exactly half a step away. No whole
-- number is nearer to 8v. Assumes nothing.
use mathlib.Core.Path.{◌≡◌, refl, sym, ap, ◌∙◌, subst}
use mathlib.Core.Logic.{◌⊎◌, inl, inr}
use mathlib.Core.Bool.{Bool, true, false, not}
use Prim.Native.Nat.{ℕ, zero, suc, ◌+◌, ◌*◌, ◌%◌, ◌-◌, ◌≤◌, ◌<◌}
use native.Mathlib.Nat.{add_comm, suc-mul, add-mul, le_of_eq}
use native.Mathlib.Omega.{arith}
use borrow.Author.Tests.{ltb-true, ltb-false}
use lib.Dec.{ltb}
use lib.IntN.{ℤ, pos, negsuc, nat_abs, ◌+ℤ◌, ◌-ℤ◌, ◌*ℤ◌, neg_ℤ-neg_ℤ, neg_ℤ-+ℤ}
use lib.Ieee.{Float}
use Rattle.lists.proofs.Choice.{Truth, holds, fails, truth, neither_below}
use Rattle.grid.specs.Number.{finite, numerator, denominator, negative, signed, round_eighths, distance, HalfStep, EvenHalf}
use Rattle.grid.proofs.HalfStep.{apart, nat_abs_neg, nat_abs_signed, neg_times, signed_distance, denominator_pos, half_step, even_half}

-- ---- sizes: two whole numbers at most half a step from a / b are one, or neighbours that are exactly half a step away
module _ (a b : ℕ) (B : 0 < b) where
  -- how far n is, in units of 1 / b
  abbrev far : ℕ → ℕ
  far n = nat_abs (pos (n * b) -ℤ pos a)

  record Allowed (n : ℕ) : Type 0 where
    near : 2 * far n ≤ b
    even : 2 * far n ≡ b → n % 2 ≡ 0

  -- numbers n and m = n + 1 + k at most half a step away: k is 0, and both are exactly half a step away
  neighbours : (nb kb mb d e : ℕ) → mb ≡ nb + (b + kb) → 2 * d ≤ b → 2 * e ≤ b → (nb + d ≡ a) ⊎ (a + d ≡ nb) → (mb + e ≡ a) ⊎ (a + e ≡ mb) →
      (kb ≡ 0) × (2 * d ≡ b) × (2 * e ≡ b)
  neighbours nb kb mb d e m p q (inl u) (inl v) = absurd (omega arith)
  neighbours nb kb mb d e m p q (inl u) (inr v) = (omega arith, omega arith, omega arith)
  neighbours nb kb mb d e m p q (inr u) (inl v) = absurd (omega arith)
  neighbours nb kb mb d e m p q (inr u) (inr v) = absurd (omega arith)

  no_later_lem : (n k : ℕ) → Allowed n → Allowed (n + suc k) → ⊥
  no_later_lem n k p q =
      let t = neighbours (n * b) (k * b) ((n + suc k) * b) (far n) (far (n + suc k))
      (add-mul n (suc k) b ∙ ap (λ (x : ℕ). n * b + x) (suc-mul k b ∙ add_comm (k * b) b))
      p.near q.near (apart (n * b) a) (apart ((n + suc k) * b) a) in
      by k t.0 (p.even t.1) (q.even t.2)
    where
      by : (k : ℕ) → k * b ≡ 0 → n % 2 ≡ 0 → (n + suc k) % 2 ≡ 0 → ⊥
      by zero z x y = omega arith
      by (suc k) z x y = let s : suc k * b ≡ k * b + b = suc-mul k b in omega arith

  one_allowed : (n m : ℕ) → Allowed n → Allowed m → n ≡ m
  one_allowed n m p q = neither_below n m (later n m p q) (later m n q p)
    where
      split : (x y : ℕ) → x < y → y ≡ x + suc (y - suc x)
      split x y h = omega arith

      later : (x y : ℕ) → Allowed x → Allowed y → x < y → ⊥
      later x y p q h = no_later_lem x (y - suc x) p (subst Allowed (split x y h) q)

-- ---- with signs: a whole number at most half a step from 8v has the sign of v, or is 0
-- the sizes of two numbers on two sides of zero add up
across : (s : Bool) (n a b : ℕ) → nat_abs ((signed (not s) n *ℤ pos b) -ℤ signed s a) ≡ n * b + a
across true n a b = ap (λ (z : ℤ). nat_abs (pos (n * b) +ℤ z)) (neg_ℤ-neg_ℤ (pos a))
across false n a b =
    ap (λ (z : ℤ). nat_abs (z -ℤ pos a)) (neg_times n b)
    ∙ ap nat_abs (sym (neg_ℤ-+ℤ (pos (n * b)) (pos a)))
    ∙ nat_abs_neg (pos (n * b + a))

too_far : (n a b : ℕ) → 0 < b → 2 * (suc n * b + a) ≤ b → ⊥
too_far n a b B h = let s : suc n * b ≡ n * b + b = suc-mul n b in omega arith

sized : (s : Bool) (a b : ℕ) → 0 < b → (g : ℤ) → 2 * nat_abs ((g *ℤ pos b) -ℤ signed s a) ≤ b → (n : ℕ) × (g ≡ signed s n)
sized false a b B (pos n) h = (n, refl)
sized false a b B (negsuc n) h = absurd (too_far n a b B (subst (λ (d : ℕ). 2 * d ≤ b) (across false (suc n) a b) h))
sized true a b B (pos zero) h = (0, refl)
sized true a b B (pos (suc n)) h = absurd (too_far n a b B (subst (λ (d : ℕ). 2 * d ≤ b) (across true (suc n) a b) h))
sized true a b B (negsuc n) h = (suc n, refl)

-- ---- the grid number
module _ (v : Float) where
  abbrev a : ℕ
  a = numerator v

  abbrev b : ℕ
  b = denominator v

  allowed : (g : ℤ) (n : ℕ) → g ≡ signed (negative v) n → HalfStep v g → EvenHalf v g → Allowed a b (denominator_pos v) n
  allowed g n e h k =
      let d : distance g v ≡ far a b (denominator_pos v) n = ap (λ (z : ℤ). distance z v) e ∙ signed_distance (negative v) n b a in
      record {
        near = subst (λ (x : ℕ). 2 * x ≤ b) d h.near;
        even = λ t. ap (λ (x : ℕ). x % 2) (sym (ap nat_abs e ∙ nat_abs_signed (negative v) n)) ∙ k.even (ap (λ (x : ℕ). 2 * x) d ∙ t);
      }

  -- rule 1.10: two numbers that it allows are one
  pub one_number : (g h : ℤ) → HalfStep v g → EvenHalf v g → HalfStep v h → EvenHalf v h → g ≡ h
  one_number g h gs ge hs he =
      let B = denominator_pos v in
      let x = sized (negative v) a b B g gs.near in
      let y = sized (negative v) a b B h hs.near in
      x.1 ∙ ap (signed (negative v)) (one_allowed a b B x.0 y.0 (allowed g x.0 x.1 gs ge) (allowed h y.0 y.1 hs he)) ∙ sym y.1

  -- rule 1.10: what it allows is the grid number
  pub only_number : finite v ≡ true → (g : ℤ) → HalfStep v g → EvenHalf v g → g ≡ round_eighths v
  only_number f g s e = one_number g (round_eighths v) s e (half_step v f) (even_half v)

  -- rule 1.10: no whole number is nearer to 8v than the grid number
  pub none_nearer : finite v ≡ true → (h : ℤ) → distance (round_eighths v) v ≤ distance h v
  none_nearer f h = by (truth (ltb (2 * distance h v) b))
    where
      by : Truth (ltb (2 * distance h v) b) → distance (round_eighths v) v ≤ distance h v
      by (holds l) =
          let k = ltb-true (2 * distance h v) b l in
          le_of_eq (ap (λ (z : ℤ). distance z v)
          (sym (only_number f h (record { near = omega (arith, k) }) (record { even = λ t. absurd (omega (arith, k, t)) }))))
      by (fails l) = let k = ltb-false (2 * distance h v) b l in let s = (half_step v f).near in omega (arith, k, s)
