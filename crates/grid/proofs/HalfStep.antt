-- The grid number is at most half a step from the exact 8v, at a half it is even, and where 8v is in range it is within the grid. Assumes nothing.
use mathlib.Core.Path.{◌≡◌, refl, sym, ap, ◌∙◌, subst}
use mathlib.Core.Logic.{◌⊎◌, inl, inr}
use Prim.Native.Nat.{ℕ, zero, suc, ◌+◌, ◌-◌, ◌*◌, ◌/◌, ◌%◌, ◌≤◌, ◌<◌}
use native.Mathlib.Nat.{div-add-mod', mod-lt, suc-mul, mul-one, le_trans, le_of_eq, zero-lt-suc}
use native.Mathlib.Numerals.{add-one}
use native.Mathlib.Omega.{arith}
use mathlib.Core.Bool.{Bool, true, false, cond}
use borrow.Author.Tests.{leb-true, ltb-true, ltb-false}
use lib.IntN.{ℤ, pos, negsuc, neg_ℤ, nat_abs, ◌-ℤ◌, ◌*ℤ◌, neg_ℤ-+ℤ, negsuc-*ℤ-pos, pos-*ℤ-pos}
use lib.Dec.{ltb}
use lib.Ieee.{Float, nan, inf, fin}
use lib.Ieee.Fits.{down_pos}
use Rattle.std.proofs.Common.{Ok}
use Rattle.grid.specs.Number.{finite, numerator, denominator, negative, signed, nearest_even, in_range, round_eighths, grid_number_of, HalfStep, EvenHalf}
use Rattle.grid.specs.Point.{OnGrid}
use Rattle.grid.proofs.Nearest.{Cases, below_half, above_half, half_even, half_odd, cases, nearest_mono}

-- ---- g is at most half a step from a / b
record Near (a b g : ℕ) : Type 0 where
  low : 2 * (g * b) ≤ 2 * a + b
  high : 2 * a ≤ 2 * (g * b) + b

next_times : (q b : ℕ) → (q + 1) * b ≡ q * b + b
next_times q b = ap (λ (n : ℕ). n * b) (add-one q) ∙ suc-mul q b

at_whole : (a b q r : ℕ) → q * b + r ≡ a → r * 2 ≤ b → Near a b q
at_whole a b q r e h = record { low = omega arith; high = omega arith }

at_next : (a b q r : ℕ) → q * b + r ≡ a → r < b → b ≤ r * 2 → Near a b (q + 1)
at_next a b q r e l h = let s : (q + 1) * b ≡ q * b + b = next_times q b in record { low = omega arith; high = omega arith }

near : (a b : ℕ) → 0 < b → Near a b (nearest_even a b)
near a b B = by (cases a b)
  where
    e : a / b * b + a % b ≡ a
    e = div-add-mod' a b

    less : {x y : ℕ} → x < y → x ≤ y
    less {x} {y} p = omega arith

    by : {n : ℕ} → Cases a b n → Near a b n
    by (below_half h) = at_whole a b (a / b) (a % b) e (less h)
    by (above_half h) = at_next a b (a / b) (a % b) e (mod-lt a B) (less h)
    by (half_even h p) = at_whole a b (a / b) (a % b) e (le_of_eq h)
    by (half_odd h p) = at_next a b (a / b) (a % b) e (mod-lt a B) (le_of_eq (sym h))

-- ---- the same with a sign
pub nat_abs_neg : (z : ℤ) → nat_abs (neg_ℤ z) ≡ nat_abs z
nat_abs_neg (pos zero) = refl
nat_abs_neg (pos (suc n)) = refl
nat_abs_neg (negsuc n) = refl

-- the difference of two numbers is what the lesser lacks
pub apart : (x y : ℕ) → (x + nat_abs (pos x -ℤ pos y) ≡ y) ⊎ (y + nat_abs (pos x -ℤ pos y) ≡ x)
apart x zero = inr (omega arith)
apart x (suc y) = by (ltb x (suc y)) (ltb-true x (suc y)) (ltb-false x (suc y))
  where
    by : (t : Bool) → (t ≡ true → x < suc y) → (t ≡ false → suc y ≤ x) →
        let d = nat_abs (cond t (negsuc (suc y - suc x)) (pos (x - suc y))) in (x + d ≡ suc y) ⊎ (suc y + d ≡ x)
    by true h k = let l = h refl in inl (omega arith)
    by false h k = let l = k refl in inr (omega arith)

difference_le : (x y k : ℕ) → 2 * x ≤ 2 * y + k → 2 * y ≤ 2 * x + k → 2 * nat_abs (pos x -ℤ pos y) ≤ k
difference_le x y k h l = by (apart x y)
  where
    by : (x + nat_abs (pos x -ℤ pos y) ≡ y) ⊎ (y + nat_abs (pos x -ℤ pos y) ≡ x) → 2 * nat_abs (pos x -ℤ pos y) ≤ k
    by (inl e) = omega arith
    by (inr e) = omega arith

pub neg_times : (g b : ℕ) → neg_ℤ (pos g) *ℤ pos b ≡ neg_ℤ (pos (g * b))
neg_times zero b = pos-*ℤ-pos 0 b ∙ ap pos (none b) ∙ ap (λ (n : ℕ). neg_ℤ (pos n)) (sym (none b))
  where
    none : (b : ℕ) → 0 * b ≡ 0
    none b = omega arith
neg_times (suc g) b = negsuc-*ℤ-pos g b

pub signed_distance : (s : Bool) (g b a : ℕ) → nat_abs ((signed s g *ℤ pos b) -ℤ signed s a) ≡ nat_abs (pos (g * b) -ℤ pos a)
signed_distance false g b a = ap (λ (z : ℤ). nat_abs (z -ℤ pos a)) (pos-*ℤ-pos g b)
signed_distance true g b a =
    ap (λ (z : ℤ). nat_abs (z -ℤ neg_ℤ (pos a))) (neg_times g b)
    ∙ ap nat_abs (sym (neg_ℤ-+ℤ (pos (g * b)) (neg_ℤ (pos a))))
    ∙ nat_abs_neg (pos (g * b) -ℤ pos a)

pub denominator_pos : (v : Float) → 0 < denominator v
unfolding denominator
denominator_pos nan = zero-lt-suc 0
denominator_pos (inf s) = zero-lt-suc 0
denominator_pos (fin s m e) = down_pos e

-- rule 1.10: the grid number is at most half a step from 8v
pub half_step : (v : Float) → finite v ≡ true → HalfStep v (round_eighths v)
unfolding round_eighths
half_step v f =
    let a = numerator v in
    let b = denominator v in
    let g = nearest_even a b in
    let n = near a b (denominator_pos v) in
    record { near = subst (λ (k : ℕ). 2 * k ≤ b) (sym (signed_distance (negative v) g b a)) (difference_le (g * b) a b n.low n.high) }

-- ---- at a half it is even
-- a is q times b and r over: half a step from q, or from the next, is where twice r is b
half_of : (a b q r d : ℕ) → q * b + r ≡ a → 2 * d ≡ b → (q * b + d ≡ a) ⊎ (a + d ≡ q * b) → r * 2 ≡ b
half_of a b q r d e h (inl p) = omega arith
half_of a b q r d e h (inr p) = omega arith

half_of_next : (a b q r d : ℕ) → q * b + r ≡ a → r < b → 2 * d ≡ b → ((q + 1) * b + d ≡ a) ⊎ (a + d ≡ (q + 1) * b) → r * 2 ≡ b
half_of_next a b q r d e l h (inl p) = let s : (q + 1) * b ≡ q * b + b = next_times q b in omega arith
half_of_next a b q r d e l h (inr p) = let s : (q + 1) * b ≡ q * b + b = next_times q b in omega arith

half_even_is : (a b : ℕ) → 0 < b → 2 * nat_abs (pos (nearest_even a b * b) -ℤ pos a) ≡ b → nearest_even a b % 2 ≡ 0
half_even_is a b B = by (cases a b)
  where
    e : a / b * b + a % b ≡ a
    e = div-add-mod' a b

    next_even : (q : ℕ) → q % 2 ≡ 1 → (q + 1) % 2 ≡ 0
    next_even q p = omega arith

    by : {n : ℕ} → Cases a b n → 2 * nat_abs (pos (n * b) -ℤ pos a) ≡ b → n % 2 ≡ 0
    by (below_half h) d = absurd (let t = half_of a b (a / b) (a % b) _ e d (apart (a / b * b) a) in omega (arith, h, t))
    by (above_half h) d = absurd (let t = half_of_next a b (a / b) (a % b) _ e (mod-lt a B) d (apart ((a / b + 1) * b) a) in omega (arith, h, t))
    by (half_even h p) d = p
    by (half_odd h p) d = next_even (a / b) p

pub nat_abs_signed : (s : Bool) (n : ℕ) → nat_abs (signed s n) ≡ n
nat_abs_signed true n = nat_abs_neg (pos n)
nat_abs_signed false n = refl

-- rule 1.10: half way between two whole numbers the grid number is the even one
pub even_half : (v : Float) → EvenHalf v (round_eighths v)
unfolding round_eighths
even_half v =
    let a = numerator v in
    let b = denominator v in
    let g = nearest_even a b in
    record {
      even = λ h.
          ap (λ (n : ℕ). n % 2) (nat_abs_signed (negative v) g)
          ∙ half_even_is a b (denominator_pos v) (ap (λ (n : ℕ). 2 * n) (sym (signed_distance (negative v) g b a)) ∙ h);
    }

-- ---- in range, it is on the grid
pub in_range_on_grid : (v : Float) → in_range v ≡ true → OnGrid (round_eighths v)
unfolding in_range round_eighths
in_range_on_grid v h =
    let a = numerator v in
    let b = denominator v in
    let r : a ≤ 1000 * b = leb-true a (1000 * b) h in
    record {
      size = le_trans (le_of_eq (nat_abs_signed (negative v) (nearest_even a b)))
          (nearest_mono a b 1000 1 (denominator_pos v) (zero-lt-suc 0) (le_trans (le_of_eq (mul-one a)) r));
    }

-- rule 1.10: that of minus zero is 0
pub minus_zero : grid_number_of (fin true 0 (pos 0)) ≡ Ok (pos 0)
unfolding grid_number_of finite in_range round_eighths numerator denominator negative
minus_zero = refl
