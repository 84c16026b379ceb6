-- Laws of floor division, the whole root and the clamp. Assumes nothing.
use mathlib.Core.Path.{◌≡◌, refl, sym, ◌∙◌, ap, subst}
use mathlib.Core.Bool.{Bool, true, false, not, cond}
use Prim.Native.Nat.{ℕ, zero, suc, ◌+◌, ◌*◌, ◌-◌, ◌/◌, ◌%◌, ◌^◌, ◌≤◌, ◌<◌}
use native.Mathlib.Nat.{div-mul-le_self, lt-div-mul-add, div-add-mod', div-eq_of_lt-le, mod-lt, div-le_self}
use native.Mathlib.Nat.{mod-le, add-zero, le_trans, le_antisymm, pow-suc, mul-le-mul_left, mul-le-mul_right}
use native.Mathlib.Decide.{dec_le}
use native.Mathlib.Omega.{arith}
use lib.Dec.{T, ltb, leb, lt→ltb, le→leb, leb→le, nleb→lt, lit≤}
use lib.IntN.{ℤ, pos, negsuc, neg_ℤ, nat_abs, ◌-ℤ◌, ◌+ℤ◌, ◌*ℤ◌}
use lib.Signed.{lt_z, quot_z, rem_z, ◌<ℤ◌, ◌≤ℤ◌}
use Rattle.std.specs.Int.{int_max, int_min}
use Rattle.std.proofs.lemmas.Int.{ints, clamps}
use borrow.Author.Tests.{ltb-true, ltb-false, lt-ltb}
use Rattle.integers.proofs.Bounds.{Holds, nat_abs_neg}
use Rattle.integers.proofs.Order.{true≢false}
use Rattle.integers.specs.Rounding.{floor_div, clamped, IsFloorRoot, last_digit, root_digits, floor_root}
use Rattle.integers.specs.Bounds.{AtMost}

-- ---- the machine's quotient, rounded toward zero, and its remainder

one_less : (q : ℕ) → neg_ℤ (pos q) -ℤ pos 1 ≡ negsuc q
one_less zero = refl
one_less (suc m) = ap (λ (n : ℕ). negsuc (suc n)) (add-zero m)

-- the quotient of a + 1, where b leaves nothing and where it leaves something
quotient_exact : (a b : ℕ) → 0 < b → suc a % b ≡ 0 → suc a / b ≡ suc (a / b)
quotient_exact a b h e = go (suc a / b) refl
  where
    go : (q : ℕ) → suc a / b ≡ q → q ≡ suc (a / b)
    go zero p =
        let k : 0 * b + 0 ≡ suc a = sym (λ i. p i * b + e i) ∙ div-add-mod' (suc a) b in
        absurd (omega arith)
    go (suc q) p =
        let k : suc q * b + 0 ≡ suc a = sym (λ i. p i * b + e i) ∙ div-add-mod' (suc a) b in
        ap suc (sym (div-eq_of_lt-le b (omega arith) (omega arith)))

quotient_inexact : (a b r : ℕ) → 0 < b → suc a % b ≡ suc r → suc a / b ≡ a / b
quotient_inexact a b r h e =
    let k : suc a / b * b + suc r ≡ suc a = sym (λ i. suc a / b * b + e i) ∙ div-add-mod' (suc a) b in
    let l : suc r < b = subst (λ (n : ℕ). n < b) e (mod-lt (suc a) h) in
    sym (div-eq_of_lt-le b (omega arith) (omega arith))

-- one below where the remainder is negative, and the quotient itself where it is not
pub quotient_less_one : (n : ℤ) (b : ℕ) → 0 < b → lt_z (rem_z n (pos b)) (pos 0) ≡ true → quot_z n (pos b) -ℤ pos 1 ≡ floor_div n b
quotient_less_one (pos a) b h t = let z : a % b < 0 = ltb-true (a % b) 0 t in absurd (omega arith)
quotient_less_one (negsuc a) b h t = go (suc a % b) refl t
  where
    go : (r : ℕ) → suc a % b ≡ r → lt_z (neg_ℤ (pos r)) (pos 0) ≡ true → neg_ℤ (pos (suc a / b)) -ℤ pos 1 ≡ negsuc (a / b)
    go zero e t = true≢false (sym t)
    go (suc r) e t = one_less (suc a / b) ∙ ap negsuc (quotient_inexact a b r h e)

pub quotient_kept : (n : ℤ) (b : ℕ) → 0 < b → lt_z (rem_z n (pos b)) (pos 0) ≡ false → quot_z n (pos b) ≡ floor_div n b
quotient_kept (pos a) b h t = refl
quotient_kept (negsuc a) b h t = go (suc a % b) refl t
  where
    go : (r : ℕ) → suc a % b ≡ r → lt_z (neg_ℤ (pos r)) (pos 0) ≡ false → neg_ℤ (pos (suc a / b)) ≡ negsuc (a / b)
    go zero e t = ap (λ (q : ℕ). neg_ℤ (pos q)) (quotient_exact a b h e)
    go (suc r) e t = true≢false t

-- a divisor above 0 is a natural number above 0
pub positive_divisor : (k : ℤ) → pos 0 <ℤ k → (0 < nat_abs k) × (k ≡ pos (nat_abs k))
positive_divisor (pos b) h = (ltb-true 0 b (go (ltb 0 b) h.lt), refl)
  where
    go : (t : Bool) → T t → t ≡ true
    go true p = refl
    go false p = absurd p
positive_divisor (negsuc b) h = absurd h.lt

pub quotient_at_most : (n : ℤ) (b : ℕ) {m : ℕ} → AtMost m n → AtMost m (quot_z n (pos b))
quotient_at_most (pos a) b h = record { size = le_trans (div-le_self a b) h.size }
quotient_at_most (negsuc a) b {m} h =
    record { size = subst (λ (x : ℕ). x ≤ m) (sym (nat_abs_neg (pos (suc a / b)))) (le_trans (div-le_self (suc a) b) h.size) }

pub remainder_at_most : (n : ℤ) (b : ℕ) {m : ℕ} → AtMost m n → AtMost m (rem_z n (pos b))
remainder_at_most (pos a) b h = record { size = le_trans (mod-le a b) h.size }
remainder_at_most (negsuc a) b {m} h = record { size = subst (λ (x : ℕ). x ≤ m) (sym (nat_abs_neg (pos (suc a % b)))) (le_trans (mod-le (suc a) b) h.size) }

-- what the machine holds after a division of x by y
pub quotient_held : {m b : ℕ} {n x y : ℤ} → Holds m n x → y ≡ pos b → Holds m (quot_z n (pos b)) (quot_z x y)
quotient_held {b = b} {n = n} h e = record { value = (λ i. quot_z (h.value i) (e i)); bound = quotient_at_most n b h.bound }

pub remainder_held : {m b : ℕ} {n x y : ℤ} → Holds m n x → y ≡ pos b → Holds m (rem_z n (pos b)) (rem_z x y)
remainder_held {b = b} {n = n} h e = record { value = (λ i. rem_z (h.value i) (e i)); bound = remainder_at_most n b h.bound }

pub product_above_0 : (m k : ℕ) → 0 < m → 0 < k → 0 < m * k
product_above_0 zero k h l = absurd (omega arith)
product_above_0 (suc m) zero h l = absurd (omega arith)
product_above_0 (suc m) (suc k) h l = omega arith

-- ---- floor division is the whole number below: q · k ≤ n < (q + 1) · k

minus_le : (x a : ℕ) → suc a ≤ x → neg_ℤ (pos x) ≤ℤ negsuc a
minus_le zero a h = absurd (omega arith)
minus_le (suc x) a h = record { le = le→leb a x (omega arith) }

minus_lt : (x a : ℕ) → x ≤ a → negsuc a <ℤ neg_ℤ (pos x)
minus_lt zero a h = record { lt = tt }
minus_lt (suc x) a h = record { lt = lt→ltb x a (omega arith) }

pub floor_div_low : (n : ℤ) (k : ℕ) → 0 < k → (floor_div n k *ℤ pos k) ≤ℤ n
floor_div_low (pos a) k h = record { le = le→leb _ _ (div-mul-le_self a k) }
floor_div_low (negsuc a) k h = minus_le (suc (a / k) * k) a (let l : a < a / k * k + k = lt-div-mul-add h in omega arith)

pub floor_div_high : (n : ℤ) (k : ℕ) → 0 < k → n <ℤ ((floor_div n k +ℤ pos 1) *ℤ pos k)
floor_div_high (pos a) k h = record { lt = lt→ltb _ _ (let l : a < a / k * k + k = lt-div-mul-add h in above (a / k) l) }
  where
    above : (q : ℕ) → a < q * k + k → a < (q + 1) * k
    above q l = omega arith
floor_div_high (negsuc a) k h = subst (λ (z : ℤ). negsuc a <ℤ (z *ℤ pos k)) (sym (one_more (a / k))) (at (a / k) (div-mul-le_self a k))
  where
    one_more : (q : ℕ) → negsuc q +ℤ pos 1 ≡ neg_ℤ (pos q)
    one_more zero = refl
    one_more (suc q) =
        ap (λ (b : Bool). cond b (negsuc (suc (suc q) - 2)) (pos (1 - suc (suc q)))) (lt-ltb 1 (suc (suc q)) (omega arith)) ∙ ap negsuc (omega arith)

    at : (q : ℕ) → q * k ≤ a → negsuc a <ℤ (neg_ℤ (pos q) *ℤ pos k)
    at zero l = record { lt = tt }
    at (suc q) l = minus_lt (suc q * k) a l

-- ---- the whole root

-- a number whose square is within x is at most every b whose next square is above x
pub root_at_most : {x : ℕ} (r b : ℕ) → r * r ≤ x → x < (b + 1) * (b + 1) → r ≤ b
root_at_most {x} r b l h = go (dec_le r b)
  where
    go : Dec (r ≤ b) → r ≤ b
    go (yes k) = k
    go (no k) =
        let w : b + 1 ≤ r = omega arith in
        let q = le_trans (mul-le-mul_right (b + 1) w) (mul-le-mul_left r w) in
        absurd (omega arith)

-- there is one whole root
pub floor_root_unique : (x r s : ℕ) → IsFloorRoot x r → IsFloorRoot x s → r ≡ s
floor_root_unique x r s p q = le_antisymm (root_at_most r s p.low q.high) (root_at_most s r q.low p.high)

-- the digits from x / 4 to x
double_low : (s y x : ℕ) → s * s ≤ y → 4 * y ≤ x → (2 * s) * (2 * s) ≤ x
double_low s y x h k = omega arith

double_high : (s y x : ℕ) → y < (s + 1) * (s + 1) → x < 4 * (y + 1) → x < (2 * s + 1 + 1) * (2 * s + 1 + 1)
double_high s y x h k = omega arith

root_step : (x r : ℕ) → r * r ≤ x → x < (r + 1 + 1) * (r + 1 + 1) → IsFloorRoot x (last_digit x r)
root_step x r l h = go (leb ((r + 1) * (r + 1)) x) refl
  where
    go : (b : Bool) → leb ((r + 1) * (r + 1)) x ≡ b → IsFloorRoot x (cond b (r + 1) r)
    go true e = record { low = leb→le _ _ (subst T (sym e) tt); high = h }
    go false e = record { low = l; high = nleb→lt _ _ (subst (λ (b : Bool). T (not b)) (sym e) tt) }

pub root_digits_lem : (k x : ℕ) → x < 4 ^ k → IsFloorRoot x (root_digits k x)
unfolding root_digits
root_digits_lem zero x h = record { low = omega arith; high = omega arith }
root_digits_lem (suc k) x h =
    let s = root_digits k (x / 4) in
    let p : x < 4 ^ k * 4 = subst (λ (y : ℕ). x < y) (pow-suc 4 k) h in
    let i = root_digits_lem k (x / 4) (omega arith) in
    root_step x (2 * s) (double_low s (x / 4) x i.low (omega arith)) (double_high s (x / 4) x i.high (omega arith))

-- the whole root of a u64 is the one number with its two bounds
pub floor_root_is : (x : ℕ) → x < 2 ^ 64 → IsFloorRoot x (floor_root x)
floor_root_is x h = root_digits_lem 32 x h

pub is_floor_root : (x r : ℕ) → x < 2 ^ 64 → IsFloorRoot x r → r ≡ floor_root x
is_floor_root x r h p = floor_root_unique x r (floor_root x) p (floor_root_is x h)

-- ---- the clamp to -1000 to 1000: that of `i64::clamp`, and what it leaves, taken from 1000

pub clamped_is : (x : ℤ) → int_max (negsuc 999) (int_min x (pos 1000)) ≡ clamped (negsuc 999) (pos 1000) x
clamped_is x = grind (arith, ints, clamps)

pub clamped_range : (x : ℤ) → (j : ℕ) × (j ≤ 2000) × (pos 1000 -ℤ clamped (negsuc 999) (pos 1000) x ≡ pos j)
clamped_range x = low (lt_z x (negsuc 999)) refl
  where
    middle : (x : ℤ) → lt_z x (negsuc 999) ≡ false → lt_z (pos 1000) x ≡ false → (j : ℕ) × (j ≤ 2000) × (pos 1000 -ℤ x ≡ pos j)
    middle (pos zero) s t = (1000, lit≤ tt, refl)
    middle (pos (suc a)) s t = (1000 - suc a, omega arith, ap (λ (b : Bool). cond b (negsuc (suc a - 1001)) (pos (1000 - suc a))) t)
    middle (negsuc a) s t = let h = ltb-false 999 a s in (1000 + suc a, omega arith, refl)

    high : (b : Bool) → lt_z x (negsuc 999) ≡ false → lt_z (pos 1000) x ≡ b → (j : ℕ) × (j ≤ 2000) × (pos 1000 -ℤ cond b (pos 1000) x ≡ pos j)
    high true s t = (0, lit≤ tt, refl)
    high false s t = middle x s t

    low : (b : Bool) → lt_z x (negsuc 999) ≡ b → (j : ℕ) × (j ≤ 2000) × (pos 1000 -ℤ cond b (negsuc 999) (cond (lt_z (pos 1000) x) (pos 1000) x) ≡ pos j)
    low true s = (2000, lit≤ tt, refl)
    low false s = high (lt_z (pos 1000) x) s refl
