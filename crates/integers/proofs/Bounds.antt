-- Bounds of sums and products of integers, and what the machine holds of them: `Holds n m z`. Assumes nothing.
-- A need "this sum fits" is one line, a tree over the parameters (`given`) and results (`returned`), and the same tree ends `returns`:
--   add-result c = fits tt (stored tt (given tt hx *! given tt hy) +! returned tt c.f.ensures bound)
use mathlib.Core.Path.{◌≡◌, refl, sym, ◌∙◌, ap, subst}
use mathlib.Core.Bool.{Bool, true, false, not, cond}
use Prim.Native.Nat.{ℕ, zero, suc, ◌+◌, ◌*◌, ◌-◌, ◌≤◌, ◌<◌, suc-le-suc}
use native.Mathlib.Nat.{le_trans, le_of_eq, add-le-add, le_refl, mul-le-mul_left, mul-le-mul_right}
use native.Mathlib.Omega.{arith}
use lib.Dec.{T, leb, ltb, leb→le, ltb→lt}
use lib.IntN.{ℤ, pos, negsuc, neg_ℤ, nat_abs, sub_ℕ, ◌+ℤ◌, ◌-ℤ◌, ◌*ℤ◌}
use lib.Signed.{mag}
use Rattle.integers.specs.Bounds.{AtMost, largest}
use mir.Syntax.{w64}
use mir.Val.{SFits, to_z, of_z}
use mir.ValLaws.{to_z-of_z}

pub nat_abs_neg : (z : ℤ) → nat_abs (neg_ℤ z) ≡ nat_abs z
nat_abs_neg (pos zero) = refl
nat_abs_neg (pos (suc n)) = refl
nat_abs_neg (negsuc n) = refl

cond_case : (c : Bool) (x y : ℤ) (P : ℤ → Type 0) → (T c → P x) → (T (not c) → P y) → P (cond c x y)
cond_case true x y P f g = f tt
cond_case false x y P f g = g tt

nat_abs_sub : (a b : ℕ) → nat_abs (sub_ℕ a b) ≤ a + b
nat_abs_sub a b = cond_case (ltb a b) (negsuc (b - suc a)) (pos (a - b)) (λ z. nat_abs z ≤ a + b) (λ t. u a b (ltb→lt a b t)) (λ t. v a b)
  where
    u : (a b : ℕ) → a < b → suc (b - suc a) ≤ a + b
    u a b h = omega arith

    v : (a b : ℕ) → a - b ≤ a + b
    v a b = omega arith

pub nat_abs_add : (a b : ℤ) → nat_abs (a +ℤ b) ≤ nat_abs a + nat_abs b
nat_abs_add (pos a) (pos b) = le_refl (a + b)
nat_abs_add (pos a) (negsuc b) = nat_abs_sub a (suc b)
nat_abs_add (negsuc a) (pos b) = le_trans (nat_abs_sub b (suc a)) (omega arith)
nat_abs_add (negsuc a) (negsuc b) = omega arith

pub nat_abs_mul : (a b : ℤ) → nat_abs (a *ℤ b) ≡ nat_abs a * nat_abs b
nat_abs_mul (pos a) (pos b) = refl
nat_abs_mul (pos a) (negsuc b) = nat_abs_neg (pos (a * suc b))
nat_abs_mul (negsuc a) (pos b) = nat_abs_neg (pos (suc a * b))
nat_abs_mul (negsuc a) (negsuc b) = refl

pub mul_le : {a b m n : ℕ} → a ≤ m → b ≤ n → a * b ≤ m * n
mul_le {a} {b} {m} {n} h k = le_trans (mul-le-mul_right b h) (mul-le-mul_left m k)

pub at_most_add : {m n : ℕ} {a b : ℤ} → AtMost m a → AtMost n b → AtMost (m + n) (a +ℤ b)
at_most_add {a = a} {b = b} h k = record { size = le_trans (nat_abs_add a b) (add-le-add h.size k.size) }

pub at_most_neg : {n : ℕ} {b : ℤ} → AtMost n b → AtMost n (neg_ℤ b)
at_most_neg {b = b} k = record { size = le_trans (le_of_eq (nat_abs_neg b)) k.size }

pub at_most_sub : {m n : ℕ} {a b : ℤ} → AtMost m a → AtMost n b → AtMost (m + n) (a -ℤ b)
at_most_sub h k = at_most_add h (at_most_neg k)

pub at_most_mul : {m n : ℕ} {a b : ℤ} → AtMost m a → AtMost n b → AtMost (m * n) (a *ℤ b)
at_most_mul {a = a} {b = b} h k = record { size = le_trans (le_of_eq (nat_abs_mul a b)) (mul_le h.size k.size) }

pub at_most_le : {m n : ℕ} {z : ℤ} → T (leb m n) → AtMost m z → AtMost n z
at_most_le {m} {n} t h = record { size = le_trans h.size (leb→le m n t) }

pub at_most_as : {n : ℕ} {x y : ℤ} → x ≡ y → AtMost n y → AtMost n x
at_most_as {n} e h = subst (λ (z : ℤ). AtMost n z) (sym e) h

mag_abs : (z : ℤ) → mag z ≤ nat_abs z
mag_abs (pos n) = le_refl n
mag_abs (negsuc n) = omega arith

pub signed_fits : {n : ℕ} {z : ℤ} → T (leb n largest) → AtMost n z → SFits w64 z
signed_fits {n} {z} t h = record { sfits = suc-le-suc (le_trans (mag_abs z) (le_trans h.size (leb→le n largest t))) }

-- what the machine holds, z, is m, at most n away from 0
pub record Holds (n : ℕ) (m z : ℤ) : Type 0 where
  pub value : z ≡ m
  pub bound : AtMost n m

-- an i64 as it is read from its bits
abbrev pub bits : ℤ → ℤ
bits z = to_z w64 (of_z w64 z)

-- read back from its bits
pub stored : {n : ℕ} {m z : ℤ} → T (leb n largest) → Holds n m z → Holds n m (bits z)
stored {n} {m} {z} t h = record { value = ap (λ (x : ℤ). to_z w64 (of_z w64 x)) h.value ∙ to_z-of_z w64 m (signed_fits t h.bound); bound = h.bound }

pub fits : {n : ℕ} {m z : ℤ} → T (leb n largest) → Holds n m z → SFits w64 z
fits t h = subst (λ (x : ℤ). SFits w64 x) (sym h.value) (signed_fits t h.bound)

pub given : {n : ℕ} {x : ℤ} → T (leb n largest) → AtMost n x → Holds n x (bits x)
given t h = stored t (record { value = refl; bound = h })

pub literal : (k : ℕ) → Holds k (pos k) (pos k)
literal k = record { value = refl; bound = record { size = le_refl k } }

infixl 6 ◌+!◌ ◌-!◌
infixl 7 ◌*!◌
pub ◌+!◌ : {m n : ℕ} {a b x y : ℤ} → Holds m a x → Holds n b y → Holds (m + n) (a +ℤ b) (x +ℤ y)
h +! k = record { value = (λ i. h.value i +ℤ k.value i); bound = at_most_add h.bound k.bound }

pub ◌-!◌ : {m n : ℕ} {a b x y : ℤ} → Holds m a x → Holds n b y → Holds (m + n) (a -ℤ b) (x -ℤ y)
h -! k = record { value = (λ i. h.value i -ℤ k.value i); bound = at_most_sub h.bound k.bound }

pub ◌*!◌ : {m n : ℕ} {a b x y : ℤ} → Holds m a x → Holds n b y → Holds (m * n) (a *ℤ b) (x *ℤ y)
h *! k = record { value = (λ i. h.value i *ℤ k.value i); bound = at_most_mul h.bound k.bound }

-- a product with a bound of its own: it fits, and is held
module _ {k : ℕ} {a b : ℤ} (t : T (leb k largest)) (h : AtMost largest a) (l : AtMost largest b) (r : AtMost k (a *ℤ b)) where
  product : Holds k (a *ℤ b) (bits a *ℤ bits b)
  product = record { value = (λ i. (given tt h).value i *ℤ (given tt l).value i); bound = r }

  pub product_fits : SFits w64 (bits a *ℤ bits b)
  product_fits = fits t product

  pub product_held : Holds k (a *ℤ b) (bits (bits a *ℤ bits b))
  product_held = stored t product

-- a call's result z, which its contract says is m
pub returned : {n : ℕ} {m z : ℤ} → T (leb n largest) → z ≡ m → AtMost n m → Holds n m (bits z)
returned t e h = stored t (record { value = e; bound = h })

pub at_most_held : {n : ℕ} {m z : ℤ} → Holds n m z → AtMost n z
at_most_held h = at_most_as h.value h.bound
