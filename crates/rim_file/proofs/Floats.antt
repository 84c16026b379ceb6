-- Tests of every float of a record, and the number that they give. Assumes nothing.
use mathlib.Core.Path.{◌≡◌, refl, sym, ap, ◌∙◌}
use mathlib.Core.Bool.{Bool, true, false, cond}
use mathlib.Core.List.Memᴰ
use mathlib.Core.List.{List, [], ◌∷◌, Memᴰ}
use mathlib.Core.Logic.{⊎_elim}
use Prim.Native.Nat.{ℕ, ◌≤◌, ◌<◌}
use native.Mathlib.Omega.{arith}
use lib.Ieee.{Float}
use Rattle.lists.specs.Lists.{both}
use Rattle.lists.proofs.Choice.{yes, no, true_not_false, both_left, both_right, both_true, not_true_false}
use Rattle.grid.specs.Number.{finite, in_range}
use Rattle.lists.specs.Sums.{all_of}
use Rattle.rim_file.specs.Record.{numbers_code}

-- a float at which a test of every float fails
pub record Failing (P : Float → Bool) (vs : List Float) : Type 0 where
  pub value : Float
  pub member : Memᴰ value vs
  pub fails : P value ≡ false

pub all_of_fails : (P : Float → Bool) (vs : List Float) → all_of P vs ≡ false → Failing P vs
all_of_fails P [] e = absurd (true_not_false refl e)
all_of_fails P (v ∷ vs) e = by (P v) refl (λ h. all_of_fails P vs h)
  where
    by : (b : Bool) → P v ≡ b → (all_of P vs ≡ false → Failing P vs) → Failing P (v ∷ vs)
    by false p go = record { value = v; member = Memᴰ.head refl; fails = p }
    by true p go =
        let f = go (sym (ap (λ (b : Bool). both b (all_of P vs)) p) ∙ e) in
        record { value = f.value; member = Memᴰ.tail f.member; fails = f.fails }

pub all_of_at : (P : Float → Bool) (vs : List Float) (v : Float) → all_of P vs ≡ true → Memᴰ v vs → P v ≡ true
all_of_at P [] v e m = absurd (Memᴰ.not-nil m)
all_of_at P (w ∷ vs) v e m =
    ⊎_elim (λ d. ap P d ∙ both_left (P w) (all_of P vs) e) (λ t. all_of_at P vs v (both_right (P w) (all_of P vs) e) t) (Memᴰ.cases_cons m)

pub all_of_each : (P : Float → Bool) (vs : List Float) → ((v : Float) → Memᴰ v vs → P v ≡ true) → all_of P vs ≡ true
all_of_each P [] h = refl
all_of_each P (v ∷ vs) h = both_true (h v (Memᴰ.head refl)) (all_of_each P vs (λ w m. h w (Memᴰ.tail m)))

pub all_of_not : (P : Float → Bool) (vs : List Float) (v : Float) → Memᴰ v vs → P v ≡ false → all_of P vs ≡ false
all_of_not P vs v m f = not_true_false (all_of P vs) (λ e. true_not_false (all_of_at P vs v e m) f)

-- c is a number, and at most k
pub record UpTo (k c : ℕ) : Type 0 where
  pub some : 0 < c
  pub most : c ≤ k

module _ (vs : List Float) where
  pub finite_code : all_of finite vs ≡ false → numbers_code vs ≡ 8
  unfolding numbers_code
  finite_code e = no _ 8 e

  pub range_code : all_of in_range vs ≡ false → UpTo 9 (numbers_code vs)
  unfolding numbers_code
  range_code e = by (all_of finite vs) refl
    where
      by : (f : Bool) → all_of finite vs ≡ f → UpTo 9 (numbers_code vs)
      by false p = let d : numbers_code vs ≡ 8 = no _ 8 p in record { some = omega arith; most = omega arith }
      by true p = let d : numbers_code vs ≡ 9 = yes _ 8 p ∙ no 0 9 e in record { some = omega arith; most = omega arith }

  pub numbers_most : numbers_code vs ≤ 9
  unfolding numbers_code
  numbers_most = by (all_of finite vs) (all_of in_range vs)
    where
      by : (f r : Bool) → cond f (cond r 0 9) 8 ≤ 9
      by true true = omega arith
      by true false = omega arith
      by false r = omega arith

  pub fine_code : all_of finite vs ≡ true → all_of in_range vs ≡ true → numbers_code vs ≡ 0
  unfolding numbers_code
  fine_code f r = yes _ 8 f ∙ yes 0 9 r
