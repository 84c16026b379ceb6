-- Vertices as members of short lists: which one it is, and that none stands twice. Assumes nothing.
use mathlib.Core.Path.{◌≡◌}
use mathlib.Core.List.Memᴰ
use mathlib.Core.List.Memᴰ.{head}
use mathlib.Core.List.Memᴰ.{tail}
use mathlib.Core.List.{List, [], ◌∷◌, Memᴰ}
use mathlib.Core.Logic.{◌⊎◌, inl, inr, ⊎_elim}
use Prim.Native.Nat.{ℕ, ◌<◌}
use native.Mathlib.Omega.{arith}
use borrow.Author.Tests.{eqb-true, eqb-false}
use lib.Dec.{eqb}
use Rattle.lists.proofs.Choice.{Truth, holds, fails, truth}
use Rattle.lists.proofs.Members.{Ascending, empty, more}
use Rattle.terms.specs.Entries.{triple}

-- one of these, or not
pub member_or_not : (i : ℕ) (t : List ℕ) → Memᴰ i t ⊎ (Memᴰ i t → ⊥)
member_or_not i [] = inr (λ m. Memᴰ.not-nil m)
member_or_not i (j ∷ t) = by (truth (eqb i j)) (member_or_not i t)
  where
    by : Truth (eqb i j) → Memᴰ i t ⊎ (Memᴰ i t → ⊥) → Memᴰ i (j ∷ t) ⊎ (Memᴰ i (j ∷ t) → ⊥)
    by (holds e) r = inl (head (eqb-true i j e))
    by (fails e) (inl m) = inl (tail m)
    by (fails e) (inr n) = inr (λ m. ⊎_elim (eqb-false i j e) n (Memᴰ.cases_cons m))

-- one of two, three or four
pub two_cases : {X : Type 0} {a b j : ℕ} → Memᴰ j (a ∷ b ∷ []) → (j ≡ a → X) → (j ≡ b → X) → X
two_cases m f g = ⊎_elim f (λ r. g (Memᴰ.eq_of_singleton r)) (Memᴰ.cases_cons m)

pub three_cases : {X : Type 0} {a b c j : ℕ} → Memᴰ j (triple a b c) → (j ≡ a → X) → (j ≡ b → X) → (j ≡ c → X) → X
three_cases m f g h = ⊎_elim f (λ r. two_cases r g h) (Memᴰ.cases_cons m)

pub four_cases : {X : Type 0} {a b c d j : ℕ} → Memᴰ j (a ∷ b ∷ c ∷ d ∷ []) → (j ≡ a → X) → (j ≡ b → X) → (j ≡ c → X) → (j ≡ d → X) → X
four_cases m f g h k = ⊎_elim f (λ r. three_cases r g h k) (Memᴰ.cases_cons m)

-- no vertex stands twice
abbrev pub Distinct : List ℕ → Type 0
Distinct t = Ascending (λ (i j : ℕ). i ≡ j → ⊥) t

pub distinct_one : (i : ℕ) → Distinct (i ∷ [])
distinct_one i = more (λ j m. absurd (Memᴰ.not-nil m)) empty

pub distinct_two : {i j : ℕ} → i < j → Distinct (i ∷ j ∷ [])
distinct_two {i} {j} l = more {x = i} {l = j ∷ []} (λ k m e. omega (arith, l, e, Memᴰ.eq_of_singleton m)) (distinct_one j)

pub distinct_three : {a b c : ℕ} → a < b → b < c → Distinct (triple a b c)
distinct_three {a} {b} {c} l m = more {x = a} {l = b ∷ c ∷ []} (λ k h e. two_cases h (λ q. omega (arith, l, e, q)) (λ q. omega (arith, l, m, e, q)))
    (distinct_two m)
