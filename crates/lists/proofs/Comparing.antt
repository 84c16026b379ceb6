-- Tests for cases that are computed: lists of numbers that are the same, a list with a member that passes. Assumes nothing.
use mathlib.Core.Path.{◌≡◌, refl}
use mathlib.Core.Bool.{Bool, true, false}
use mathlib.Core.Logic.{⊎_elim}
use mathlib.Core.List.Memᴰ
use mathlib.Core.List.{List, [], ◌∷◌, Memᴰ}
use Prim.Native.Nat.{ℕ}
use borrow.Author.Tests.{eq-eqb}
use lib.Dec.{eqb}
use Rattle.lists.specs.Lists.{both, either}
use Rattle.lists.proofs.Choice.{either_right}

unfoldable pub same_list : List ℕ → List ℕ → Bool
same_list [] [] = true
same_list [] (y ∷ ys) = false
same_list (x ∷ xs) [] = false
same_list (x ∷ xs) (y ∷ ys) = both (eqb x y) (same_list xs ys)

pub same_list_lem : (xs : List ℕ) → same_list xs xs ≡ true
unfolding same_list
same_list_lem [] = refl
same_list_lem (x ∷ xs) = rw (eq-eqb x x refl, same_list_lem xs)

-- a test that one member passes, some member passes
unfoldable pub any_of : {A : Type 0} → (A → Bool) → List A → Bool
any_of P [] = false
any_of P (x ∷ xs) = either (P x) (any_of P xs)

pub any_of_lem : {A : Type 0} (P : A → Bool) (xs : List A) (x : A) → Memᴰ x xs → P x ≡ true → any_of P xs ≡ true
unfolding any_of
any_of_lem P [] x m e = absurd (Memᴰ.not-nil m)
any_of_lem P (y ∷ ys) x m e = ⊎_elim (λ q. rw (← q, e)) (λ r. either_right (P y) _ (any_of_lem P ys x r e)) (Memᴰ.cases_cons m)
