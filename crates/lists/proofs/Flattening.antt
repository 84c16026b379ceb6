-- The lists that the entries of a list give, one after the other. Assumes nothing.
use mathlib.Core.Path.{◌≡◌, refl, sym, ◌∙◌, ap}
use mathlib.Core.Bool.{Bool, true, false, cond}
use mathlib.Core.List.{List, [], ◌∷◌, ◌++◌, flat_map, append_assoc, append-nil}
use Prim.Native.Nat.{ℕ, zero, suc, ◌+◌, ◌-◌}
use native.Mathlib.Omega.{arith}
use lib.ListN.{length, get_or, length-append}
use Rattle.lists.specs.Lists.{up_from, over, when}

up_shift : {A : Type 0} (f : ℕ → List A) (lo k : ℕ) → up_from f (suc lo) k ≡ up_from (λ i. f (suc i)) lo k
unfolding up_from
up_shift f lo zero = refl
up_shift f lo (suc k) = ap (λ l. f (suc lo) ++ l) (up_shift f (suc lo) k)

module _ {A B : Type 0} (f : A → List B) where
  flat_append : (s t : List A) → flat_map f (s ++ t) ≡ flat_map f s ++ flat_map f t
  unfolding flat_map
  flat_append [] t = refl
  flat_append (x ∷ s) t = ap (λ (l : List B). f x ++ l) (flat_append s t) ∙ sym (append_assoc (f x) (flat_map f s) (flat_map f t))

  flat_up : (g : ℕ → List A) (lo k : ℕ) → flat_map f (up_from g lo k) ≡ up_from (λ i. flat_map f (g i)) lo k
  unfolding flat_map up_from
  flat_up g lo zero = refl
  flat_up g lo (suc k) = flat_append (g lo) (up_from g (suc lo) k) ∙ ap (λ (l : List B). flat_map f (g lo) ++ l) (flat_up g (suc lo) k)

  pub flat_over : (lo hi : ℕ) (g : ℕ → List A) → flat_map f (over lo hi g) ≡ over lo hi (λ i. flat_map f (g i))
  flat_over lo hi g = flat_up g lo (hi - lo)

  pub flat_when : (b : Bool) (x : A) → flat_map f (when b x) ≡ cond b (f x) []
  unfolding flat_map
  flat_when true x = append-nil (f x)
  flat_when false x = refl

  up_entries : (l : List A) (d : A) → up_from (λ i. f (get_or l i d)) 0 (length l) ≡ flat_map f l
  unfolding flat_map up_from
  up_entries [] d = refl
  up_entries (x ∷ l) d = ap (λ (r : List B). f x ++ r) (up_shift (λ i. f (get_or (x ∷ l) i d)) 0 (length l) ∙ up_entries l d)

  -- a loop over the entries by their numbers
  pub over_entries : (l : List A) (d : A) → over 0 (length l) (λ i. f (get_or l i d)) ≡ flat_map f l
  over_entries l d = ap (λ (k : ℕ). up_from (λ i. f (get_or l i d)) 0 k) (omega arith) ∙ up_entries l d

-- what the entries give in two parts
pub flat_sum : {A B C D : Type 0} (f : A → List B) (g : A → List C) (h : A → List D) → ((x : A) → length (f x) ≡ length (g x) + length (h x)) →
    (l : List A) → length (flat_map f l) ≡ length (flat_map g l) + length (flat_map h l)
unfolding flat_map
flat_sum f g h e [] = refl
flat_sum f g h e (x ∷ l) =
    omega (arith, length-append (f x) (flat_map f l), length-append (g x) (flat_map g l), length-append (h x) (flat_map h l), e x, flat_sum f g h e l)
