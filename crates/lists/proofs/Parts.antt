-- Lists over a range of numbers, cut in parts and compared number by number. Assumes nothing.
use mathlib.Core.Path.{◌≡◌, refl, sym, ◌∙◌, ap}
use mathlib.Core.Bool.{Bool, true, false}
use mathlib.Core.List.{List, [], ◌++◌, append_assoc, append-nil}
use Prim.Native.Nat.{ℕ, zero, suc, ◌+◌, ◌-◌, ◌≤◌, ◌<◌}
use native.Mathlib.Omega.{arith}
use lib.ListN.{length, length-append}
use Rattle.lists.specs.Lists.{up_from, over, when, both, either}
use Rattle.lists.proofs.Choice.{true_not_false}
use Rattle.lists.proofs.Ranges.{over_step}

module _ {A : Type 0} where
  up_split : (f : ℕ → List A) (lo j k : ℕ) → up_from f lo (j + k) ≡ up_from f lo j ++ up_from f (lo + j) k
  unfolding up_from
  up_split f lo zero k = (λ i. up_from f (z i) (y i))
    where
      y : 0 + k ≡ k
      y = omega arith

      z : lo ≡ lo + 0
      z = omega arith
  up_split f lo (suc j) k =
      ap (λ (m : ℕ). up_from f lo m) e
      ∙ ap (λ (l : List A). f lo ++ l) (up_split f (suc lo) j k ∙ ap (λ (m : ℕ). up_from f (suc lo) j ++ up_from f m k) d)
      ∙ sym (append_assoc (f lo) (up_from f (suc lo) j) (up_from f (lo + suc j) k))
    where
      e : suc j + k ≡ suc (j + k)
      e = omega arith

      d : suc lo + j ≡ lo + suc j
      d = omega arith

  pub over_split : (f : ℕ → List A) (lo mid hi : ℕ) → lo ≤ mid → mid ≤ hi → over lo hi f ≡ over lo mid f ++ over mid hi f
  over_split f lo mid hi h k =
      let e : hi - lo ≡ (mid - lo) + (hi - mid) = omega arith in
      let d : lo + (mid - lo) ≡ mid = omega arith in
      ap (λ (m : ℕ). up_from f lo m) e ∙ up_split f lo (mid - lo) (hi - mid) ∙ ap (λ (m : ℕ). over lo mid f ++ up_from f m (hi - mid)) d

  up_empty : (f : ℕ → List A) (lo k : ℕ) → ((i : ℕ) → lo ≤ i → i < lo + k → f i ≡ []) → up_from f lo k ≡ []
  unfolding up_from
  up_empty f lo zero h = refl
  up_empty f lo (suc k) h = (λ j. h lo (omega arith) (omega arith) j ++ up_empty f (suc lo) k (λ i l m. h i (omega arith) (omega arith)) j)

  pub over_empty : (f : ℕ → List A) (lo hi : ℕ) → ((i : ℕ) → lo ≤ i → i < hi → f i ≡ []) → over lo hi f ≡ []
  over_empty f lo hi h = up_empty f lo (hi - lo) (λ i l m. h i l (omega arith))

  -- only the number i gives anything
  pub over_only : (f : ℕ → List A) (lo hi i : ℕ) → lo ≤ i → i < hi → ((k : ℕ) → lo ≤ k → k < hi → (k ≡ i → ⊥) → f k ≡ []) → over lo hi f ≡ f i
  over_only f lo hi i l h none =
      over_split f lo i hi l (omega arith)
      ∙ (λ j. over_empty f lo i (λ k p q. none k p (omega arith) (λ e. omega arith)) j ++ over i hi f)
      ∙ over_step i hi f h
      ∙ ap (λ (r : List A). f i ++ r) (over_empty f (i + 1) hi (λ k p q. none k (omega arith) q (λ e. omega arith)))
      ∙ append-nil (f i)

  up_same : (f g : ℕ → List A) (lo k : ℕ) → ((i : ℕ) → lo ≤ i → i < lo + k → f i ≡ g i) → up_from f lo k ≡ up_from g lo k
  unfolding up_from
  up_same f g lo zero h = refl
  up_same f g lo (suc k) h = (λ j. h lo (omega arith) (omega arith) j ++ up_same f g (suc lo) k (λ i l m. h i (omega arith) (omega arith)) j)

  pub over_same : (lo hi : ℕ) (f g : ℕ → List A) → ((i : ℕ) → lo ≤ i → i < hi → f i ≡ g i) → over lo hi f ≡ over lo hi g
  over_same lo hi f g h = up_same f g lo (hi - lo) (λ i l m. h i l (omega arith))

-- lengths
module _ {A B : Type 0} (f : ℕ → List A) (g : ℕ → List B) where
  up_lengths : (lo k : ℕ) → ((i : ℕ) → lo ≤ i → i < lo + k → length (f i) ≡ length (g i)) → length (up_from f lo k) ≡ length (up_from g lo k)
  unfolding up_from
  up_lengths lo zero h = refl
  up_lengths lo (suc k) h =
      length-append (f lo) (up_from f (suc lo) k)
      ∙ (λ j. h lo (omega arith) (omega arith) j + up_lengths (suc lo) k (λ i l m. h i (omega arith) (omega arith)) j)
      ∙ sym (length-append (g lo) (up_from g (suc lo) k))

  pub over_lengths : (lo hi : ℕ) → ((i : ℕ) → lo ≤ i → i < hi → length (f i) ≡ length (g i)) → length (over lo hi f) ≡ length (over lo hi g)
  over_lengths lo hi h = up_lengths lo (hi - lo) (λ i l m. h i l (omega arith))

-- what stands there does not matter
pub when_length : {A B : Type 0} (b : Bool) (x : A) (y : B) → length (when b x) ≡ length (when b y)
when_length true x y = refl
when_length false x y = refl

-- one of two tests that exclude each other
pub when_either : {A : Type 0} (p q : Bool) (x : A) → both p q ≡ false → length (when (either p q) x) ≡ length (when p x) + length (when q x)
when_either true true x e = absurd (true_not_false refl e)
when_either true false x e = refl
when_either false q x e = omega arith
