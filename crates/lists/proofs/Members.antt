-- What stands in a list made in order, and in which order. Assumes nothing.
use mathlib.Core.Path.{◌≡◌, refl, sym, subst}
use mathlib.Core.Bool.{Bool, true, false}
use mathlib.Core.List.Memᴰ
use mathlib.Core.List.{List, [], ◌∷◌, ◌++◌, Memᴰ}
use mathlib.Core.Logic.{⊎_elim}
use Prim.Native.Nat.{ℕ, zero, suc, ◌+◌, ◌-◌, ◌≤◌, ◌<◌}
use native.Mathlib.Omega.{arith}
use lib.ListN.{length, get_or}
use Rattle.lists.specs.Lists.{over, up_from, when}

module _ {A : Type 0} where
  -- a member of f i for a number i of the range
  pub record Within (lo hi : ℕ) (f : ℕ → List A) (x : A) : Type 0 where
    pub at : ℕ
    pub low : lo ≤ at
    pub high : at < hi
    pub member : Memᴰ x (f at)

  up_member : (f : ℕ → List A) (lo k : ℕ) (x : A) → Memᴰ x (up_from f lo k) → Within lo (lo + k) f x
  unfolding up_from
  up_member f lo zero x m = absurd (Memᴰ.not-nil m)
  up_member f lo (suc k) x m = ⊎_elim
      (λ h. record { at = lo; low = omega arith; high = omega arith; member = h })
      (λ h. let r = up_member f (suc lo) k x h in record { at = r.at; low = omega (arith, r.low); high = omega (arith, r.high); member = r.member })
      (Memᴰ.append_cases (f lo) m)

  pub over_member : (lo hi : ℕ) (f : ℕ → List A) (x : A) → Memᴰ x (over lo hi f) → Within lo hi f x
  over_member lo hi f x m =
      let r = up_member f lo (hi - lo) x m in
      record { at = r.at; low = r.low; high = omega (arith, r.low, r.high); member = r.member }

  up_put : (f : ℕ → List A) (lo k i : ℕ) (x : A) → lo ≤ i → i < lo + k → Memᴰ x (f i) → Memᴰ x (up_from f lo k)
  unfolding up_from
  up_put f lo zero i x l h m = absurd (omega arith)
  up_put f lo (suc k) i x l h m = go (λ u v. up_put f (suc lo) k i x u v m) (i - lo) refl
    where
      go : (suc lo ≤ i → i < suc lo + k → Memᴰ x (up_from f (suc lo) k)) → (j : ℕ) → i - lo ≡ j → Memᴰ x (f lo ++ up_from f (suc lo) k)
      go r zero e = Memᴰ.append_left (up_from f (suc lo) k) (subst (λ (j : ℕ). Memᴰ x (f j)) (omega arith) m)
      go r (suc j) e = Memᴰ.append_right (f lo) (r (omega arith) (omega arith))

  pub over_put : (lo hi i : ℕ) (f : ℕ → List A) (x : A) → lo ≤ i → i < hi → Memᴰ x (f i) → Memᴰ x (over lo hi f)
  over_put lo hi i f x l h m = up_put f lo (hi - lo) i x l (omega arith) m

  pub when_member : (b : Bool) (x y : A) → Memᴰ y (when b x) → (b ≡ true) × (y ≡ x)
  when_member true x y m = (refl, Memᴰ.eq_of_singleton m)
  when_member false x y m = absurd (Memᴰ.not-nil m)

  pub when_put : {b : Bool} (x : A) → b ≡ true → Memᴰ x (when b x)
  when_put x e = subst (λ (b : Bool). Memᴰ x (when b x)) (sym e) (Memᴰ.head refl)

  -- a list's entries are its members, and its members are entries
  pub entry_member : (l : List A) (d : A) (i : ℕ) → i < length l → Memᴰ (get_or l i d) l
  entry_member [] d i h = absurd (omega arith)
  entry_member (x ∷ l) d zero h = Memᴰ.head refl
  entry_member (x ∷ l) d (suc i) h = Memᴰ.tail (entry_member l d i (omega arith))

  pub record Entry (l : List A) (d x : A) : Type 0 where
    pub at : ℕ
    pub below : at < length l
    pub is : get_or l at d ≡ x

  pub member_entry : (l : List A) (d x : A) → Memᴰ x l → Entry l d x
  member_entry [] d x m = absurd (Memᴰ.not-nil m)
  member_entry (y ∷ l) d x m = ⊎_elim
      (λ e. record { at = 0; below = omega arith; is = sym e })
      (λ h. let r = member_entry l d x h in record { at = suc r.at; below = omega (arith, r.below); is = r.is })
      (Memᴰ.cases_cons m)

  -- each entry of a list is before all later ones
  pub data Ascending (R : A → A → Type 0) : List A → Type 0 where
    empty : Ascending R []
    more : {x : A} {l : List A} → ((y : A) → Memᴰ y l → R x y) → Ascending R l → Ascending R (x ∷ l)

  ascending_append : {R : A → A → Type 0} (s : List A) {t : List A} → Ascending R s → Ascending R t →
      ((x y : A) → Memᴰ x s → Memᴰ y t → R x y) → Ascending R (s ++ t)
  ascending_append [] hs ht h = ht
  ascending_append {R} (x ∷ s) {t} (more hx hs) ht h =
      more (λ y m. ⊎_elim (λ k. hx y k) (λ k. h x y (Memᴰ.head refl) k) (Memᴰ.append_cases s m))
      (ascending_append s hs ht (λ u v m k. h u v (Memᴰ.tail m) k))

  up_ascending : {R : A → A → Type 0} (f : ℕ → List A) (lo k : ℕ) → ((i : ℕ) → Ascending R (f i)) →
      ((i j : ℕ) (x y : A) → i < j → Memᴰ x (f i) → Memᴰ y (f j) → R x y) → Ascending R (up_from f lo k)
  unfolding up_from
  up_ascending f lo zero hf h = empty
  up_ascending f lo (suc k) hf h =
      ascending_append (f lo) (hf lo) (up_ascending f (suc lo) k hf h)
      (λ x y m n. let w = up_member f (suc lo) k y n in h lo w.at x y (omega (arith, w.low)) m w.member)

  pub over_ascending : {R : A → A → Type 0} (lo hi : ℕ) (f : ℕ → List A) → ((i : ℕ) → Ascending R (f i)) →
      ((i j : ℕ) (x y : A) → i < j → Memᴰ x (f i) → Memᴰ y (f j) → R x y) → Ascending R (over lo hi f)
  over_ascending lo hi f hf h = up_ascending f lo (hi - lo) hf h

  pub when_ascending : {R : A → A → Type 0} (b : Bool) (x : A) → Ascending R (when b x)
  when_ascending true x = more (λ y m. absurd (Memᴰ.not-nil m)) empty
  when_ascending false x = empty

  pub ascending_at : {R : A → A → Type 0} {l : List A} (d : A) → Ascending R l → (i j : ℕ) → i < j → j < length l → R (get_or l i d) (get_or l j d)
  ascending_at d empty i j h k = absurd (omega arith)
  ascending_at {l = x ∷ l} d (more hx hl) zero (suc j) h k = hx (get_or l j d) (entry_member l d j (omega arith))
  ascending_at {l = x ∷ l} d (more hx hl) (suc i) (suc j) h k = ascending_at d hl i j (omega arith) (omega arith)
  ascending_at {l = x ∷ l} d (more hx hl) i zero h k = absurd (omega arith)

-- a list without members is empty
pub no_members : {A : Type 0} (l : List A) → ((x : A) → Memᴰ x l → ⊥) → l ≡ []
no_members [] h = refl
no_members (x ∷ l) h = absurd (h x (Memᴰ.head refl))
