-- Sums and counts over lists. Assumes nothing.
use Prim.Native.Nat.{ℕ, zero, suc, ◌+◌, ◌≤◌, ◌<◌}
use mathlib.Core.Path.{◌≡◌, refl, sym, ap, ◌∙◌}
use mathlib.Core.Bool.{Bool, true, false, cond, false≢true}
use mathlib.Core.Logic.{◌⊎◌, inl, inr, ⊎_elim}
use mathlib.Core.List.Memᴰ
use mathlib.Core.List.{List, [], ◌∷◌, ◌++◌, Memᴰ}
use native.Mathlib.Nat.{add-zero}
use native.Mathlib.Omega.{arith}
use lib.Dec.{eqb}
use lib.ListN.{length, get_or}
use borrow.Author.Tests.{eqb-true, eq-eqb}
use Rattle.lists.proofs.Members.{entry_member}
use Rattle.lists.specs.Sums.{only, sum, keep}

abbrev pub Mem : ℕ → List ℕ → Type 0
Mem k s = Memᴰ k s

abbrev pub count : (ℕ → Bool) → List ℕ → ℕ
count p s = sum (λ k. only (p k) 1) s

pub sum_append : (f : ℕ → ℕ) (xs ys : List ℕ) → sum f (xs ++ ys) ≡ sum f xs + sum f ys
sum_append f [] ys = omega arith
sum_append f (x ∷ xs) ys = omega (arith, sum_append f xs ys)

pub sum_ext : (f g : ℕ → ℕ) (s : List ℕ) → ((k : ℕ) → Mem k s → f k ≡ g k) → sum f s ≡ sum g s
sum_ext f g [] h = refl
sum_ext f g (x ∷ xs) h = omega (arith, h x (Memᴰ.head refl), sum_ext f g xs (λ k m. h k (Memᴰ.tail m)))

pub sum_zero : (s : List ℕ) → sum (λ k. 0) s ≡ 0
sum_zero [] = refl
sum_zero (x ∷ xs) = omega (arith, sum_zero xs)

pub sum_add : (f g : ℕ → ℕ) (s : List ℕ) → sum (λ k. f k + g k) s ≡ sum f s + sum g s
sum_add f g [] = omega arith
sum_add f g (x ∷ xs) = omega (arith, sum_add f g xs)

pub sum_swap : (g : ℕ → ℕ → ℕ) (s t : List ℕ) → sum (λ k. sum (g k) t) s ≡ sum (λ x. sum (λ k. g k x) s) t
sum_swap g [] t = sym (sum_zero t)
sum_swap g (k ∷ s) t = omega (arith, sum_swap g s t, sum_add (g k) (λ x. sum (λ k. g k x) s) t)

-- a test's two cases, with what they say
pub split : (b : Bool) → (b ≡ true) ⊎ (b ≡ false)
split true = inl refl
split false = inr refl

pub sum_keep : (p : ℕ → Bool) (f : ℕ → ℕ) (s : List ℕ) → sum (λ k. only (p k) (f k)) s ≡ sum f (keep p s)
sum_keep p f [] = refl
sum_keep p f (x ∷ xs) = go (p x) (sum_keep p f xs)
  where
    go : (b : Bool) → sum (λ k. only (p k) (f k)) xs ≡ sum f (keep p xs)
        → only b (f x) + sum (λ k. only (p k) (f k)) xs ≡ sum f (cond b (x ∷ keep p xs) (keep p xs))
    go true ih = omega arith
    go false ih = omega arith

pub mem_keep : {A : Type 0} (p : A → Bool) (u : A) (s : List A) → Memᴰ u s → p u ≡ true → Memᴰ u (keep p s)
mem_keep p u [] m e = m
mem_keep p u (x ∷ xs) m e = ⊎_elim (λ q. here (p x) (ap p (sym q) ∙ e) q) (λ r. go (p x) (mem_keep p u xs r e)) (Memᴰ.cases_cons m)
  where
    here : (b : Bool) → b ≡ true → u ≡ x → Memᴰ u (cond b (x ∷ keep p xs) (keep p xs))
    here true t q = Memᴰ.head q
    here false t q = absurd (false≢true t)

    go : (b : Bool) → Memᴰ u (keep p xs) → Memᴰ u (cond b (x ∷ keep p xs) (keep p xs))
    go true r = Memᴰ.tail r
    go false r = r

pub keep_mem : {A : Type 0} (p : A → Bool) (u : A) (s : List A) → Memᴰ u (keep p s) → Memᴰ u s × (p u ≡ true)
keep_mem p u [] m = absurd (Memᴰ.not-nil m)
keep_mem p u (x ∷ xs) m = go (p x) refl m (λ r. keep_mem p u xs r)
  where
    go : (b : Bool) → p x ≡ b → Memᴰ u (cond b (x ∷ keep p xs) (keep p xs)) → (Memᴰ u (keep p xs) → Memᴰ u xs × (p u ≡ true))
        → Memᴰ u (x ∷ xs) × (p u ≡ true)
    go true e m ih = ⊎_elim (λ q. (Memᴰ.head q, ap p q ∙ e)) (λ r. (Memᴰ.tail (ih r).0, (ih r).1)) (Memᴰ.cases_cons m)
    go false e m ih = (Memᴰ.tail (ih m).0, (ih m).1)

-- where one element passes, it is the only one
pub data One (p : ℕ → Bool) (s : List ℕ) : Type 0 where
  one : (u : ℕ) → Mem u s → p u ≡ true → keep p s ≡ u ∷ [] → One p s

pub the_one : (p : ℕ → Bool) (s : List ℕ) → count p s ≡ 1 → One p s
the_one p s h = go (keep p s) refl
  where
    go : (l : List ℕ) → keep p s ≡ l → One p s
    go [] e = absurd (omega (arith, sum_keep p (λ k. 1) s, ap (sum (λ k. 1)) e))
    go (u ∷ []) e = let m : Mem u (keep p s) = rw e (Memᴰ.head refl) in one u (keep_mem p u s m).0 (keep_mem p u s m).1 e
    go (u ∷ v ∷ l) e = absurd (omega (arith, sum_keep p (λ k. 1) s, ap (sum (λ k. 1)) e))

-- where a given one passes
pub keep_one : (p : ℕ → Bool) (s : List ℕ) (u : ℕ) → count p s ≤ 1 → Mem u s → p u ≡ true → keep p s ≡ u ∷ []
keep_one p s u h m t = go (keep p s) refl (mem_keep p u s m t)
  where
    go : (l : List ℕ) → keep p s ≡ l → Mem u l → keep p s ≡ u ∷ []
    go [] e r = absurd (Memᴰ.not-nil r)
    go (v ∷ []) e r = e ∙ ap (λ x. x ∷ []) (sym (Memᴰ.eq_of_singleton r))
    go (v ∷ w ∷ l) e r = absurd (omega (arith, sum_keep p (λ k. 1) s, ap (sum (λ k. 1)) e))

pub keep_none : (p : ℕ → Bool) (s : List ℕ) → count p s ≡ 0 → keep p s ≡ []
keep_none p s h = go (keep p s) refl
  where
    go : (l : List ℕ) → keep p s ≡ l → keep p s ≡ []
    go [] e = e
    go (v ∷ l) e = absurd (omega (arith, sum_keep p (λ k. 1) s, ap (sum (λ k. 1)) e))

pub mem_count : (p : ℕ → Bool) (s : List ℕ) (u : ℕ) → Mem u s → p u ≡ true → 1 ≤ count p s
mem_count p s u m t = go (keep p s) refl (mem_keep p u s m t)
  where
    go : (l : List ℕ) → keep p s ≡ l → Mem u l → 1 ≤ count p s
    go [] e r = absurd (Memᴰ.not-nil r)
    go (v ∷ l) e r = omega (arith, sum_keep p (λ k. 1) s, ap (sum (λ k. 1)) e)

-- Two lists in which each element of either is in the other once have the same sums.
pub sum_same : (f : ℕ → ℕ) (s t : List ℕ) → ((k : ℕ) → Mem k s → count (λ x. eqb k x) t ≡ 1) → ((x : ℕ) → Mem x t → count (λ k. eqb k x) s ≡ 1)
    → sum f s ≡ sum f t
sum_same f s t hs ht =
    sum_ext f (λ k. sum (λ x. only (eqb k x) (f k)) t) s inner
    ∙ sum_swap (λ k x. only (eqb k x) (f k)) s t
    ∙ sum_ext (λ x. sum (λ k. only (eqb k x) (f k)) s) f t outer
  where
    inner : (k : ℕ) → Mem k s → f k ≡ sum (λ x. only (eqb k x) (f k)) t
    inner k m = go (the_one (λ x. eqb k x) t (hs k m))
      where
        go : One (λ x. eqb k x) t → f k ≡ sum (λ x. only (eqb k x) (f k)) t
        go (one u _ _ e) = rw (sum_keep (λ x. eqb k x) (λ x. f k) t, e) (omega arith)

    outer : (x : ℕ) → Mem x t → sum (λ k. only (eqb k x) (f k)) s ≡ f x
    outer x m = go (the_one (λ k. eqb k x) s (ht x m))
      where
        go : One (λ k. eqb k x) s → sum (λ k. only (eqb k x) (f k)) s ≡ f x
        go (one u _ q e) = rw (sum_keep (λ k. eqb k x) f s, e) (add-zero (f u) ∙ ap f (eqb-true u x q))

pub count_mono : (p q : ℕ → Bool) → ((k : ℕ) → p k ≡ true → q k ≡ true) → (s : List ℕ) → count p s ≤ count q s
count_mono p q h [] = omega arith
count_mono p q h (x ∷ xs) = go (p x) (q x) (h x) (count_mono p q h xs)
  where
    go : (b d : Bool) → (b ≡ true → d ≡ true) → count p xs ≤ count q xs → only b 1 + count p xs ≤ only d 1 + count q xs
    go true true f ih = omega arith
    go true false f ih = absurd (false≢true (f refl))
    go false true f ih = omega arith
    go false false f ih = omega arith

-- where each element is there once at most, no two places hold the same
pub once_apart : (l : List ℕ) → ((k : ℕ) → Mem k l → count (λ x. eqb k x) l ≤ 1) → (i j : ℕ) → i < j → j < length l → get_or l i 0 ≡ get_or l j 0 → ⊥
once_apart [] h i j o p e = omega arith
once_apart (x ∷ l) h i zero o p e = omega arith
once_apart (x ∷ l) h zero (suc j) o p e =
    let m : Mem x l = rw e (entry_member l 0 j (omega arith)) in
    omega (arith, h x (Memᴰ.head refl), mem_count (λ y. eqb x y) l x m (eq-eqb x x refl), ap (λ b. only b 1) (eq-eqb x x refl))
once_apart (x ∷ l) h (suc i) (suc j) o p e = once_apart l (λ k m. omega (arith, h k (Memᴰ.tail m))) i j (omega arith) (omega arith) e

-- none passes, or one does
pub data Any (p : ℕ → Bool) (s : List ℕ) : Type 0 where
  none : count p s ≡ 0 → Any p s
  some : (u : ℕ) → Mem u s → p u ≡ true → Any p s

pub any : (p : ℕ → Bool) (s : List ℕ) → Any p s
any p [] = none refl
any p (x ∷ xs) = go (p x) refl (any p xs)
  where
    go : (b : Bool) → p x ≡ b → Any p xs → Any p (x ∷ xs)
    go true e r = some x (Memᴰ.head refl) e
    go false e (none h) = none (rw (e, h))
    go false e (some u m t) = some u (Memᴰ.tail m) t
