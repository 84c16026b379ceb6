-- The order on lists and the least of some lists. Assumes nothing.
use Prim.Native.Nat.{ℕ, ◌≤◌, ◌<◌}
use mathlib.Core.Path.{◌≡◌, refl, sym, ap, ap₂, ◌∙◌}
use mathlib.Core.Bool.{Bool, true, false, cond, false≢true}
use mathlib.Core.Logic.{◌⊎◌, inl, inr, ◌≢◌}
use mathlib.Core.List.Memᴰ
use mathlib.Core.List.{List, [], ◌∷◌, ◌++◌, Memᴰ}
use native.Mathlib.Omega.{arith}
use lib.ListN.{length}
use lib.Dec.{eqb, ltb}
use borrow.Author.Tests.{eqb-true, eqb-false, eq-eqb, ltb-true, ltb-false, lt-ltb}
use Rattle.lists.specs.Lists.{both, either}
use Rattle.triangulation.specs.Triangulations.{no_later, least}

-- what the test says of two lists that are not empty
pub data NoLater (x y : ℕ) (xs ys : List ℕ) : Type 0 where
  less : x < y → NoLater x y xs ys
  same : x ≡ y → no_later xs ys ≡ true → NoLater x y xs ys

pub no_later_cases : (x y : ℕ) (xs ys : List ℕ) → no_later (x ∷ xs) (y ∷ ys) ≡ true → NoLater x y xs ys
no_later_cases x y xs ys t = go (ltb x y) (eqb x y) refl refl t
  where
    go : (b d : Bool) → ltb x y ≡ b → eqb x y ≡ d → either b (both d (no_later xs ys)) ≡ true → NoLater x y xs ys
    go true d e f t = less (ltb-true x y e)
    go false true e f t = same (eqb-true x y f) t
    go false false e f t = absurd (false≢true t)

pub no_later_less : (x y : ℕ) (xs ys : List ℕ) → x < y → no_later (x ∷ xs) (y ∷ ys) ≡ true
no_later_less x y xs ys h = ap (λ b. either b (both (eqb x y) (no_later xs ys))) (lt-ltb x y h)

pub no_later_same : (x y : ℕ) (xs ys : List ℕ) → x ≡ y → no_later xs ys ≡ true → no_later (x ∷ xs) (y ∷ ys) ≡ true
no_later_same x y xs ys e h = go (ltb x y) (eqb x y) (no_later xs ys) (eq-eqb x y e) h
  where
    go : (b d f : Bool) → d ≡ true → f ≡ true → either b (both d f) ≡ true
    go true d f p q = refl
    go false d f p q = rw (p, q)

pub no_later_refl : (xs : List ℕ) → no_later xs xs ≡ true
no_later_refl [] = refl
no_later_refl (x ∷ xs) = no_later_same x x xs xs refl (no_later_refl xs)

pub no_later_trans : (xs ys zs : List ℕ) → no_later xs ys ≡ true → no_later ys zs ≡ true → no_later xs zs ≡ true
no_later_trans xs ys [] p q = refl
no_later_trans [] [] (z ∷ zs) p q = absurd (false≢true q)
no_later_trans (x ∷ xs) [] (z ∷ zs) p q = absurd (false≢true q)
no_later_trans [] (y ∷ ys) (z ∷ zs) p q = absurd (false≢true p)
no_later_trans (x ∷ xs) (y ∷ ys) (z ∷ zs) p q = go (λ a b. no_later_trans xs ys zs a b) (no_later_cases x y xs ys p) (no_later_cases y z ys zs q)
  where
    go : (no_later xs ys ≡ true → no_later ys zs ≡ true → no_later xs zs ≡ true) → NoLater x y xs ys → NoLater y z ys zs → no_later (x ∷ xs) (z ∷ zs) ≡ true
    go ih (less a) (less b) = no_later_less x z xs zs (omega arith)
    go ih (less a) (same b h) = no_later_less x z xs zs (omega arith)
    go ih (same a h) (less b) = no_later_less x z xs zs (omega arith)
    go ih (same a h) (same b k) = no_later_same x z xs zs (a ∙ b) (ih h k)

pub no_later_antisym : (xs ys : List ℕ) → no_later xs ys ≡ true → no_later ys xs ≡ true → xs ≡ ys
no_later_antisym [] [] p q = refl
no_later_antisym (x ∷ xs) [] p q = absurd (false≢true q)
no_later_antisym [] (y ∷ ys) p q = absurd (false≢true p)
no_later_antisym (x ∷ xs) (y ∷ ys) p q = go (λ a b. no_later_antisym xs ys a b) (no_later_cases x y xs ys p) (no_later_cases y x ys xs q)
  where
    go : (no_later xs ys ≡ true → no_later ys xs ≡ true → xs ≡ ys) → NoLater x y xs ys → NoLater y x ys xs → x ∷ xs ≡ y ∷ ys
    go ih (less a) (less b) = absurd (omega arith)
    go ih (less a) (same b h) = absurd (omega arith)
    go ih (same a h) (less b) = absurd (omega arith)
    go ih (same a h) (same b k) = ap₂ (λ u v. u ∷ v) a (ih h k)

pub no_later_total : (xs ys : List ℕ) → no_later xs ys ≡ false → no_later ys xs ≡ true
no_later_total xs [] p = absurd (false≢true (sym p))
no_later_total [] (y ∷ ys) p = refl
no_later_total (x ∷ xs) (y ∷ ys) p = go (ltb x y) (eqb x y) refl refl p (λ h. no_later_total xs ys h)
  where
    go : (b d : Bool) → ltb x y ≡ b → eqb x y ≡ d → either b (both d (no_later xs ys)) ≡ false → (no_later xs ys ≡ false → no_later ys xs ≡ true) →
        no_later (y ∷ ys) (x ∷ xs) ≡ true
    go true d e f t ih = absurd (false≢true (sym t))
    go false true e f t ih = no_later_same y x ys xs (sym (eqb-true x y f)) (ih t)
    go false false e f t ih = no_later_less y x ys xs (let h : y ≤ x = ltb-false x y e in let k : x ≢ y = eqb-false x y f in omega arith)

-- of lists with equal lengths in front
pub no_later_append : (xs ys us vs : List ℕ) → length xs ≡ length ys → no_later xs ys ≡ true → no_later us vs ≡ true → no_later (xs ++ us) (ys ++ vs) ≡ true
no_later_append [] [] us vs e p q = q
no_later_append [] (y ∷ ys) us vs e p q = absurd (omega arith)
no_later_append (x ∷ xs) [] us vs e p q = absurd (omega arith)
no_later_append (x ∷ xs) (y ∷ ys) us vs e p q = go (no_later_cases x y xs ys p) (λ h. no_later_append xs ys us vs (omega arith) h q)
  where
    go : NoLater x y xs ys → (no_later xs ys ≡ true → no_later (xs ++ us) (ys ++ vs) ≡ true) → no_later (x ∷ (xs ++ us)) (y ∷ (ys ++ vs)) ≡ true
    go (less a) ih = no_later_less x y (xs ++ us) (ys ++ vs) a
    go (same a h) ih = no_later_same x y (xs ++ us) (ys ++ vs) a (ih h)

pub least_le : (ks : List (List ℕ)) (y : List ℕ) → Memᴰ y ks → no_later (least ks) y ≡ true
least_le [] y m = absurd (Memᴰ.not-nil m)
least_le (x ∷ xs) y m = go (no_later x (least xs)) refl (Memᴰ.cases_cons m) (λ r. least_le xs y r)
  where
    go : (b : Bool) → no_later x (least xs) ≡ b → (y ≡ x) ⊎ Memᴰ y xs → (Memᴰ y xs → no_later (least xs) y ≡ true) →
        no_later (cond b x (least xs)) y ≡ true
    go true e (inl q) ih = rw q (no_later_refl x)
    go true e (inr r) ih = no_later_trans x (least xs) y e (ih r)
    go false e (inl q) ih = rw q (no_later_total x (least xs) e)
    go false e (inr r) ih = ih r

pub least_mem : (x : List ℕ) (xs : List (List ℕ)) → Memᴰ (least (x ∷ xs)) (x ∷ xs)
least_mem x [] = Memᴰ.head refl
least_mem x (z ∷ xs) = go (no_later x (least (z ∷ xs))) (least_mem z xs)
  where
    go : (b : Bool) → Memᴰ (least (z ∷ xs)) (z ∷ xs) → Memᴰ (cond b x (least (z ∷ xs))) (x ∷ z ∷ xs)
    go true ih = Memᴰ.head refl
    go false ih = Memᴰ.tail ih

pub least_is : (ks : List (List ℕ)) (k : List ℕ) → Memᴰ k ks → ((y : List ℕ) → Memᴰ y ks → no_later k y ≡ true) → least ks ≡ k
least_is [] k m h = absurd (Memᴰ.not-nil m)
least_is (x ∷ xs) k m h = no_later_antisym _ _ (least_le (x ∷ xs) k m) (h _ (least_mem x xs))

pub least_none : (ks : List (List ℕ)) → ((y : List ℕ) → Memᴰ y ks → ⊥) → least ks ≡ []
least_none [] h = refl
least_none (x ∷ xs) h = absurd (h x (Memᴰ.head refl))
