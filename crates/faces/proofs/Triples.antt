-- Loops over triples a < b < c of n vertices that make a list in order, by what is left of it at each loop's head. Assumes nothing.
use mathlib.Core.Path.{◌≡◌, sym, ◌∙◌, ap}
use mathlib.Core.Bool.{Bool, cond}
use mathlib.Core.List.{List, [], ◌++◌, flat_map}
use Prim.Native.Nat.{ℕ, ◌+◌, ◌≤◌, ◌<◌}
use native.Mathlib.Omega.{arith}
use lib.ListN.{length}
use Rattle.lists.specs.Lists.{over, when}
use Rattle.lists.proofs.Ranges.{over_step, over_more, over_end, over_none}
use Rattle.lists.proofs.Parts.{over_same, over_lengths}
use Rattle.lists.proofs.Flattening.{flat_over, flat_when}
use Rattle.terms.specs.Entries.{triple}
use Rattle.faces.specs.Faces.{triples_of}

module _ {A : Type 0} (n : ℕ) (f : ℕ → ℕ → ℕ → List A) where
  abbrev pub left1 : ℕ → List A
  left1 a = over a n (λ a. over (a + 1) n (λ b. over (b + 1) n (λ c. f a b c)))

  abbrev pub left2 : ℕ → ℕ → List A
  left2 a b = over b n (λ b. over (b + 1) n (λ c. f a b c)) ++ left1 (a + 1)

  abbrev pub left3 : ℕ → ℕ → ℕ → List A
  left3 a b c = over c n (λ c. f a b c) ++ left2 a (b + 1)

  pub into2 : (a : ℕ) → a < n → left1 a ≡ left2 a (a + 1)
  into2 a h = over_step a n _ h

  pub into3 : (a b : ℕ) → b < n → left2 a b ≡ left3 a b (b + 1)
  into3 a b h = over_more b n _ (left1 (a + 1)) h

  pub next3 : (a b c : ℕ) → c < n → left3 a b c ≡ f a b c ++ left3 a b (c + 1)
  next3 a b c h = over_more c n _ (left2 a (b + 1)) h

  pub out3 : (a b c : ℕ) → n ≤ c → left3 a b c ≡ left2 a (b + 1)
  out3 a b c h = over_none c n _ (left2 a (b + 1)) h

  pub out2 : (a b : ℕ) → n ≤ b → left2 a b ≡ left1 (a + 1)
  out2 a b h = over_none b n _ (left1 (a + 1)) h

  pub out1 : (a : ℕ) → n ≤ a → left1 a ≡ []
  out1 a h = over_end a n _ h

-- the triples for which P holds
abbrev pub listed : (ℕ → ℕ → ℕ → Bool) → ℕ → ℕ → ℕ → List (List ℕ)
listed P a b c = when (P a b c) (triple a b c)

pub next_listed : (n : ℕ) (P : ℕ → ℕ → ℕ → Bool) (a b c : ℕ) {t : Bool} → c < n → t ≡ P a b c →
    left3 n (listed P) a b c ≡ when t (triple a b c) ++ left3 n (listed P) a b (c + 1)
next_listed n P a b c h e = next3 n (listed P) a b c h ∙ ap (λ (t : Bool). when t (triple a b c) ++ left3 n (listed P) a b (c + 1)) (sym e)

-- what the listed triples give, one after the other
pub flat_triples : {A : Type 0} (f : List ℕ → List A) (n : ℕ) (P : ℕ → ℕ → ℕ → Bool) →
    flat_map f (triples_of n P) ≡ left1 n (λ a b c. cond (P a b c) (f (triple a b c)) []) 0
flat_triples f n P =
    flat_over f 0 n _ ∙ over_same 0 n _ _ (λ a l m.
    flat_over f (a + 1) n _ ∙ over_same (a + 1) n _ _ (λ b l m.
    flat_over f (b + 1) n _ ∙ over_same (b + 1) n _ _ (λ c l m. flat_when f (P a b c) (triple a b c))))

pub left_lengths : {A B : Type 0} (n : ℕ) (f : ℕ → ℕ → ℕ → List A) (g : ℕ → ℕ → ℕ → List B) →
    ((a b c : ℕ) → a < b → b < c → c < n → length (f a b c) ≡ length (g a b c)) → length (left1 n f 0) ≡ length (left1 n g 0)
left_lengths n f g h =
    over_lengths _ _ 0 n (λ a l m. over_lengths _ _ (a + 1) n (λ b l' m'. over_lengths _ _ (b + 1) n (λ c l'' m''.
    h a b c (omega arith) (omega arith) m'')))
