-- Loops over threes a < b < c of n vertices, by whether a test holds of one that is left; and the three that `some_three` finds. Assumes nothing.
use mathlib.Core.Path.{◌≡◌, sym, ◌∙◌, ap}
use mathlib.Core.Bool.{Bool, true, false}
use Prim.Native.Nat.{ℕ, ◌+◌, ◌≤◌, ◌<◌}
use native.Mathlib.Omega.{arith}
use Rattle.lists.specs.Lists.{either, some}
use Rattle.lists.proofs.Choice.{true_not_false}
use Rattle.lists.proofs.Ranges.{some_step, some_end, some_found, some_here, some_nowhere}
use Rattle.lists.proofs.Bools.{either_assoc}
use Rattle.faces.specs.Faces.{some_three}

pub some_more : (lo hi : ℕ) (P : ℕ → Bool) (r : Bool) → lo < hi → either (some lo hi P) r ≡ either (P lo) (either (some (lo + 1) hi P) r)
some_more lo hi P r h = ap (λ (t : Bool). either t r) (some_step lo hi P h) ∙ sym (either_assoc (P lo) (some (lo + 1) hi P) r)

pub some_none_left : (lo hi : ℕ) (P : ℕ → Bool) (r : Bool) → hi ≤ lo → either (some lo hi P) r ≡ r
some_none_left lo hi P r h = ap (λ (t : Bool). either t r) (some_end lo hi P h)

-- two more corners want as many vertices
pub none_left2 : (n : ℕ) (P : ℕ → ℕ → Bool) (b : ℕ) → n ≤ b + 1 → some b n (λ b. some (b + 1) n (λ c. P b c)) ≡ false
none_left2 n P b h = some_nowhere b n _ (λ i l m e. true_not_false e (some_end (i + 1) n _ (omega arith)))

-- does P hold of a three that is left, at each loop's head?
module _ (n : ℕ) (P : ℕ → ℕ → ℕ → Bool) where
  abbrev pub left1 : ℕ → Bool
  left1 a = some a n (λ a. some (a + 1) n (λ b. some (b + 1) n (λ c. P a b c)))

  abbrev pub left2 : ℕ → ℕ → Bool
  left2 a b = either (some b n (λ b. some (b + 1) n (λ c. P a b c))) (left1 (a + 1))

  abbrev pub left3 : ℕ → ℕ → ℕ → Bool
  left3 a b c = either (some c n (λ c. P a b c)) (left2 a (b + 1))

  pub into2 : (a : ℕ) → a < n → left1 a ≡ left2 a (a + 1)
  into2 a h = some_step a n _ h

  pub into3 : (a b : ℕ) → b < n → left2 a b ≡ left3 a b (b + 1)
  into3 a b h = some_more b n _ (left1 (a + 1)) h

  pub next3 : (a b c : ℕ) → c < n → left3 a b c ≡ either (P a b c) (left3 a b (c + 1))
  next3 a b c h = some_more c n _ (left2 a (b + 1)) h

  pub out3 : (a b c : ℕ) → n ≤ c → left3 a b c ≡ left2 a (b + 1)
  out3 a b c h = some_none_left c n _ (left2 a (b + 1)) h

  -- near the end no three is left
  pub out2 : (a b : ℕ) → n ≤ b + 1 → left2 a b ≡ left1 (a + 1)
  out2 a b h = ap (λ (t : Bool). either t (left1 (a + 1))) (none_left2 n (P a) b h)

  pub out1 : (a : ℕ) → n ≤ a + 2 → left1 a ≡ false
  out1 a h = some_nowhere a n _ (λ i l m e. true_not_false e (none_left2 n (P i) (i + 1) (omega arith)))

  -- a three of the n vertices for which P holds
  pub record Three : Type 0 where
    pub a : ℕ
    pub b : ℕ
    pub c : ℕ
    pub a<b : a < b
    pub b<c : b < c
    pub c<n : c < n
    pub holds_of : P a b c ≡ true

  pub three_found : some_three n P ≡ true → Three
  three_found e =
      let fa = some_found 0 n (λ a. some (a + 1) n (λ b. some (b + 1) n (λ c. P a b c))) e in
      let fb = some_found (fa.at + 1) n (λ b. some (b + 1) n (λ c. P fa.at b c)) fa.true_at in
      let fc = some_found (fb.at + 1) n (λ c. P fa.at fb.at c) fb.true_at in
      record {
        a = fa.at;
        b = fb.at;
        c = fc.at;
        a<b = omega (arith, fb.low);
        b<c = omega (arith, fc.low);
        c<n = fc.high;
        holds_of = fc.true_at;
      }

  pub three_here : Three → some_three n P ≡ true
  three_here f =
      some_here 0 n _ f.a (omega arith) (omega (arith, f.a<b, f.b<c, f.c<n))
      (some_here (f.a + 1) n _ f.b (omega (arith, f.a<b)) (omega (arith, f.b<c, f.c<n))
      (some_here (f.b + 1) n _ f.c (omega (arith, f.b<c)) f.c<n f.holds_of))
