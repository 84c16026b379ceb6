-- Lists and tests over a range of numbers, taken from the front, and what such a test says of each number. Assumes nothing.
use mathlib.Core.Path.{◌≡◌, refl, sym, ◌∙◌, ap, ap₂}
use mathlib.Core.Bool.{Bool, true, false}
use mathlib.Core.List.{List, [], ◌∷◌, ◌++◌, append_assoc, append-nil}
use mathlib.Core.Logic.{⊎_elim}
use Prim.Native.Nat.{ℕ, zero, suc, ◌+◌, ◌*◌, ◌-◌, ◌≤◌, ◌<◌}
use native.Mathlib.Nat.{sub-eq-zero_of_le}
use native.Mathlib.Numerals.{add-one}
use native.Mathlib.Omega.{arith}
use lib.ListN.{length, get_or, length-append}
use Rattle.lists.specs.Lists.{up_from, over, when, both, either, every_from, every, some_from, some}
use Rattle.lists.proofs.Choice.{true_not_false, both_left, both_right, both_true, either_left}
use Rattle.lists.proofs.Choice.{either_cases, either_neither, not_false_true, not_true_false}

module _ {A : Type 0} where
  up_step : (f : ℕ → List A) (lo k m : ℕ) → k ≡ suc m → up_from f lo k ≡ f lo ++ up_from f (lo + 1) m
  unfolding up_from
  up_step f lo k m e = ap (λ (x : ℕ). up_from f lo x) e ∙ ap (λ (x : ℕ). f lo ++ up_from f x m) (sym (add-one lo))

  pub over_step : (lo hi : ℕ) (f : ℕ → List A) → lo < hi → over lo hi f ≡ f lo ++ over (lo + 1) hi f
  over_step lo hi f h = up_step f lo (hi - lo) (hi - (lo + 1)) (omega arith)

  pub over_end : (lo hi : ℕ) (f : ℕ → List A) → hi ≤ lo → over lo hi f ≡ []
  unfolding up_from
  over_end lo hi f h = ap (λ (x : ℕ). up_from f lo x) (sub-eq-zero_of_le h)

  pub over_more : (lo hi : ℕ) (f : ℕ → List A) (r : List A) → lo < hi → over lo hi f ++ r ≡ f lo ++ (over (lo + 1) hi f ++ r)
  over_more lo hi f r h = ap (λ (x : List A). x ++ r) (over_step lo hi f h) ∙ append_assoc (f lo) (over (lo + 1) hi f) r

  pub over_none : (lo hi : ℕ) (f : ℕ → List A) (r : List A) → hi ≤ lo → over lo hi f ++ r ≡ r
  over_none lo hi f r h = ap (λ (x : List A). x ++ r) (over_end lo hi f h)

  up_last : (f : ℕ → List A) (lo k : ℕ) → up_from f lo (suc k) ≡ up_from f lo k ++ f (lo + k)
  unfolding up_from
  up_last f lo zero = append-nil (f lo) ∙ ap f (omega arith)
  up_last f lo (suc k) =
      ap (λ (x : List A). f lo ++ x) (up_last f (suc lo) k ∙ ap (λ (i : ℕ). up_from f (suc lo) k ++ f i) (omega arith))
      ∙ sym (append_assoc (f lo) (up_from f (suc lo) k) (f (lo + suc k)))

  -- taken from the end
  pub over_last : (lo hi : ℕ) (f : ℕ → List A) → lo ≤ hi → over lo (hi + 1) f ≡ over lo hi f ++ f hi
  over_last lo hi f h =
      ap (λ (k : ℕ). up_from f lo k) (omega arith) ∙ up_last f lo (hi - lo) ∙ ap (λ (i : ℕ). over lo hi f ++ f i) (omega arith)

  up_length : (g : ℕ → A) (lo k : ℕ) → length (up_from (λ i. g i ∷ []) lo k) ≡ k
  unfolding up_from
  up_length g lo zero = refl
  up_length g lo (suc k) = omega (arith, up_length g (suc lo) k)

  -- one element for each number
  pub over_length : (lo hi : ℕ) (g : ℕ → A) → length (over lo hi (λ i. g i ∷ [])) ≡ hi - lo
  over_length lo hi g = up_length g lo (hi - lo)

  up_at : (g : ℕ → A) (d : A) (lo k i : ℕ) → i < k → get_or (up_from (λ i. g i ∷ []) lo k) i d ≡ g (lo + i)
  unfolding up_from
  up_at g d lo zero i h = absurd (omega arith)
  up_at g d lo (suc k) zero h = ap g (omega arith)
  up_at g d lo (suc k) (suc i) h = up_at g d (suc lo) k i (omega arith) ∙ ap g (omega arith)

  pub over_at : (lo hi : ℕ) (g : ℕ → A) (d : A) (i : ℕ) → i < hi - lo → get_or (over lo hi (λ i. g i ∷ [])) i d ≡ g (lo + i)
  over_at lo hi g d i h = up_at g d lo (hi - lo) i h

  -- how long such a list can be
  pub up_bound : (f : ℕ → List A) (B lo k : ℕ) → ((i : ℕ) → length (f i) ≤ B) → length (up_from f lo k) ≤ k * B
  unfolding up_from
  up_bound f B lo zero h = omega arith
  up_bound f B lo (suc k) h = omega (arith, length-append (f lo) (up_from f (suc lo) k), h lo, up_bound f B (suc lo) k h, native.Mathlib.Nat.suc-mul k B)

pub when_bound : {A : Type 0} (b : Bool) (x : A) → length (when b x) ≤ 1
when_bound true x = omega arith
when_bound false x = omega arith

-- ---- every
every_up : (P : ℕ → Bool) (lo k m : ℕ) → k ≡ suc m → every_from P lo k ≡ both (P lo) (every_from P (lo + 1) m)
unfolding every_from
every_up P lo k m e = ap (λ (x : ℕ). every_from P lo x) e ∙ ap (λ (x : ℕ). both (P lo) (every_from P x m)) (sym (add-one lo))

pub every_step : (lo hi : ℕ) (P : ℕ → Bool) → lo < hi → every lo hi P ≡ both (P lo) (every (lo + 1) hi P)
every_step lo hi P h = every_up P lo (hi - lo) (hi - (lo + 1)) (omega arith)

pub every_on : (lo hi : ℕ) (P : ℕ → Bool) → lo < hi → P lo ≡ true → every lo hi P ≡ every (lo + 1) hi P
every_on lo hi P h e = every_step lo hi P h ∙ ap (λ (b : Bool). both b (every (lo + 1) hi P)) e

pub every_stop : (lo hi : ℕ) (P : ℕ → Bool) → lo < hi → P lo ≡ false → every lo hi P ≡ false
every_stop lo hi P h e = every_step lo hi P h ∙ ap (λ (b : Bool). both b (every (lo + 1) hi P)) e

pub every_end : (lo hi : ℕ) (P : ℕ → Bool) → hi ≤ lo → every lo hi P ≡ true
unfolding every_from
every_end lo hi P h = ap (λ (x : ℕ). every_from P lo x) (sub-eq-zero_of_le h)

every_from_at : (P : ℕ → Bool) (lo k : ℕ) → every_from P lo k ≡ true → (i : ℕ) → i < k → P (lo + i) ≡ true
unfolding every_from
every_from_at P lo zero e i h = absurd (omega arith)
every_from_at P lo (suc k) e zero h = ap P (omega arith) ∙ both_left (P lo) (every_from P (suc lo) k) e
every_from_at P lo (suc k) e (suc i) h =
    ap P (omega arith) ∙ every_from_at P (suc lo) k (both_right (P lo) (every_from P (suc lo) k) e) i (omega arith)

every_from_all : (P : ℕ → Bool) (lo k : ℕ) → ((i : ℕ) → i < k → P (lo + i) ≡ true) → every_from P lo k ≡ true
unfolding every_from
every_from_all P lo zero h = refl
every_from_all P lo (suc k) h =
    both_true (ap P (omega arith) ∙ h 0 (omega arith))
    (every_from_all P (suc lo) k (λ i l. ap P (omega arith) ∙ h (suc i) (omega arith)))

-- a test of every number says it of each, and the other way round
pub every_at : (lo hi : ℕ) (P : ℕ → Bool) → every lo hi P ≡ true → (i : ℕ) → lo ≤ i → i < hi → P i ≡ true
every_at lo hi P e i l h = ap P (omega arith) ∙ every_from_at P lo (hi - lo) e (i - lo) (omega arith)

pub every_all : (lo hi : ℕ) (P : ℕ → Bool) → ((i : ℕ) → lo ≤ i → i < hi → P i ≡ true) → every lo hi P ≡ true
every_all lo hi P h = every_from_all P lo (hi - lo) (λ i l. h (lo + i) (omega arith) (omega arith))

every_from_same : (P Q : ℕ → Bool) (lo k : ℕ) → ((i : ℕ) → i < k → P (lo + i) ≡ Q (lo + i)) → every_from P lo k ≡ every_from Q lo k
unfolding every_from
every_from_same P Q lo zero h = refl
every_from_same P Q lo (suc k) h =
    ap₂ both (ap P (omega arith) ∙ h 0 (omega arith) ∙ ap Q (omega arith))
    (every_from_same P Q (suc lo) k (λ i l. ap P (omega arith) ∙ h (suc i) (omega arith) ∙ ap Q (omega arith)))

-- two tests that agree on the range
pub every_same : (lo hi : ℕ) (P Q : ℕ → Bool) → ((i : ℕ) → lo ≤ i → i < hi → P i ≡ Q i) → every lo hi P ≡ every lo hi Q
every_same lo hi P Q h = every_from_same P Q lo (hi - lo) (λ i l. h (lo + i) (omega arith) (omega arith))

-- ---- some
some_up : (P : ℕ → Bool) (lo k m : ℕ) → k ≡ suc m → some_from P lo k ≡ either (P lo) (some_from P (lo + 1) m)
unfolding some_from
some_up P lo k m e = ap (λ (x : ℕ). some_from P lo x) e ∙ ap (λ (x : ℕ). either (P lo) (some_from P x m)) (sym (add-one lo))

pub some_step : (lo hi : ℕ) (P : ℕ → Bool) → lo < hi → some lo hi P ≡ either (P lo) (some (lo + 1) hi P)
some_step lo hi P h = some_up P lo (hi - lo) (hi - (lo + 1)) (omega arith)

pub some_on : (lo hi : ℕ) (P : ℕ → Bool) → lo < hi → P lo ≡ false → some lo hi P ≡ some (lo + 1) hi P
some_on lo hi P h e = some_step lo hi P h ∙ ap (λ (b : Bool). either b (some (lo + 1) hi P)) e

pub some_stop : (lo hi : ℕ) (P : ℕ → Bool) → lo < hi → P lo ≡ true → some lo hi P ≡ true
some_stop lo hi P h e = some_step lo hi P h ∙ ap (λ (b : Bool). either b (some (lo + 1) hi P)) e

pub some_end : (lo hi : ℕ) (P : ℕ → Bool) → hi ≤ lo → some lo hi P ≡ false
unfolding some_from
some_end lo hi P h = ap (λ (x : ℕ). some_from P lo x) (sub-eq-zero_of_le h)

some_from_none : (P : ℕ → Bool) (lo k : ℕ) → some_from P lo k ≡ false → (i : ℕ) → i < k → P (lo + i) ≡ true → ⊥
unfolding some_from
some_from_none P lo zero e i h p = omega arith
some_from_none P lo (suc k) e zero h p = true_not_false (either_left (P lo) (some_from P (suc lo) k) (ap P (omega arith) ∙ p)) e
some_from_none P lo (suc k) e (suc i) h p =
    some_from_none P (suc lo) k (either_neither (P lo) (some_from P (suc lo) k) e) i (omega arith) (ap P (omega arith) ∙ p)

-- a test of some number finds one, and one is found by it
pub some_none : (lo hi : ℕ) (P : ℕ → Bool) → some lo hi P ≡ false → (i : ℕ) → lo ≤ i → i < hi → P i ≡ true → ⊥
some_none lo hi P e i l h p = some_from_none P lo (hi - lo) e (i - lo) (omega arith) (ap P (omega arith) ∙ p)

pub some_here : (lo hi : ℕ) (P : ℕ → Bool) (i : ℕ) → lo ≤ i → i < hi → P i ≡ true → some lo hi P ≡ true
some_here lo hi P i l h p = not_false_true _ (λ e. some_none lo hi P e i l h p)

-- a number of the range at which the test holds
pub record Found (lo hi : ℕ) (P : ℕ → Bool) : Type 0 where
  pub at : ℕ
  pub low : lo ≤ at
  pub high : at < hi
  pub true_at : P at ≡ true

some_from_found : (P : ℕ → Bool) (lo k : ℕ) → some_from P lo k ≡ true → Found lo (lo + k) P
unfolding some_from
some_from_found P lo zero e = absurd (true_not_false e refl)
some_from_found P lo (suc k) e =
    ⊎_elim (λ p. record { at = lo; low = omega arith; high = omega arith; true_at = p })
    (λ r. let f = some_from_found P (suc lo) k r in record { at = f.at; low = omega (arith, f.low); high = omega (arith, f.high); true_at = f.true_at })
    (either_cases (P lo) (some_from P (suc lo) k) e)

pub some_found : (lo hi : ℕ) (P : ℕ → Bool) → some lo hi P ≡ true → Found lo hi P
some_found lo hi P e =
    let f = some_from_found P lo (hi - lo) e in
    go f (hi - lo) refl
  where
    go : Found lo (lo + (hi - lo)) P → (k : ℕ) → hi - lo ≡ k → Found lo hi P
    go f zero z = record { at = f.at; low = f.low; high = absurd (omega (arith, f.low, f.high)); true_at = f.true_at }
    go f (suc k) z = record { at = f.at; low = f.low; high = omega (arith, f.low, f.high); true_at = f.true_at }

pub some_nowhere : (lo hi : ℕ) (P : ℕ → Bool) → ((i : ℕ) → lo ≤ i → i < hi → P i ≡ true → ⊥) → some lo hi P ≡ false
some_nowhere lo hi P h = not_true_false _ (λ e. let f = some_found lo hi P e in h f.at f.low f.high f.true_at)
