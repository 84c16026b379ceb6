-- Tests over the places of a list, as tests of its elements and of neighbours. Assumes nothing.
use mathlib.Core.Path.{◌≡◌, refl, sym, ap, ap₂, ◌∙◌}
use mathlib.Core.Bool.{Bool, true, false}
use mathlib.Core.List.{List, [], ◌∷◌}
use Prim.Native.Nat.{ℕ, zero, suc, ◌+◌, ◌-◌, ◌≤◌, ◌<◌}
use native.Mathlib.Omega.{arith}
use native.Mathlib.Numerals.{add-one}
use lib.Dec.{eqb}
use lib.ListN.{length, get_or, take}
use Rattle.std.proofs.lemmas.List.{get_or-take, length-take-le}
use borrow.Author.Tests.{ne_eqb}
use Rattle.std.specs.Prelude.{◌&&◌}
use Rattle.std.specs.List.{list_all, range_with_len, IsAllAdjacentAnswer}
use Rattle.lists.specs.Lists.{both, either, every_from, every}
use Rattle.lists.proofs.Choice.{either_right, not_true_false, true_not_false}
use Rattle.lists.proofs.Ranges.{every_at, every_all, every_same}

and_both : (a b : Bool) → (a && b) ≡ both a b
and_both true b = refl
and_both false b = refl

either_other : (a b : Bool) → a ≡ false → either a b ≡ true → b ≡ true
either_other a b p e = sym (ap (λ (x : Bool). either x b) p) ∙ e

swap : (a b c d : Bool) → both (both a b) (both c d) ≡ both (both a c) (both b d)
swap true true c d = refl
swap true false true d = refl
swap true false false d = refl
swap false b c d = refl

module _ {A : Type 0} where
  from : (test : A → Bool) (d : A) (P : ℕ → Bool) (lo : ℕ) (xs : List A) → ((i : ℕ) → i < length xs → P (lo + i) ≡ test (get_or xs i d))
      → list_all test xs ≡ every_from P lo (length xs)
  unfolding every_from
  from test d P lo [] h = refl
  from test d P lo (x ∷ xs) h =
      and_both (test x) (list_all test xs)
      ∙ ap₂ both (sym (h 0 (omega arith)) ∙ ap P (omega arith))
      (from test d P (suc lo) xs (λ i l. ap P (omega arith) ∙ h (suc i) (omega arith)))

  -- a test of each element is a test of each place
  pub every_element : (test : A → Bool) (d : A) (xs : List A) → list_all test xs ≡ every 0 (length xs) (λ i. test (get_or xs i d))
  every_element test d xs =
      from test d (λ i. test (get_or xs i d)) 0 xs (λ i h. ap (λ (k : ℕ). test (get_or xs k d)) (omega arith))
      ∙ ap (λ (k : ℕ). every_from (λ i. test (get_or xs i d)) 0 k) (omega arith)

  -- of the first k elements alone, of the first k places
  pub every_of_first : (test : A → Bool) (d : A) (k : ℕ) (xs : List A) → k ≤ length xs
      → list_all test (take k xs) ≡ every 0 k (λ i. test (get_or xs i d))
  every_of_first test d k xs h =
      every_element test d (take k xs) ∙ ap (λ (m : ℕ). every 0 m (λ i. test (get_or (take k xs) i d))) (length-take-le k xs h)
      ∙ every_same 0 k _ _ (λ i l m. ap test (get_or-take k xs i d m))

  -- so is one of each pair of neighbours, at the place of the second
  pub every_pair : (test : A → A → Bool) (d : A) (xs : List A) (r : Bool) → IsAllAdjacentAnswer (λ x y b. b ≡ test x y) xs r
      → r ≡ every 0 (length xs) (λ i. either (eqb i 0) (test (get_or xs (i - 1) d) (get_or xs i d)))
  every_pair test d xs true h = sym (every_all 0 (length xs) _ each)
    where
      each : (i : ℕ) → 0 ≤ i → i < length xs → either (eqb i 0) (test (get_or xs (i - 1) d) (get_or xs i d)) ≡ true
      each zero l m = refl
      each (suc k) l m =
          either_right (eqb (suc k) 0) _
          (ap (λ (i : ℕ). test (get_or xs i d) (get_or xs (suc k) d)) (omega arith) ∙ ap (λ (i : ℕ). test (get_or xs k d) (get_or xs i d)) (omega arith)
          ∙ sym (h k d (omega arith)))
  every_pair test d xs false h = sym (not_true_false _ (λ e. true_not_false (at e) (sym (h.2 d))))
    where
      at : every 0 (length xs) (λ i. either (eqb i 0) (test (get_or xs (i - 1) d) (get_or xs i d))) ≡ true
          → test (get_or xs h.0 d) (get_or xs (h.0 + 1) d) ≡ true
      at e =
          ap (λ (i : ℕ). test (get_or xs i d) (get_or xs (h.0 + 1) d)) (omega arith)
          ∙ either_other (eqb (h.0 + 1) 0) _ (ne_eqb (h.0 + 1) 0 (λ (z : h.0 + 1 ≡ 0). omega arith)) (every_at 0 (length xs) _ e (h.0 + 1) (omega arith) h.1)

-- a test of each number of a range is one of each place
from_range : (test : ℕ → Bool) (lo k : ℕ) → list_all test (range_with_len lo k) ≡ every_from test lo k
unfolding every_from
from_range test lo zero = refl
from_range test lo (suc k) =
    and_both (test lo) (list_all test (range_with_len (lo + 1) k))
    ∙ ap (λ (b : Bool). both (test lo) b) (from_range test (lo + 1) k ∙ ap (λ (i : ℕ). every_from test i k) (add-one lo))

pub every_of_range : (test : ℕ → Bool) (lo hi : ℕ) → list_all test (range_with_len lo (hi - lo)) ≡ every lo hi test
every_of_range test lo hi = from_range test lo (hi - lo)

-- both tests at each place are the two tests over all places
pub every_both : (lo hi : ℕ) (P Q : ℕ → Bool) → every lo hi (λ i. both (P i) (Q i)) ≡ both (every lo hi P) (every lo hi Q)
unfolding every_from
every_both lo hi P Q = from_both lo (hi - lo)
  where
    from_both : (lo k : ℕ) → every_from (λ i. both (P i) (Q i)) lo k ≡ both (every_from P lo k) (every_from Q lo k)
    from_both lo zero = refl
    from_both lo (suc k) = ap (both (both (P lo) (Q lo))) (from_both (suc lo) k) ∙ swap (P lo) (Q lo) (every_from P (suc lo) k) (every_from Q (suc lo) k)

-- a test of each element and one of each pair of neighbours, made one after the other over the whole list
module _ {A : Type 0} (test : A → Bool) (order : A → A → Bool) (d : A) (xs : List A) where
  abbrev pair : ℕ → Bool
  pair i = either (eqb i 0) (order (get_or xs (i - 1) d) (get_or xs i d))

  abbrev pub element_and_pair : ℕ → Bool
  element_and_pair i = both (test (get_or xs i d)) (either (eqb i 0) (order (get_or xs (i - 1) d) (get_or xs i d)))

  module _ {a : Bool} (each : a ≡ list_all test xs) where
    whole : every 0 (length xs) element_and_pair ≡ both a (every 0 (length xs) pair)
    whole =
        every_both 0 (length xs) (λ i. test (get_or xs i d)) pair
        ∙ ap (λ (b : Bool). both b (every 0 (length xs) pair)) (sym (each ∙ every_element test d xs))

    pub every_then : {s : Bool} → a ≡ true → IsAllAdjacentAnswer (λ x y b. b ≡ order x y) xs s → s ≡ every 0 (length xs) element_and_pair
    every_then {s} e h = every_pair order d xs s h ∙ sym (ap (λ (b : Bool). both b (every 0 (length xs) pair)) e) ∙ sym whole

    pub every_else : a ≡ false → a ≡ every 0 (length xs) element_and_pair
    every_else e = e ∙ sym (ap (λ (b : Bool). both b (every 0 (length xs) pair)) e) ∙ sym whole
