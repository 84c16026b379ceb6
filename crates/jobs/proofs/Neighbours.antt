-- A test of the first element, and one of each pair of neighbours that tests the second of them too, as one test of each place. Assumes nothing.
use mathlib.Core.Path.{◌≡◌, sym, ap, ◌∙◌}
use mathlib.Core.Bool.{Bool, true, false}
use mathlib.Core.List.{List}
use Prim.Native.Nat.{ℕ, zero, suc, ◌-◌, ◌≤◌, ◌<◌}
use native.Mathlib.Omega.{arith}
use lib.Dec.{eqb}
use lib.ListN.{length, get_or}
use borrow.Author.Tests.{ne_eqb}
use Rattle.std.specs.List.{IsAllAdjacentAnswer}
use Rattle.lists.specs.Lists.{both, either, every}
use Rattle.lists.proofs.Elements.{every_pair, element_and_pair}
use Rattle.lists.proofs.Ranges.{every_same, every_stop}

-- where the place is not the first, its pair's test is its own and its order
later : (z a b : Bool) → z ≡ false → either z (both a b) ≡ both a (either z b)
later z a b e = ap (λ (x : Bool). either x (both a b)) e ∙ ap (λ (x : Bool). both a (either x b)) (sym e)

module _ {A : Type 0} (test : A → Bool) (order : A → A → Bool) (d : A) (xs : List A) where
  abbrev own : ℕ → Bool
  own i = test (get_or xs i d)

  abbrev after : ℕ → Bool
  after i = order (get_or xs (i - 1) d) (get_or xs i d)

  -- the first passes, and the pairs decide
  pub first_then : {s : Bool} → (0 < length xs → own 0 ≡ true) → IsAllAdjacentAnswer (λ x y b. b ≡ both (test y) (order x y)) xs s
      → s ≡ every 0 (length xs) (element_and_pair test order d xs)
  first_then {s} first h = every_pair (λ x y. both (test y) (order x y)) d xs s h ∙ every_same 0 (length xs) _ _ same
    where
      same : (i : ℕ) → 0 ≤ i → i < length xs → either (eqb i 0) (both (own i) (after i)) ≡ both (own i) (either (eqb i 0) (after i))
      same zero l m = sym (ap (λ (b : Bool). both b true) (first m))
      same (suc k) l m = later (eqb (suc k) 0) (own (suc k)) (after (suc k)) (ne_eqb (suc k) 0 (λ (z : suc k ≡ 0). omega arith))

  -- the first does not pass
  pub first_else : {a : Bool} → a ≡ false → 0 < length xs → own 0 ≡ false → a ≡ every 0 (length xs) (element_and_pair test order d xs)
  first_else e h f =
      e ∙ sym (every_stop 0 (length xs) (element_and_pair test order d xs) h (ap (λ (b : Bool). both b (either (eqb 0 0) (after 0))) f))
