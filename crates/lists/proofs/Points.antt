-- Where a test turns that the first elements of a list pass and no others: the place that a search answers. Assumes nothing.
use Prim.Native.Nat.{ℕ, zero, suc, ◌+◌, ◌-◌, ◌≤◌, ◌<◌}
use mathlib.Core.Path.{◌≡◌, refl, sym, ap, ◌∙◌}
use mathlib.Core.Bool.{Bool, true, false}
use mathlib.Core.Logic.{⊎_elim}
use mathlib.Core.List.{List}
use native.Mathlib.Omega.{arith}
use native.Mathlib.Nat.{eq-or-lt_of_le}
use lib.ListN.{length, get_or, drop, length-drop}
use lib.Seq.{get_or-drop}
use Rattle.std.proofs.lemmas.List.{get_or_default}
use Rattle.std.proofs.lemmas.List.Sums.{prefix_len-le-length, prefix_len_passes, prefix_len_stops}
use Rattle.std.specs.List.{prefix_len}
use Rattle.std.specs.List.Sorted.{IsPartitionedBy, IsPartitionPoint}
use Rattle.lists.specs.Counts.{how_many}
use Rattle.lists.proofs.Choice.{not_true_false, true_not_false}
use Rattle.lists.proofs.Fronts.{front_count}

module _ {A : Type 0} (p : A → Bool) (xs : List A) (e : A) where
  -- an element that passes has only such before it
  pub partitioned : ((i j : ℕ) → i < j → j < length xs → p (get_or xs j e) ≡ true → p (get_or xs i e) ≡ true) → IsPartitionedBy p xs
  partitioned down i j d l h t =
      ⊎_elim (λ (q : i ≡ j). rw q t)
      (λ (m : i < j). ap p (get_or_default xs i d e (omega arith)) ∙ down i j m h (ap p (get_or_default xs j e d h) ∙ t)) (eq-or-lt_of_le l)

  -- as many pass as there are before the place where the test turns
  pub point_count : {r : ℕ} → r ≤ length xs → IsPartitionPoint (λ y. p y ≡ true) (λ y. p y ≡ false) xs r → r ≡ how_many (length xs) (λ k. p (get_or xs k e))
  point_count w point =
      front_count (record { within = w; before = λ i h. point.0 i e (omega arith) h; after = λ i l h. point.1 i e l h })

  module _ (start : ℕ) (passed : (i : ℕ) → i < start → p (get_or xs i e) ≡ true) where
    -- where the elements before `start` pass, those on from it that pass one after the other
    pub prefix_passes : (k : ℕ) → k < start + prefix_len p (drop start xs) → p (get_or xs k e) ≡ true
    prefix_passes k h = go (start - k) refl
      where
        go : (d : ℕ) → start - k ≡ d → p (get_or xs k e) ≡ true
        go zero z =
            let at : start + (k - start) ≡ k = omega arith in
            ap p (ap (λ m. get_or xs m e) (sym at) ∙ sym (get_or-drop start xs (k - start) e))
            ∙ prefix_len_passes p (drop start xs) (k - start) e (omega arith)
        go (suc d) z = passed k (omega arith)

    -- and with them as many pass as there are
    pub prefix_count : ((i j : ℕ) → i < j → j < length xs → p (get_or xs j e) ≡ true → p (get_or xs i e) ≡ true) → start ≤ length xs
        → start + prefix_len p (drop start xs) ≡ how_many (length xs) (λ k. p (get_or xs k e))
    prefix_count down w = front_count (record {
      within = omega (arith, length-drop start xs, prefix_len-le-length p (drop start xs));
      before = prefix_passes;
      after = λ k l h. ⊎_elim (λ (q : start + prefix_len p (drop start xs) ≡ k). rw (← q) (stops (omega arith)))
          (λ (m : start + prefix_len p (drop start xs) < k). not_true_false _ (λ t. true_not_false (down _ k m h t) (stops (omega arith)))) (eq-or-lt_of_le l);
    })
      where
        stops : start + prefix_len p (drop start xs) < length xs → p (get_or xs (start + prefix_len p (drop start xs)) e) ≡ false
        stops h =
            ap p (sym (get_or-drop start xs (prefix_len p (drop start xs)) e))
            ∙ prefix_len_stops p (drop start xs) e (omega (arith, length-drop start xs))
