-- A test that the first numbers pass and no others: how many pass it is where it turns. Assumes nothing.
use Prim.Native.Nat.{ℕ, zero, suc, ◌≤◌, ◌<◌}
use mathlib.Core.Path.{◌≡◌, ap, subst}
use mathlib.Core.Bool.{Bool, true, false}
use mathlib.Core.Logic.{⊎_elim}
use mathlib.Core.List.{List, [], ◌∷◌}
use native.Mathlib.Omega.{arith}
use native.Mathlib.Nat.{eq-or-lt_of_le}
use lib.ListN.{length, length-append}
use Rattle.lists.specs.Lists.{over, when}
use Rattle.lists.specs.Counts.{how_many}
use Rattle.lists.proofs.Choice.{yes, no, Truth, holds, fails, truth}
use Rattle.lists.proofs.Ranges.{over_length}
use Rattle.lists.proofs.Parts.{over_split, over_same, over_empty}

-- the numbers below r pass the test, those from r to n do not
pub record Front (P : ℕ → Bool) (n r : ℕ) : Type 0 where
  pub within : r ≤ n
  pub before : (i : ℕ) → i < r → P i ≡ true
  pub after : (i : ℕ) → r ≤ i → i < n → P i ≡ false

module _ {P : ℕ → Bool} where
  pub front_count : {n r : ℕ} → Front P n r → r ≡ how_many n P
  front_count {n} {r} f =
      let g : ℕ → List ℕ = λ i. when (P i) i in
      omega (
        arith,
        ap length (over_split g 0 r n (omega arith) f.within),
        length-append (over 0 r g) (over r n g),
        ap length (over_same 0 r g (λ i. i ∷ []) (λ i _ h. yes (i ∷ []) [] (f.before i h))),
        over_length 0 r (λ i. i),
        ap length (over_empty g r n (λ i l h. no (i ∷ []) [] (f.after i l h))),
      )

  counted : {n r : ℕ} → Front P n r → Front P n (how_many n P)
  counted {n} f = subst (Front P n) (front_count f) f

  -- so it is where a number passes only if all below it do
  pub front_of : (n : ℕ) → ((i j : ℕ) → i < j → j < n → P j ≡ true → P i ≡ true) → Front P n (how_many n P)
  front_of zero down = counted {r = 0} (record { within = omega arith; before = λ i h. absurd (omega arith); after = λ i l h. absurd (omega arith) })
  front_of (suc n) down = go (truth (P n)) (front_of n (λ i j h l. down i j h (omega arith)))
    where
      go : Truth (P n) → Front P n (how_many n P) → Front P (suc n) (how_many (suc n) P)
      go (holds t) f = counted {r = suc n} (record {
        within = omega arith;
        before = λ i h. ⊎_elim (λ e. rw e t) (λ l. down i n l (omega arith) t) (eq-or-lt_of_le (let z : i ≤ n = omega arith in z));
        after = λ i l h. absurd (omega arith);
      })
      go (fails t) f = counted (record {
        within = omega (arith, f.within);
        before = f.before;
        after = λ i l h. ⊎_elim (λ e. rw e t) (λ m. f.after i l m) (eq-or-lt_of_le (let z : i ≤ n = omega arith in z));
      })
