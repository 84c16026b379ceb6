-- Lists of what a function gives for each entry. Assumes nothing.
use mathlib.Core.Path.{◌≡◌, refl, ◌∙◌}
use mathlib.Core.Bool.{Bool, true, false}
use mathlib.Core.List.{List, [], ◌∷◌, ◌++◌, map, map-append}
use Prim.Native.Nat.{ℕ, zero, suc, ◌-◌, ◌<◌}
use native.Mathlib.Omega.{arith}
use lib.ListN.{length, get_or}
use Rattle.lists.specs.Lists.{over, up_from, when}

pub map_at : {A B : Type 0} (f : A → B) (l : List A) (d : A) (e : B) (i : ℕ) → i < length l → get_or (map f l) i e ≡ f (get_or l i d)
map_at f [] d e i h = absurd (omega arith)
map_at f (x ∷ l) d e zero h = refl
map_at f (x ∷ l) d e (suc i) h = map_at f l d e i (omega arith)

module _ {B : Type 0} (f : ℕ → B) (P : ℕ → Bool) where
  map_up_when : (lo k : ℕ) → map f (up_from (λ i. when (P i) i) lo k) ≡ up_from (λ i. when (P i) (f i)) lo k
  unfolding up_from
  map_up_when lo zero = refl
  map_up_when lo (suc k) = map-append f (when (P lo) lo) (up_from (λ i. when (P i) i) (suc lo) k) ∙ (λ j. one (P lo) j ++ map_up_when (suc lo) k j)
    where
      one : (b : Bool) → map f (when b lo) ≡ when b (f lo)
      one true = refl
      one false = refl

  -- of the numbers of a range for which P holds
  pub map_over_when : (lo hi : ℕ) → map f (over lo hi (λ i. when (P i) i)) ≡ over lo hi (λ i. when (P i) (f i))
  map_over_when lo hi = map_up_when lo (hi - lo)
