-- The part beneath an edge, and none beneath a rim edge (i, i + 1). Assumes nothing.
use Prim.Native.Nat.{ℕ, ◌+◌, ◌≤◌, ◌<◌}
use mathlib.Core.Path.{◌≡◌}
use mathlib.Core.List.{[], ◌∷◌}
use lib.Dec.{ltb}
use borrow.Author.Tests.{ltb-true, ltb-false, lt-ltb, le-ltb}
use Rattle.lists.proofs.Choice.{Truth, holds, fails, truth, yes, no}
use Rattle.preorder.specs.Preorder.{part_under, beneath}

module _ (u i j : ℕ) where
  pub one_beneath : i + 1 < j → beneath u i j ≡ part_under u i j ∷ []
  one_beneath h = yes (part_under u i j ∷ []) [] (lt-ltb (i + 1) j h)

  pub none_beneath : j ≤ i + 1 → beneath u i j ≡ []
  none_beneath h = no (part_under u i j ∷ []) [] (le-ltb (i + 1) j h)

  -- one of the two
  pub data Beneath : Type 0 where
    one : i + 1 < j → beneath u i j ≡ part_under u i j ∷ [] → Beneath
    none : j ≤ i + 1 → beneath u i j ≡ [] → Beneath

  pub either_beneath : Beneath
  either_beneath = go (truth (ltb (i + 1) j))
    where
      go : Truth (ltb (i + 1) j) → Beneath
      go (holds e) = let h = ltb-true (i + 1) j e in one h (one_beneath h)
      go (fails e) = let h = ltb-false (i + 1) j e in none h (none_beneath h)
