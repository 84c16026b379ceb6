-- How many parts wait after each turn of the loop that lists a patch (rule 3.12). Assumes nothing.
use Prim.Native.Nat.{ℕ, zero, suc, ◌+◌, ◌-◌, ◌≤◌}
use mathlib.Core.Path.{ap}
use mathlib.Core.List.{List, [], ◌∷◌}
use native.Mathlib.Omega.{arith}
use lib.ListN.{length, get_or, length-append, length-drop}
use Rattle.triangulation.specs.Triangulations.{Problem}
use Rattle.preorder.specs.declared.Part.{Part}
use Rattle.preorder.specs.Preorder.{beneath, halves, turn, parts_after, most_parts}
use Rattle.preorder.proofs.Beneath.{Beneath, one, none, either_beneath}
use Rattle.preorder.proofs.Turns.{HasTriangulation, patch_of, patch_length, going, parts_few}

-- a turn puts two parts at most for the one that it takes
beneath_length : (u i j : ℕ) → length (beneath u i j) ≤ 1
beneath_length u i j = go (either_beneath u i j)
  where
    go : Beneath u i j → length (beneath u i j) ≤ 1
    go (one far e) = omega (arith, ap length e)
    go (none near e) = omega (arith, ap length e)

turn_length : (job : Problem) (l : List Part) (u : ℕ) → length (turn job l u) ≤ length l + 1
turn_length job [] u = omega arith
turn_length job (p ∷ l) u = omega (
  arith,
  length-append (halves job p u) l,
  length-append (beneath u p.first (job.b u)) (beneath u (job.b u) p.last),
  beneath_length u p.first (job.b u),
  beneath_length u (job.b u) p.last,
)

-- after k turns at most k + 1 parts wait
one_more : (job : Problem) (l : List ℕ) (k : ℕ) → length (parts_after job l k) ≤ k + 1
unfolding parts_after
one_more job l zero = omega arith
one_more job l (suc k) = omega (arith, one_more job l k, turn_length job (parts_after job l k) (get_or l k 0))

module _ {job : Problem} (t : HasTriangulation job) where
  -- no more parts wait than triangles are still to be listed: each part that waits has a triangle
  pub no_more_wait : (k : ℕ) → length (parts_after job (patch_of t) k) ≤ length (patch_of t) - k
  no_more_wait k = omega (
    arith,
    parts_few job t.valid t.bounded (parts_after job (patch_of t) k) (going t k).whole,
    ap length (going t k).left,
    length-drop k (patch_of t),
  )

  -- so all of them have a place
  pub few_wait : (k : ℕ) → length (parts_after job (patch_of t) k) ≤ most_parts
  few_wait k = omega (arith, no_more_wait k, one_more job (patch_of t) k, patch_length t, t.bounded.few)
