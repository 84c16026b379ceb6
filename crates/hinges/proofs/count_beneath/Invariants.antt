use mathlib.Core.Bool.{Bool}
use mathlib.Core.List.{List}
use Prim.Native.Nat.{ℕ, ◌≤◌}
use Rattle.lists.specs.Lists.{over, when}
use Rattle.lists.proofs.Counting.{Counting}
use Rattle.faces.specs.Masks.{has}
use Rattle.hinges.specs.Hinges.{beneath}
use Rattle.hinges.proofs.count_beneath.Given as goal

-- those from x on
abbrev pub from : (ℕ → ℕ → ℕ → Bool) → ℕ → ℕ → ℕ → List ℕ
from P i j x = over x j (λ x. when (P i x j) x)

abbrev pub invariant-loop-x : goal.invariant-loop-x
invariant-loop-x l = (l.count ≤ l.x) × Counting (beneath (has l.set) l.i l.j) (from (has l.set) l.i l.j l.x) l.count
