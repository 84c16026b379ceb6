use mathlib.Core.Path.{◌≡◌}
use mathlib.Core.Bool.{Bool}
use mathlib.Core.List.{List}
use Prim.Native.Nat.{ℕ, ◌≤◌}
use Rattle.grid.specs.declared.GridPoint.{GridPoint}
use Rattle.lists.specs.Lists.{some}
use Rattle.polygon.specs.Polygon.{vertex_at, same_point, repeated_vertex}
use Rattle.polygon.proofs.has_repeated_vertex.Given as goal

-- is vertex j an earlier one's point
abbrev pub again : List GridPoint → ℕ → Bool
again vertices j = some 0 j (λ i. same_point (vertex_at vertices i) (vertex_at vertices j))

-- what is left to look at decides as the whole does
abbrev pub invariant-loop-j : goal.invariant-loop-j
invariant-loop-j l = (l.j ≤ l.n) × (some l.j l.n (again l.fn.vertices) ≡ repeated_vertex l.fn.vertices l.n)
