use mathlib.Core.Path.{◌≡◌}
use Prim.Native.Nat.{◌≤◌, ◌-◌}
use lib.ListN.{length}
use Rattle.polygon.specs.Polygon.{vertices_code_from, vertices_code}
use Rattle.polygon.proofs.check_vertices.Given as goal

-- what is left to look at decides as the whole does
abbrev pub invariant-loop-vertex : goal.invariant-loop-vertex
invariant-loop-vertex l =
    (length l.yielded ≤ l.n)
    × (vertices_code_from l.fn.vertices l.fn.normals (length l.yielded) (l.n - length l.yielded) ≡ vertices_code l.fn.vertices l.fn.normals l.n)
