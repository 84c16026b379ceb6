use mathlib.Core.Path.{◌≡◌}
use Prim.Native.Nat.{ℕ, ◌+◌, ◌-◌, ◌≤◌, ◌<◌}
use Rattle.polygon.specs.declared.Polygon.{Polygon}
use Rattle.faces.proofs.Threes.{left1, left2, left3}
use Rattle.delaunay_triangles.specs.Triangles.{inside_three, is_fourth}
use Rattle.delaunay_search.proofs.Scanning.{Scanned, Passed}
use Rattle.delaunay_triangles.proofs.Triangles.{Kept}
use Rattle.delaunay_triangles.proofs.mark_triangles.Given as goal

-- in the scan: the three is the same, and the vertex that is remembered is one
pub record Scan (p : Polygon) (a b c₀ last c i : ℕ) : Type 0 where
  pub same_c : c ≡ c₀
  pub ahead : i ≤ p.n + 1
  pub last<n : last < p.n
  pub scanned : Scanned p.n (inside_three p a b c) (i - 1)

abbrev pub invariant-loop-i : goal.invariant-loop-i
invariant-loop-i l = Scan l.rim.polygon l.a l.b l.initial.c l.last l.c l.i

abbrev pub invariant-loop-w : goal.invariant-loop-w
invariant-loop-w l = record { same_set : l.set ≡ l.initial.set; passed : Passed l.n (is_fourth l.rim.polygon l.a l.b l.c) l.w }

abbrev pub invariant-three : goal.invariant-three
invariant-three l = (l.last < l.n) × Kept l.rim.polygon l.initial.set l.set (λ P. left3 l.n P l.a l.b l.initial.c) (λ P. left3 l.n P l.a l.b l.c)

abbrev pub decreases-three : goal.decreases-three
decreases-three l = l.n - l.c

abbrev pub invariant-loop-b : goal.invariant-loop-b
invariant-loop-b l = (l.last < l.n) × Kept l.rim.polygon l.initial.set l.set (λ P. left2 l.n P l.a l.initial.b) (λ P. left2 l.n P l.a l.b)

abbrev pub invariant-loop-a : goal.invariant-loop-a
invariant-loop-a l = (l.last < l.n) × Kept l.rim.polygon l.initial.set l.set (λ P. left1 l.n P l.initial.a) (λ P. left1 l.n P l.a)
