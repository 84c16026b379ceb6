use mathlib.Core.Path.{◌≡◌}
use Prim.Native.Nat.{◌-◌}
use Rattle.faces.proofs.Fours.{left1, left2, left3, left4}
use Rattle.delaunay_tetrahedra.specs.Tetrahedra.{is_fifth}
use Rattle.delaunay_search.proofs.Scanning.{Passed}
use Rattle.delaunay_tetrahedra.proofs.Tetrahedra.{Hints, Scan, Kept}
use Rattle.delaunay_tetrahedra.proofs.mark_tetrahedra.Given as goal

abbrev pub invariant-loop-i : goal.invariant-loop-i
invariant-loop-i l = Scan l.rim.polygon l.a l.b l.initial.c l.initial.d l.last l.apex l.c l.d l.i

abbrev pub invariant-loop-v : goal.invariant-loop-v
invariant-loop-v l = record { same_set : l.set ≡ l.initial.set; passed : Passed l.rim.polygon.n (is_fifth l.rim.polygon l.a l.b l.c l.d) l.v }

abbrev pub invariant-four : goal.invariant-four
invariant-four l = (l.c ≡ l.initial.c) × Hints l.n l.last l.apex
    × Kept l.rim.polygon l.initial.set l.set (λ P. left4 l.n P l.a l.b l.initial.c l.initial.d) (λ P. left4 l.n P l.a l.b l.c l.d)

abbrev pub decreases-four : goal.decreases-four
decreases-four l = l.n - l.d

abbrev pub invariant-three : goal.invariant-three
invariant-three l = Hints l.n l.last l.apex × Kept l.rim.polygon l.initial.set l.set (λ P. left3 l.n P l.a l.b l.initial.c) (λ P. left3 l.n P l.a l.b l.c)

abbrev pub decreases-three : goal.decreases-three
decreases-three l = l.n - l.c

abbrev pub invariant-loop-b : goal.invariant-loop-b
invariant-loop-b l = Hints l.n l.last l.apex × Kept l.rim.polygon l.initial.set l.set (λ P. left2 l.n P l.a l.initial.b) (λ P. left2 l.n P l.a l.b)

abbrev pub invariant-loop-a : goal.invariant-loop-a
invariant-loop-a l = Hints l.n l.last l.apex × Kept l.rim.polygon l.initial.set l.set (λ P. left1 l.n P l.initial.a) (λ P. left1 l.n P l.a)
