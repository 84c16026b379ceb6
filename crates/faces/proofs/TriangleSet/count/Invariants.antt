use Rattle.lists.proofs.Counting.{Counting}
use Rattle.faces.specs.Faces.{triples_of}
use Rattle.faces.specs.Masks.{has}
use Rattle.faces.proofs.Triples.{left1, left2, left3, listed}
use Rattle.faces.proofs.TriangleSet.count.Given as goal

abbrev pub invariant-loop-k : goal.invariant-loop-k
invariant-loop-k l = Counting (triples_of l.n (has l.self)) (left3 l.n (listed (has l.self)) l.i l.j l.k) l.count

abbrev pub invariant-loop-j : goal.invariant-loop-j
invariant-loop-j l = Counting (triples_of l.n (has l.self)) (left2 l.n (listed (has l.self)) l.i l.j) l.count

abbrev pub invariant-loop-i : goal.invariant-loop-i
invariant-loop-i l = Counting (triples_of l.n (has l.self)) (left1 l.n (listed (has l.self)) l.i) l.count
