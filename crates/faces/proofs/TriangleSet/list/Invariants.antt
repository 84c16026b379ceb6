use Rattle.lists.proofs.Writing.{Writing}
use Rattle.faces.specs.Faces.{triples_of}
use Rattle.faces.specs.Masks.{has}
use Rattle.faces.proofs.Triples.{left1, left2, left3, listed}
use Rattle.faces.proofs.TriangleSet.list.Given as goal

abbrev pub invariant-loop-c : goal.invariant-loop-c
invariant-loop-c l = Writing (triples_of l.n (has l.self)) (left3 l.n (listed (has l.self)) l.a l.b l.c) l.initial.out l.initial.count l.out l.count

abbrev pub invariant-loop-b : goal.invariant-loop-b
invariant-loop-b l = Writing (triples_of l.n (has l.self)) (left2 l.n (listed (has l.self)) l.a l.b) l.initial.out l.initial.count l.out l.count

abbrev pub invariant-loop-a : goal.invariant-loop-a
invariant-loop-a l = Writing (triples_of l.n (has l.self)) (left1 l.n (listed (has l.self)) l.a) l.initial.out l.initial.count l.out l.count
