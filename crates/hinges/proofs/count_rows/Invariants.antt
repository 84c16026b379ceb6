use Rattle.lists.proofs.Counting.{Counting}
use Rattle.faces.specs.Masks.{has}
use Rattle.faces.proofs.Triples.{left1, left2, left3}
use Rattle.hinges.proofs.Counts.{hung}
use Rattle.hinges.proofs.count_rows.Given as goal

abbrev pub invariant-loop-c : goal.invariant-loop-c
invariant-loop-c l = Counting (left1 l.n (hung (has l.set)) 0) (left3 l.n (hung (has l.set)) l.a l.b l.c) l.count

abbrev pub invariant-loop-b : goal.invariant-loop-b
invariant-loop-b l = Counting (left1 l.n (hung (has l.set)) 0) (left2 l.n (hung (has l.set)) l.a l.b) l.count

abbrev pub invariant-loop-a : goal.invariant-loop-a
invariant-loop-a l = Counting (left1 l.n (hung (has l.set)) 0) (left1 l.n (hung (has l.set)) l.a) l.count
