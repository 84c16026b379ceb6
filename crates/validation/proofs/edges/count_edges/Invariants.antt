use lib.ListN.{take}
use Rattle.validation.specs.Edges.{Counted}
use Rattle.validation.proofs.edges.count_edges.Given as goal

abbrev pub invariant-loop-k : goal.invariant-loop-k
invariant-loop-k l = Counted l.selection.candidates.now (take l.k-index l.selection.list.now) l.between l.outside
