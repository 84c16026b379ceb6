use mathlib.Core.List.{map}
use lib.ListN.{drop}
use Rattle.lists.proofs.Writing.{Writing}
use Rattle.weights.specs.Weights.{own_weight, weights_of}
use Rattle.weights.proofs.write_weights.Given as goal

abbrev pub invariant-loop-i : goal.invariant-loop-i
invariant-loop-i l =
    Writing (weights_of l.fn.rim.polygon l.candidates) (map (own_weight l.fn.rim.polygon) (drop l.i l.candidates)) l.initial.weights 0 l.weights l.i
