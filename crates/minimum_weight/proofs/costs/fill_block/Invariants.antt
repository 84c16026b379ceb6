use Prim.Native.Nat.{◌+◌}
use mathlib.Core.Path.{◌≡◌}
use lib.ListN.{get_or}
use Rattle.minimum_weight.specs.Instances.{problem_at}
use Rattle.rows.specs.Search.{rows_before}
use Rattle.minimum_weight.proofs.Filling.{Filling}
use Rattle.minimum_weight.proofs.costs.fill_block.Given as goal

abbrev pub invariant-loop-t : goal.invariant-loop-t
invariant-loop-t l =
    Filling (problem_at l.instance) l.initial.work (get_or l.instance.starts.now l.v 0) (get_or l.instance.starts.now (l.v + 1) 0) l.t l.work
    × (l.first ≡ rows_before l.rows.rows.now l.t 0)
