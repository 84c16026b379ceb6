use Prim.Native.Nat.{◌≤◌}
use lib.ListN.{get_or}
use Rattle.minimum_weight.specs.Instances.{problem_at}
use Rattle.minimum_weight.specs.Tables.{Filled}
use Rattle.minimum_weight.proofs.costs.fill.Given as goal

abbrev pub invariant-loop-v : goal.invariant-loop-v
invariant-loop-v l = (l.v ≤ l.instance.job.n) × Filled (problem_at l.instance) l.initial.work (get_or l.instance.starts.now l.v 0) l.work
