use Rattle.blocks.proofs.Placing.{Placed}
use Rattle.blocks.proofs.block_starts.Given as goal

abbrev pub invariant-loop-k : goal.invariant-loop-k
invariant-loop-k l = Placed l.candidates l.start-items l.k l.passed
