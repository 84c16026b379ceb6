use Prim.Native.Nat.{suc, ◌-◌}
use Rattle.terms.specs.Limits.{max_vertices}
use Rattle.reader.proofs.Following.{Following}
use Rattle.reader.proofs.walk.follow_chain.Given as goal

abbrev pub invariant-loop-walk : goal.invariant-loop-walk
invariant-loop-walk l = Following l.limit l.file.bytes.now l.vertices l.normals l.walk

abbrev pub decreases-loop-walk : goal.decreases-loop-walk
decreases-loop-walk l = suc max_vertices - l.walk.n
