use Prim.Native.Nat.{◌<◌}
use Rattle.delaunay.proofs.Flat.{CoplanarTo, CoplanarWith}
use Rattle.delaunay.proofs.is_flat.Given as goal

abbrev pub invariant-loop-seen : goal.invariant-loop-seen
invariant-loop-seen l = CoplanarWith l.pencil l.seen-items l.seen-index

abbrev pub invariant-loop-c : goal.invariant-loop-c
invariant-loop-c l = (1 < l.c) × CoplanarTo l.n l.lifted l.c
