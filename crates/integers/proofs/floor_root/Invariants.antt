use Prim.Native.Nat.{ℕ, ◌+◌, ◌*◌, ◌<◌}
use Rattle.integers.proofs.floor_root.Given as goal

pub record Inv (x r : ℕ) : Type 0 where
  pub over : x < (r + 1) * (r + 1)
  pub small : r < 4294967296

abbrev pub invariant-loop-r : goal.invariant-loop-r
invariant-loop-r l = Inv l.x l.r

abbrev pub decreases-loop-r : goal.decreases-loop-r
decreases-loop-r l = l.r
