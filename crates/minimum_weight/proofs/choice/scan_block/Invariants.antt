use Prim.Native.Nat.{◌+◌, ◌≤◌}
use mathlib.Core.Path.{◌≡◌}
use lib.ListN.{get_or}
use Rattle.triangulation.specs.Problems.{pair_weight}
use Rattle.minimum_weight.specs.Tables.{pick_below, hung_on_edge}
use Rattle.minimum_weight.proofs.choice.scan_block.Given as goal

abbrev pub invariant-loop-u : goal.invariant-loop-u
invariant-loop-u l =
    (get_or l.blocked.starts.now l.i 0 ≤ l.u) × (l.u ≤ get_or l.blocked.starts.now (l.i + 1) 0)
    × (l.p ≡ pick_below (hung_on_edge l.blocked.candidates.now l.i l.j) (λ k. get_or l.work k 0) (pair_weight l.rows.rows.now l.t) l.u)
