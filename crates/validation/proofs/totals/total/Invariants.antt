use Prim.Native.Nat.{◌≤◌, ◌*◌, ◌^◌}
use mathlib.Core.Path.{◌≡◌}
use lib.ListN.{take}
use Rattle.lists.specs.Sums.{sum}
use Rattle.triangulation.specs.Problems.{problem_from}
use Rattle.validation.proofs.Tilings.{share}
use Rattle.validation.proofs.totals.total.Given as goal

abbrev pub invariant-loop-o : goal.invariant-loop-o
invariant-loop-o l =
    (l.total ≡ sum (share (problem_from 0 l.selection.candidates.now l.weights l.rows.rows.now) l.selection.list.now) (take l.o-index l.selection.list.now)) × (l.total ≤ 2 ^ 40 * l.o-index)
