use Prim.Native.Nat.{◌≤◌, ◌*◌, ◌^◌}
use mathlib.Core.Path.{◌≡◌}
use lib.ListN.{take}
use Rattle.lists.specs.Sums.{sum}
use Rattle.validation.specs.Totals.{hanging_row}
use Rattle.validation.proofs.totals.hanging_rows.Given as goal

abbrev pub invariant-loop-i : goal.invariant-loop-i
invariant-loop-i l = (l.total ≡ sum (hanging_row l.selection.candidates.now l.rows.rows.now l.o) (take l.i-index l.selection.list.now)) × (l.total ≤ 2 ^ 32 * l.i-index)
