use mathlib.Core.List.{◌++◌, map}
use Prim.Native.Nat.{◌+◌, ◌≤◌}
use lib.ListN.{length}
use Rattle.lists.specs.Lists.{over}
use Rattle.lists.proofs.Writing.{Writing}
use Rattle.hinges.specs.Hinges.{ending_in}
use Rattle.dihedrals.specs.Dihedrals.{row_at, rows_on, rows_of}
use Rattle.dihedrals.proofs.Rows.{rows_at}
use Rattle.dihedrals.proofs.write_rows.Given as goal

abbrev pub invariant-loop-i : goal.invariant-loop-i
invariant-loop-i l =
    (l.i ≤ l.end) × (l.end ≤ length l.candidates) × Writing (rows_of l.fn.p l.candidates)
    (map (row_at l.fn.p l.candidates l.o) (ending_in l.candidates l.i l.end l.last)
    ++ (over (l.edge + 1) 2 (rows_at l.fn.p l.candidates l.o)
    ++ over (l.o + 1) (length l.candidates) (rows_on l.fn.p l.candidates))) l.initial.out l.initial.count l.out l.count

abbrev pub invariant-loop-edge : goal.invariant-loop-edge
invariant-loop-edge l =
    (l.edge ≤ 2) × Writing (rows_of l.fn.p l.candidates)
    (over l.edge 2 (rows_at l.fn.p l.candidates l.o) ++ over (l.o + 1) (length l.candidates) (rows_on l.fn.p l.candidates))
    l.initial.out l.initial.count l.out l.count

abbrev pub invariant-loop-o : goal.invariant-loop-o
invariant-loop-o l =
    (l.o ≤ length l.candidates)
    × Writing (rows_of l.fn.p l.candidates) (over l.o (length l.candidates) (rows_on l.fn.p l.candidates))
    l.initial.out l.initial.count l.out l.count
