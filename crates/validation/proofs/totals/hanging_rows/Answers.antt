-- `validation::totals::hanging_rows` meets its contract. Assumes nothing.
use Rattle.std.proofs.Common.{arith}
use Rattle.validation.specs.Totals.{hanging_row}
use Rattle.validation.proofs.EdgeCounts.{triangle_at_lem}
use Rattle.validation.proofs.Fronts.{sum_with}
use Rattle.validation.proofs.Hanging.{row_hangs, row_apart}
use Rattle.validation.proofs.totals.hanging_rows.Goals.{then-hangs_on, else-hangs_on}
use Rattle.validation.proofs.totals.hanging_rows.Goals as goal

pub bounds-selection-i : goal.bounds-selection-i
bounds-selection-i c = (triangle_at_lem _ _ c.args.selection.now.triangles c.loop-i.i-index c.loop-i-test.true _ c.from-i.ensures).there

pub loop-i-preserved : goal.loop-i-preserved
loop-i-preserved c =
    let a = c.args in
    let next = sum_with (hanging_row a.selection.now.candidates.now a.rows.now.rows.now a.o) a.selection.now.list.now c.loop-i.i-index c.from-i.result c.loop-i-test.true c.from-i.ensures in
    elim c.if-hangs_on.branch [
      | then-hangs_on w ↦
          let h = row_hangs a.selection.now.candidates.now a.rows.now.rows.now a.o c.from-i.result c.hangs_on.ensures w.if-hangs_on.true in
          (omega (arith, w.weight.ensures), omega arith)
      | else-hangs_on w ↦
          let h = row_apart a.selection.now.candidates.now a.rows.now.rows.now a.o c.from-i.result c.hangs_on.ensures w.if-hangs_on.false in
          (omega arith, omega arith)
    ]
