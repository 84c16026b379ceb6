-- `validation::totals::total` meets its contract. Assumes nothing.
use Rattle.std.proofs.Common.{arith, ◌∙◌}
use Rattle.triangulation.specs.Triangulations.{total_weight}
use Rattle.triangulation.specs.Problems.{problem_from}
use Rattle.validation.proofs.Tilings.{share}
use Rattle.validation.proofs.Fronts.{sum_with, sum_whole}
use Rattle.validation.proofs.EdgeCounts.{triangle_at_lem}
use Rattle.validation.proofs.totals.total.Goals as goal

pub bounds-weights-o : goal.bounds-weights-o
bounds-weights-o c = omega (arith, (triangle_at_lem _ _ c.args.selection.now.triangles c.loop-o.o-index c.loop-o-test.true _ c.from-o.ensures).there)

pub hanging_rows-requires : goal.hanging_rows-requires
hanging_rows-requires c =
    (triangle_at_lem _ _ c.args.selection.now.triangles c.loop-o.o-index c.loop-o-test.true _ c.from-o.ensures).there

pub loop-o-preserved : goal.loop-o-preserved
loop-o-preserved c =
    let a = c.args in
    let job = problem_from 0 a.selection.now.candidates.now a.weights.now a.rows.now.rows.now in
    let next = sum_with (share job a.selection.now.list.now) a.selection.now.list.now c.loop-o.o-index c.from-o.result c.loop-o-test.true c.from-o.ensures in
    (omega (arith, c.hanging_rows.ensures.0), omega (arith, c.hanging_rows.ensures.1, c.type_inv.weights c.from-o.result))

pub returns : goal.returns
unfolding total_weight
returns c =
    let a = c.args in
    c.loop-o.invariant.0 ∙ sum_whole (share (problem_from 0 a.selection.now.candidates.now a.weights.now a.rows.now.rows.now) a.selection.now.list.now) a.selection.now.list.now c.loop-o.o-index (omega arith)
