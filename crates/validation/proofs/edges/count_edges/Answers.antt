-- `validation::edges::count_edges` meets its contract: each table has the sums over the first places of the list. Assumes nothing.
use Rattle.std.proofs.Common.{arith}
use Rattle.validation.proofs.EdgeCounts.{triangle_at_lem, between_room, outside_room, between_next, outside_next, zeros_sums}
use Rattle.validation.proofs.edges.count_edges.Goals as goal

pub loop-k-init : goal.loop-k-init
loop-k-init c =
    record { on_between = zeros_sums _ c.args.selection.now.list.now c.requires.0; on_outside = zeros_sums _ c.args.selection.now.list.now c.requires.1 }

pub bounds-selection-from : goal.bounds-selection-from
bounds-selection-from c = (triangle_at_lem _ _ c.args.selection.now.triangles c.loop-k.k-index c.loop-k-test.true _ c.from.ensures).there

pub add_between-requires : goal.add_between-requires
add_between-requires c =
    let t = triangle_at_lem _ _ c.args.selection.now.triangles c.loop-k.k-index c.loop-k-test.true _ c.from.ensures in
    (omega arith, t.few, between_room _ _ c.args.selection.now.triangles (omega arith) c.loop-k.invariant.on_between _ _ (omega arith) t.few)

pub add_outside-requires : goal.add_outside-requires
add_outside-requires c =
    let t = triangle_at_lem _ _ c.args.selection.now.triangles c.loop-k.k-index c.loop-k-test.true _ c.from.ensures in
    let room = outside_room _ _ c.args.selection.now.triangles (omega arith) c.loop-k.invariant.on_outside in
    (t.ab, omega arith, t.few, room _ _ (omega arith) (omega arith), room _ _ (omega arith) t.few)

pub loop-k-preserved : goal.loop-k-preserved
loop-k-preserved c = record {
  on_between = between_next _ _ c.args.selection.now.triangles c.loop-k-test.true _ c.from.ensures c.loop-k.invariant.on_between c.add_between.ensures;
  on_outside = outside_next _ _ c.args.selection.now.triangles c.loop-k-test.true _ c.from.ensures c.loop-k.invariant.on_outside c.add_outside.ensures;
}
