-- `minimum_weight::costs::fill_block` meets its contract. Assumes nothing.
use Prim.Native.Nat.{◌+◌, ◌<◌}
use native.Mathlib.Omega.{arith}
use borrow.Author.Rules.{rules}
use lib.ListN.{length}
use Rattle.blocks.proofs.Starts.{starts_up}
use Rattle.rows.proofs.Runs.{part_ascends, run_of, run_order, run_within}
use Rattle.minimum_weight.proofs.Filling.{filling_start, filling_next, filling_end, left_ready, right_ready}
use Rattle.minimum_weight.proofs.costs.fill_block.Goals as goal

pub loop-t-init : goal.loop-t-init
loop-t-init c =
    let s = c in
    (filling_start _ _ (starts_up _ _ _ s.args.instance.now.blocks s.requires.well_formed.1) s.requires.filled, c.lower_bound-first.ensures)

pub run_end-last-requires : goal.run_end-last-requires
run_end-last-requires c =
    let s = c in
    let ok = s.args.instance.now.well_formed in
    let b = s.args.instance.now.blocks in
    let l = c.loop-t in
    (l.invariant.1, omega (arith, c.loop-t-test.true, (b.at (s.args.v + 1) (omega (arith, s.requires.well_formed.1))).within, ok.few))

-- the run of t ends within the rows, and not before it starts
pub offset_bounds-rows-first : goal.offset_bounds-rows-first
offset_bounds-rows-first c =
    omega (
      arith,
      run_order c.loop-t.t c.rows-rows.result.ascend c.loop-t.invariant.1 c.run_end-last.ensures,
      run_within c.loop-t.t c.rows-rows.result.ascend c.loop-t.invariant.1 c.run_end-last.ensures,
      c.well_formed,
    )

pub slice_bounds-new-count : goal.slice_bounds-new-count
slice_bounds-new-count c = omega (arith, run_order c.loop-t.t c.rows-rows.result.ascend c.loop-t.invariant.1 c.run_end-last.ensures)

pub slice_bounds-new-start : goal.slice_bounds-new-start
slice_bounds-new-start c = omega (arith, run_order c.loop-t.t c.rows-rows.result.ascend c.loop-t.invariant.1 c.run_end-last.ensures)

pub slice_bounds-new-end : goal.slice_bounds-new-end
slice_bounds-new-end c =
    omega (
      arith,
      run_order c.loop-t.t c.rows-rows.result.ascend c.loop-t.invariant.1 c.run_end-last.ensures,
      run_within c.loop-t.t c.rows-rows.result.ascend c.loop-t.invariant.1 c.run_end-last.ensures,
    )

pub new-run-requires : goal.new-run-requires
new-run-requires c = part_ascends _ _ c.rows-rows.result.ascend

pub cost_of-requires : goal.cost_of-requires
cost_of-requires c =
    let s = c in
    let ok = s.args.instance.now.well_formed in
    let b = s.args.instance.now.blocks in
    let l = c.loop-t in
    let h = c.loop-t-test.true in record {
      well_formed = (
        omega (arith, s.requires.well_formed.0, l.invariant.0.long),
        omega (arith, h, (b.at (s.args.v + 1) (omega (arith, s.requires.well_formed.1))).within),
        rw (c.new-run.ensures, ← c.rows-rows.ensures) (run_of l.t c.rows-rows.result.ascend l.invariant.1 c.run_end-last.ensures),
      );
      ready_beneath = (
        left_ready _ _ _ _ ok _ b _ l.work s.args.v l.t s.requires.well_formed.1 l.invariant.0 h,
        right_ready _ _ _ _ ok _ b _ l.work s.args.v l.t s.requires.well_formed.1 l.invariant.0 h,
      );
    }

pub offset_bounds-work-t : goal.offset_bounds-work-t
offset_bounds-work-t c =
    let s = c in
    let ok = s.args.instance.now.well_formed in
    let b = s.args.instance.now.blocks in
    let l = c.loop-t in
    let h : l.t < length l.work = omega (
      arith,
      c.loop-t-test.true,
      (b.at (s.args.v + 1) (omega (arith, s.requires.well_formed.1))).within,
      s.requires.well_formed.0,
      l.invariant.0.long,
    ) in search rules

pub bounds-work-t : goal.bounds-work-t
bounds-work-t c =
    let s = c in
    let ok = s.args.instance.now.well_formed in
    let b = s.args.instance.now.blocks in
    let l = c.loop-t in
    omega (
      arith,
      c.loop-t-test.true,
      (b.at (s.args.v + 1) (omega (arith, s.requires.well_formed.1))).within,
      s.requires.well_formed.0,
      l.invariant.0.long,
    )

pub loop-t-preserved : goal.loop-t-preserved
loop-t-preserved c =
    let s = c in
    let ok = s.args.instance.now.well_formed in
    let b = s.args.instance.now.blocks in
    let l = c.loop-t in (
      filling_next _ _ _ s.requires.well_formed.0 (b.at (s.args.v + 1) (omega (arith, s.requires.well_formed.1))).within
          c.loop-t-test.true c.cost_of.ensures l.invariant.0,
      c.run_end-last.ensures,
    )

pub shape_of-work : goal.shape_of-work
shape_of-work c = c.loop-t.invariant.0.long

pub returns : goal.returns
returns c = filling_end _ _ c.loop-t-test.false c.loop-t.invariant.0
