-- `minimum_weight::costs::fill` meets its contract. Assumes nothing.
use native.Mathlib.Omega.{arith}
use Rattle.minimum_weight.proofs.Filling.{fill_start, fill_end, filled_down, filled_then, filled_is}
use Rattle.minimum_weight.proofs.costs.fill.Goals as goal

pub loop-v-init : goal.loop-v-init
loop-v-init c =
    let i = c.args.instance.now in
    (omega arith, fill_start i.job.n _ _ _ i.well_formed _ i.blocks c.args.work.now)

pub fill_block-requires : goal.fill_block-requires
fill_block-requires c =
    let s = c in
    let ok = s.args.instance.now.well_formed in
    let b = s.args.instance.now.blocks in
    let l = c.loop-v in record {
      well_formed = (omega (arith, s.requires, l.invariant.1.long), omega (arith, l.invariant.0, ok.bounded.few));
      filled = filled_down _ s.args.instance.now.starts.now l.v c.loop-v-test.true l.invariant.1;
    }

pub loop-v-preserved : goal.loop-v-preserved
loop-v-preserved c =
    let l = c.loop-v in
    (omega (arith, l.invariant.0), filled_then _ l.invariant.1 c.fill_block.ensures)

pub shape_of-work : goal.shape_of-work
shape_of-work c = c.loop-v.invariant.1.long

pub returns : goal.returns
returns c =
    let s = c in
    let ok = s.args.instance.now.well_formed in
    let b = s.args.instance.now.blocks in
    filled_is _ _ s.requires (fill_end s.args.instance.now.job.n _ _ _ ok _ b c.loop-v-test.false c.loop-v.invariant.1)
