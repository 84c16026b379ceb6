-- `minimum_weight::choice::scan_block` meets its contract. Assumes nothing.
use Rattle.blocks.proofs.Starts.{starts_up}
use Rattle.minimum_weight.proofs.Picks.{block_start, block_next, block_end, pick_bounded}
use Prim.Native.Nat.{◌+◌}
use native.Mathlib.Omega.{arith}
use Rattle.minimum_weight.specs.Tables.{pick_under}
use Rattle.minimum_weight.proofs.choice.scan_block.Goals as goal

pub loop-u-init : goal.loop-u-init
loop-u-init c =
    let b = c.args.blocked.now.blocks in
    (omega arith, starts_up _ _ _ b c.requires.1, block_start _ _ _ _ _ _ b c.requires.1)

pub better-p-requires : goal.better-p-requires
better-p-requires c =
    let s = c in (
      omega (arith, (s.args.blocked.now.blocks.at (s.args.i + 1) (omega (arith, s.requires.1))).within),
      s.requires.0,
      rw c.loop-u.invariant.2 (pick_bounded _ _ _ c.loop-u.u),
    )

pub loop-u-preserved : goal.loop-u-preserved
loop-u-preserved c =
    let s = c in
    let l = c.loop-u in (
      omega arith,
      omega (arith, c.loop-u-test.true),
      block_next _ _ _ _ _ _ s.args.blocked.now.blocks s.requires.1 _ l.u l.invariant.0 c.loop-u-test.true l.invariant.2 c.better-p.ensures,
    )

pub returns : goal.returns
unfolding pick_under
returns c =
    let s = c in
    let l = c.loop-u in
    block_end _ _ _ _ _ _ s.args.blocked.now.blocks s.requires.1 _ l.u l.invariant.1 c.loop-u-test.false l.invariant.2
