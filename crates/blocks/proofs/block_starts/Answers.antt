-- `blocks::block_starts` meets its contract. Assumes nothing.
use Rattle.std.proofs.Common.{ℕ, ◌-◌, ◌≤◌, ◌∙◌, ap, arith, ltb, length, drop, length-drop, take_all}
use lib.ListN.{length-replicate}
use Rattle.std.specs.List.{prefix_len}
use Rattle.terms.specs.Entries.{vertex_a}
use Rattle.blocks.specs.Blocks.{start_count}
use Rattle.blocks.proofs.Placing.{placed_start, placed_next, placed_all}
use Rattle.blocks.proofs.block_starts.Goals as goal

pub loop-k-init : goal.loop-k-init
loop-k-init c = placed_start _ _ (length-replicate {A = ℕ} start_count 0)

pub loop-k-preserved : goal.loop-k-preserved
loop-k-preserved c =
    let l = c.args.candidates.now in
    let p = c.loop-k.invariant in
    let all : length (drop c.loop-k.passed l) ≤ length l - c.loop-k.passed = omega (arith, length-drop c.loop-k.passed l) in
    placed_next _ c.requires p (omega (arith, c.loop-k-test.true, p.size))
    (c.count_below-passed.ensures.value ∙ ap (prefix_len (λ t. ltb (vertex_a t) c.loop-k.k)) (take_all _ _ all))

pub returns : goal.returns
returns c = placed_all _ c.loop-k.invariant (omega (arith, c.loop-k-test.false, c.loop-k.invariant.size))
