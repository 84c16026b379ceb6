-- `reader::walk::follow_chain` meets its contract. Assumes nothing.
use Rattle.std.proofs.lemmas.Result.{err_from_is_err_and}
use Rattle.reader.proofs.Following.{following_start, following_end, following_stopped, following_next}
use Rattle.reader.proofs.walk.follow_chain.Goals as goal

pub loop-walk-init : goal.loop-walk-init
loop-walk-init c = following_start c.requires.1 (c.start-walk.ensures.0 _) c.start-walk.ensures.1 c.none-normals.ensures

pub returns-in_err-walk : goal.returns-in_err-walk
returns-in_err-walk c =
    let p = err_from_is_err_and c.from_residual.result c.from_residual.ensures.1 in
    rw (p.1, p.2) (following_stopped c.loop-walk.invariant c.loop-walk-test.true c.in_err-walk.ensures)

pub loop-walk-preserved : goal.loop-walk-preserved
loop-walk-preserved c = following_next c.loop-walk.invariant c.loop-walk-test.true c.in_ok-walk.ensures

pub returns : goal.returns
returns c = following_end c.loop-walk.invariant c.loop-walk-test.false
