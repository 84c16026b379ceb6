-- `triangulator::solver::least` meets its contract. Assumes nothing.
use Rattle.blocks.proofs.Starts.{starts_of_lem}
use Rattle.minimum_weight.proofs.Filling.{cleared}
use Rattle.triangulator.proofs.solver.least.Goals as goal

pub invariant_of-instance : goal.invariant_of-instance
invariant_of-instance c =
    let ok = c.requires.0 in record {
      well_formed = ok;
      blocks = starts_of_lem _ ok.ascending.by_first c.block_starts-starts.ensures;
    }

pub returns : goal.returns
returns c =
    let s = c in
    let e = c.least_total-least.ensures in
    record { total = e.total; work = cleared _ c.args.work.now e.work c.clear.ensures }
