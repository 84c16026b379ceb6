-- `minimum_weight::instance::Instance::rows` meets its contract. Assumes nothing.
use Rattle.minimum_weight.proofs.instance.Instance.rows.Goals as goal

pub new-requires : goal.new-requires
new-requires c = c.args.self.now.well_formed.rows_ascend
