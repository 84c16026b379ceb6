-- `reader_vectors::answers::signed` meets its contract. Assumes nothing.
use Rattle.std.proofs.Common.{arith}
use Rattle.grid.proofs.Signs.{negated_fits}
use Rattle.reader_vectors.proofs.answers.signed.Goals as goal

pub overflow_sub-result : goal.overflow_sub-result
overflow_sub-result c = negated_fits (omega arith) c.from-size.ensures
