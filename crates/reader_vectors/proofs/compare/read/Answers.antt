-- `reader_vectors::compare::read` meets its contract. Assumes nothing.
use Rattle.std.proofs.Common.{sym, length-take-le, rules}
use Rattle.reader_vectors.proofs.compare.read.Goals as goal

pub slice_bounds-read_polygon-end : goal.slice_bounds-read_polygon-end
slice_bounds-read_polygon-end c = sym (length-take-le _ _ (search rules))
