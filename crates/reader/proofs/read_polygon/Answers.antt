-- `reader::read_polygon` meets its contract. Assumes nothing.
use mathlib.Core.Path.{ap, ◌∙◌}
use native.Mathlib.Omega.{arith}
use Rattle.reader.specs.Reading.{reading_of}
use Rattle.reader.proofs.Answers.{answer_refused, limit_due, promised}
use Rattle.reader.proofs.read_polygon.Goals as goal

pub returns-then-not-count_fits : goal.returns-then-not-count_fits
returns-then-not-count_fits c = promised _ _ (answer_refused _ _ 14 (omega arith) (limit_due _ _ (cc)))

pub returns : goal.returns
returns c = promised _ _ (c.read_within.ensures ∙ ap (reading_of c.args.limit) c.new.ensures)
