-- `triangulator::part` meets its contract. Assumes nothing.
use mathlib.Core.Path.{sym}
use lib.Seq.{length-take-le}
use Rattle.lists.proofs.Writing.{first_places_lem, no_places_lem}
use Rattle.triangulator.proofs.part.Goals as goal

pub slice_bounds-result-end : goal.slice_bounds-result-end
slice_bounds-result-end c = sym (length-take-le _ _ c.if-count-triangles.true)

pub returns-then-count-triangles : goal.returns-then-count-triangles
returns-then-count-triangles c = first_places_lem c.args.triangles.now c.triangles_of-count.ensures c.if-count-triangles.true

pub returns-else-count-triangles : goal.returns-else-count-triangles
returns-else-count-triangles c = no_places_lem c.args.triangles.now c.triangles_of-count.ensures c.if-count-triangles.false
