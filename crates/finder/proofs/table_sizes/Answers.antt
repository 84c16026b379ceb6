-- `finder::table_sizes` meets its contract. Assumes nothing.
use mathlib.Core.Path.{◌≡◌, subst}
use mathlib.Core.Bool.{false}
use Rattle.polygon.specs.declared.Polygon.{Polygon}
use Rattle.finder.specs.Finding.{number_due}
use Rattle.finder.specs.Filling.{faces_of, places_for}
use Rattle.finder.proofs.Answers.{none_due, sizes_known, sizes_values}
use Rattle.finder.proofs.table_sizes.Goals as goal

pub returns : goal.returns
returns c =
    let p = c.args.p in
    let none = none_due p c.in_ok-rim.ensures.is_due in
    let counted = subst (λ (q : Polygon). c.count_places.result ≡ places_for q.n (faces_of q c.search.new.set)) none.1 c.count_places.ensures in
    let both = sizes_values p (number_due false p) (sizes_known p none.0 (c.in_ok-rim.ensures.listed none.0) counted) in
    record { sizes = both.0; values = both.1 }
