-- `geometry::facet::refuted_by` meets its contract.
use mathlib.Core.Path.{sym, ◌∙◌, ap}
use Rattle.geometry.specs.Values.{SphereValue}
use Rattle.geometry.specs.Lifting.{position_by}
use Rattle.geometry.proofs.Facets.{is_inside_same}
use Rattle.geometry.proofs.facet.refuted_by.Goals as goal

-- the plane separates w from s: what is left is where w lies
pub returns-then-separates : goal.returns-then-separates
returns-then-separates c =
    let placed = c.locate.ensures ∙ ap (λ (b : SphereValue). position_by b c.args.w) c.circumsphere.ensures in
    c.eq.ensures ∙ is_inside_same c.locate.result ∙ rw (sym c.separates.ensures ∙ c.if-separates.true, sym placed)

pub returns-else-separates : goal.returns-else-separates
returns-else-separates c = rw (sym c.separates.ensures ∙ c.if-separates.false) c.if-separates.false
