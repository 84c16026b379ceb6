-- `finder::search` meets its contract. Assumes nothing.
use mathlib.Core.Path.{◌≡◌, refl, sym, ◌∙◌, ap, subst}
use mathlib.Core.List.{List}
use Prim.Native.Nat.{ℕ}
use native.Mathlib.Omega.{arith}
use Rattle.std.specs.Prelude.{Result}
use Rattle.std.proofs.lemmas.Result.{err_from_is_err_and}
use Rattle.codes.specs.declared.Refusal.{Refusal}
use Rattle.codes.proofs.Refusals.{none_answered, refused_answered}
use Rattle.faces.specs.Masks.{empty_set}
use Rattle.polygon.specs.declared.Polygon.{Polygon}
use Rattle.polygon.specs.Polygon.{code_of}
use Rattle.polygon.specs.Rim.{as_polygon}
use Rattle.delaunay.specs.Candidates.{is_candidate, degenerate}
use Rattle.delaunay_search.specs.Search.{Marked}
use Rattle.finder.proofs.Answers.{code_due, twelve_given, rim_searched}
use Rattle.finder.proofs.search.Goals as goal

-- what the search promises of the rim's polygon, of the one that was given and the empty set
of_given : {p q : Polygon} {before masks : List ℕ} {x y : Result Unit Refusal} → q ≡ p → before ≡ empty_set → x ≡ y →
    Marked (is_candidate q) (degenerate q) before x masks → Marked (is_candidate p) (degenerate p) empty_set y masks
of_given {masks = masks} same empty is m = subst (λ (z : Polygon × List ℕ × Result Unit Refusal). Marked (is_candidate z.0) (degenerate z.0) z.1 z.2 masks)
    (λ i. (same i, empty i, is i)) m

pub returns-in_err-rim : goal.returns-in_err-rim
returns-in_err-rim c =
    let p = c.args.p in
    let e = err_from_is_err_and c.from_residual.result c.from_residual.ensures.1 in
    let due = refused_answered (code_of p) p (ap as_polygon (sym c.in_err-rim.was) ∙ c.new.ensures) in
    rw (e.1, e.2) (code_due p (code_of p) due.1 refl (λ z. omega (arith, z, due.0)))

pub returns-in_default : goal.returns-in_default
returns-in_default c =
    let p = c.args.p in
    let known = none_answered (code_of p) c.in_ok-rim.ensures in
    twelve_given p known.0 (of_given known.1 c.requires c.in_default.is c.mark_candidates.ensures)

pub returns : goal.returns
returns c =
    let known = none_answered (code_of c.args.p) c.in_ok-rim.ensures in
    rim_searched c.args.p known.0 known.1 (of_given known.1 c.requires c.in-Ok.is c.mark_candidates.ensures)
