-- `finder::find_beside` meets its contract. Assumes nothing.
use mathlib.Core.Path.{sym, ◌∙◌, ap, subst}
use mathlib.Core.List.{List}
use Prim.Native.Nat.{ℕ}
use Rattle.std.proofs.lemmas.Result.{err_from_is_err_and}
use Rattle.polygon.specs.declared.Polygon.{Polygon}
use Rattle.dihedrals.specs.Lists.{ProperCandidates}
use Rattle.finder.specs.Finding.{beside_number}
use Rattle.finder.specs.Filling.{faces_of, fill_or13}
use Rattle.finder.proofs.Candidates.{candidates_proper}
use Rattle.finder.proofs.Answers.{none_due, due_valid, values_found, find_refused, filled_is}
use Rattle.finder.proofs.find_beside.Goals as goal

pub returns-in_err-rim : goal.returns-in_err-rim
returns-in_err-rim c =
    let s = c.args in
    let p = err_from_is_err_and c.from_residual.result c.from_residual.ensures.1 in
    let both = values_found s.p (beside_number s.p s.triangle_places s.work_places s.candidates.now s.weights.now s.rows.now)
    s.candidates.now s.weights.now s.rows.now
    (find_refused s.p s.triangle_places s.work_places s.candidates.now s.weights.now s.rows.now c.in_err-rim.ensures.is_due) in
    rw (p.1, p.2) (record { tables = both.0; values = both.1 })

pub fill-requires : goal.fill-requires
fill-requires c =
    let p = c.args.p in
    let masks = c.search.new.set in
    let none = none_due p c.in_ok-rim.ensures.is_due in
    let proper = subst (λ (l : List (List ℕ)). ProperCandidates p l) (sym (c.in_ok-rim.ensures.listed none.0)) (candidates_proper p (due_valid p none.0)) in
    subst (λ (q : Polygon). ProperCandidates q (faces_of q masks)) (sym none.1) proper

pub returns : goal.returns
returns c =
    let s = c.args in
    let p = s.p in
    let masks = c.search.new.set in
    let none = none_due p c.in_ok-rim.ensures.is_due in
    let both = values_found p (beside_number p s.triangle_places s.work_places s.candidates.now s.weights.now s.rows.now)
    s.candidates.now s.weights.now s.rows.now
    (c.fill.ensures
    ∙ ap (λ (q : Polygon). fill_or13 q (faces_of q masks) s.triangle_places s.work_places s.candidates.now s.weights.now s.rows.now) none.1
    ∙ ap (λ (l : List (List ℕ)). fill_or13 p l s.triangle_places s.work_places s.candidates.now s.weights.now s.rows.now)
    (c.in_ok-rim.ensures.listed none.0)
    ∙ filled_is p s.triangle_places s.work_places s.candidates.now s.weights.now s.rows.now none.0) in
    record { tables = both.0; values = both.1 }
