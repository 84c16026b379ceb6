-- `polygon::check` meets its contract. Assumes nothing.
use mathlib.Core.Path.{◌≡◌, refl, sym, ◌∙◌, ap}
use Prim.Native.Nat.{ℕ, ◌<◌}
use native.Mathlib.Omega.{arith}
use borrow.Author.Tests.{lt-ltb, le-ltb}
use Rattle.std.proofs.lemmas.Result.{err_from_is_err_and}
use Rattle.terms.specs.Limits.{max_area_factor}
use Rattle.lists.proofs.Choice.{yes, no}
use Rattle.codes.specs.Refusals.{or_refused}
use Rattle.codes.proofs.Refusals.{none_answered, refused_answered}
use Rattle.polygon.specs.Polygon.{code_of, vertices_code}
use Rattle.terms.proofs.Numbers.{due_here, due_on}
use Rattle.polygon.proofs.check.Goals as goal

answered : {k n : ℕ} → n ≡ k → or_refused k (tt {0}) ≡ or_refused n (tt {0})
answered e = ap (λ (k : ℕ). or_refused k (tt {0})) (sym e)

pub returns-then-p-gt-MAX_AREA_FACTOR : goal.returns-then-p-gt-MAX_AREA_FACTOR
unfolding code_of
returns-then-p-gt-MAX_AREA_FACTOR c =
    let over : max_area_factor < c.args.p.area_factor = omega (arith, c.if-p-gt-MAX_AREA_FACTOR.true) in
    answered (yes _ _ (lt-ltb _ _ over))

pub returns-then-p-gt-MAX_BEND_FACTOR : goal.returns-then-p-gt-MAX_BEND_FACTOR
unfolding code_of
returns-then-p-gt-MAX_BEND_FACTOR c =
    answered (no _ _ (le-ltb _ _ c.if-p-gt-MAX_AREA_FACTOR.false) ∙ yes _ _ (lt-ltb _ _ c.if-p-gt-MAX_BEND_FACTOR.true))

pub returns-then-p-gt-MAX_VERTICES : goal.returns-then-p-gt-MAX_VERTICES
unfolding code_of
returns-then-p-gt-MAX_VERTICES c =
    answered
    (no _ _ (le-ltb _ _ c.if-p-gt-MAX_AREA_FACTOR.false)
    ∙ no _ _ (le-ltb _ _ c.if-p-gt-MAX_BEND_FACTOR.false)
    ∙ yes _ _ (lt-ltb _ _ c.if-p-gt-MAX_VERTICES.true))

pub returns-in_err-check_vertices : goal.returns-in_err-check_vertices
unfolding code_of
returns-in_err-check_vertices c =
    let p = c.args.p in
    let e = err_from_is_err_and c.from_residual.result c.from_residual.ensures.1 in
    let refused = sym c.in_err-check_vertices.was ∙ c.check_vertices.ensures in
    let due = refused_answered (vertices_code p.vertices p.normals p.n) (tt {0}) refused in
    rw (e.1, e.2)
    (refused
    ∙ answered
    (no _ _ (le-ltb _ _ c.if-p-gt-MAX_AREA_FACTOR.false)
    ∙ no _ _ (le-ltb _ _ c.if-p-gt-MAX_BEND_FACTOR.false)
    ∙ no _ _ (le-ltb _ _ c.if-p-gt-MAX_VERTICES.false)
    ∙ due_here _ refl (λ z. omega (arith, z, due.0))))

pub returns-then-p-lt-MIN_VERTICES : goal.returns-then-p-lt-MIN_VERTICES
unfolding code_of
returns-then-p-lt-MIN_VERTICES c =
    let p = c.args.p in
    let clear = none_answered (vertices_code p.vertices p.normals p.n) (sym c.in_ok-check_vertices.was ∙ c.check_vertices.ensures) in
    answered
    (no _ _ (le-ltb _ _ c.if-p-gt-MAX_AREA_FACTOR.false)
    ∙ no _ _ (le-ltb _ _ c.if-p-gt-MAX_BEND_FACTOR.false)
    ∙ no _ _ (le-ltb _ _ c.if-p-gt-MAX_VERTICES.false)
    ∙ due_on _ clear.0
    ∙ yes _ _ (lt-ltb _ _ c.if-p-lt-MIN_VERTICES.true))

pub returns-then-has_repeated_vertex : goal.returns-then-has_repeated_vertex
unfolding code_of
returns-then-has_repeated_vertex c =
    let p = c.args.p in
    let clear = none_answered (vertices_code p.vertices p.normals p.n) (sym c.in_ok-check_vertices.was ∙ c.check_vertices.ensures) in
    answered
    (no _ _ (le-ltb _ _ c.if-p-gt-MAX_AREA_FACTOR.false)
    ∙ no _ _ (le-ltb _ _ c.if-p-gt-MAX_BEND_FACTOR.false)
    ∙ no _ _ (le-ltb _ _ c.if-p-gt-MAX_VERTICES.false)
    ∙ due_on _ clear.0
    ∙ no _ _ (le-ltb _ _ c.if-p-lt-MIN_VERTICES.false)
    ∙ yes _ _ (sym c.has_repeated_vertex.ensures ∙ c.if-has_repeated_vertex.true))

pub returns : goal.returns
unfolding code_of
returns c =
    let p = c.args.p in
    let clear = none_answered (vertices_code p.vertices p.normals p.n) (sym c.in_ok-check_vertices.was ∙ c.check_vertices.ensures) in
    answered
    (no _ _ (le-ltb _ _ c.if-p-gt-MAX_AREA_FACTOR.false)
    ∙ no _ _ (le-ltb _ _ c.if-p-gt-MAX_BEND_FACTOR.false)
    ∙ no _ _ (le-ltb _ _ c.if-p-gt-MAX_VERTICES.false)
    ∙ due_on _ clear.0
    ∙ no _ _ (le-ltb _ _ c.if-p-lt-MIN_VERTICES.false)
    ∙ no _ _ (sym c.has_repeated_vertex.ensures ∙ c.if-has_repeated_vertex.false))
