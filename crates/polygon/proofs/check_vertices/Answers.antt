-- `polygon::check_vertices` meets its contract. Assumes nothing.
use mathlib.Core.Path.{◌≡◌, sym, ◌∙◌, ap}
use mathlib.Core.Bool.{Bool}
use mathlib.Core.List.{[], ◌∷◌, ◌++◌}
use Prim.Native.Nat.{ℕ, ◌+◌, ◌-◌, ◌≤◌, ◌<◌, min}
use native.Mathlib.Omega.{arith}
use lib.ListN.{length, take, length-append}
use Rattle.std.proofs.Common.{rules}
use Rattle.std.proofs.lemmas.List.{length-take, get_or-take}
use Rattle.std.proofs.lemmas.Slice.Zip.{zip_turn, zip_end}
use Rattle.std.specs.Iterator.Adapters.{zip_first, zip_second}
use Rattle.std.specs.Slice.Iter.{iter_rest}
use Rattle.codes.specs.Refusals.{or_refused}
use Rattle.grid.specs.Point.{point_on_grid}
use Rattle.polygon.specs.Normal.{no_normal, normal_at, normal_in_range}
use Rattle.polygon.specs.Polygon.{origin, vertex_at, vertices_code_from}
use Rattle.polygon.proofs.Codes.{code_start, code_here, code_on, code_end, nine, eighteen, none_due}
use Rattle.polygon.proofs.check_vertices.Goals.{After-on_grid, After-into_iter-vertex-iterator}
use Rattle.polygon.proofs.check_vertices.Goals as goal

-- the two lists that the loop goes through
module _ (c : goal.After-into_iter-vertex-iterator) where
  first : iter_rest (zip_first c.into_iter-vertex-iterator.result) ≡ take c.args.n c.args.vertices
  first =
      (λ i. iter_rest (zip_first (c.into_iter-vertex-iterator.ensures.into_iter_gives i)))
      ∙ (λ i. iter_rest (c.zip-vertex-items.ensures.first i))
      ∙ c.iter.ensures.rest

  second : iter_rest (zip_second c.into_iter-vertex-iterator.result) ≡ take c.args.n c.args.normals
  second = (λ i. iter_rest (zip_second (c.into_iter-vertex-iterator.ensures.into_iter_gives i))) ∙ c.zip-vertex-items.ensures.second.0

-- the vertex and the normal of this turn
module _ (c : goal.After-on_grid)
    (f : iter_rest (zip_first c.into_iter-vertex-iterator.result) ≡ take c.args.n c.args.vertices)
    (g : iter_rest (zip_second c.into_iter-vertex-iterator.result) ≡ take c.args.n c.args.normals) where
  abbrev k : ℕ
  k = length c.loop-vertex.yielded

  turn : (k < c.args.n) × (c.in-Some.vertex.now ≡ vertex_at c.args.vertices k) × (c.in-Some.normal.now ≡ normal_at c.args.normals k)
  turn =
      let t = zip_turn (take c.args.n c.args.vertices) (take c.args.n c.args.normals) c.loop-vertex.yielded
      c.into_iter-vertex-iterator.result c.loop-vertex.vertex-iterator c.next.new.self c.next.result
      f g c.loop-vertex.yielded_by
      (c.in-Some.vertex, c.in-Some.normal) c.in-Some.is c.next.ensures.steps in
      let below : k < c.args.n = omega (arith, t.0, length-take c.args.n c.args.vertices) in (
        below,
        t.2 origin ∙ get_or-take c.args.n c.args.vertices k origin below,
        t.3 no_normal ∙ get_or-take c.args.n c.args.normals k no_normal below,
      )

  ranged : {b : Bool} → normal_in_range c.in-Some.normal.now ≡ b → normal_in_range (normal_at c.args.normals k) ≡ b
  ranged e = sym (ap normal_in_range turn.2) ∙ e

  judged : {b : Bool} → c.on_grid.result ≡ b → point_on_grid (vertex_at c.args.vertices k) ≡ b
  judged e = sym (ap point_on_grid turn.1) ∙ sym c.on_grid.ensures ∙ e

refused : {k n : ℕ} → n ≡ k → or_refused k (tt {0}) ≡ or_refused n (tt {0})
refused e = ap (λ (k : ℕ). or_refused k (tt {0})) (sym e)

pub loop-vertex-init : goal.loop-vertex-init
loop-vertex-init c = (omega arith, code_start _ _ _)

pub returns-then-not-on_grid : goal.returns-then-not-on_grid
returns-then-not-on_grid c =
    let a = (goal.at.returns-then-not-on_grid c).After-on_grid in
    let z = (goal.at.returns-then-not-on_grid c).After-into_iter-vertex-iterator in
    let s = c.args in
    let i = length c.loop-vertex.yielded in
    refused (sym c.loop-vertex.invariant.1 ∙ code_here s.vertices s.normals i s.n 8 (turn a (first z) (second z)).0
    (nine s.vertices s.normals i (judged a (first z) (second z) c.if-not-on_grid.true)))

pub returns-then-not-in_range : goal.returns-then-not-in_range
returns-then-not-in_range c =
    let a = (goal.at.returns-then-not-in_range c).After-on_grid in
    let z = (goal.at.returns-then-not-in_range c).After-into_iter-vertex-iterator in
    let s = c.args in
    let i = length c.loop-vertex.yielded in
    refused (sym c.loop-vertex.invariant.1 ∙ code_here s.vertices s.normals i s.n 17 (turn a (first z) (second z)).0
    (eighteen s.vertices s.normals i (judged a (first z) (second z) c.if-not-on_grid.false)
    (ranged a (first z) (second z) (sym c.in_range.ensures ∙ c.if-not-in_range.true))))

pub loop-vertex-preserved : goal.loop-vertex-preserved
loop-vertex-preserved c =
    let a = (goal.at.loop-vertex-preserved c).After-on_grid in
    let z = (goal.at.loop-vertex-preserved c).After-into_iter-vertex-iterator in
    let s = c.args in
    let i = length c.loop-vertex.yielded in
    let next : length (c.loop-vertex.yielded ++ (c.in-Some.vertex, c.in-Some.normal) ∷ []) ≡ length c.loop-vertex.yielded + 1 = length-append _ _ in
    let none = none_due s.vertices s.normals i (judged a (first z) (second z) c.if-not-on_grid.false)
    (ranged a (first z) (second z) (sym c.in_range.ensures ∙ c.if-not-in_range.false)) in (
      omega (arith, next, (turn a (first z) (second z)).0),
      ap (λ (m : ℕ). vertices_code_from s.vertices s.normals m (s.n - m)) next
          ∙ sym (code_on s.vertices s.normals i s.n (turn a (first z) (second z)).0 none) ∙ c.loop-vertex.invariant.1,
    )

pub returns : goal.returns
returns c =
    let a = (goal.at.returns c).After-into_iter-vertex-iterator in
    let s = c.args in
    let vertices_long : length s.vertices ≡ 64 = search rules in
    let normals_long : length s.normals ≡ 64 = search rules in
    let all : length c.loop-vertex.yielded ≡ min (length (take s.n s.vertices)) (length (take s.n s.normals)) = zip_end (take s.n s.vertices) (take s.n s.normals) c.loop-vertex.yielded
    c.into_iter-vertex-iterator.result c.loop-vertex.vertex-iterator c.next.new.self c.next.result
    (first a) (second a) c.loop-vertex.yielded_by c.in-None.is c.next.ensures.steps in
    let past : s.n ≤ length c.loop-vertex.yielded = omega (arith, all, length-take s.n s.vertices, length-take s.n s.normals, c.requires) in
    refused (sym c.loop-vertex.invariant.1 ∙ code_end s.vertices s.normals (length c.loop-vertex.yielded) s.n past)
