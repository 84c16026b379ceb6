-- `finder::fill` meets its contract. Assumes nothing.
use mathlib.Core.Path.{◌≡◌, sym, ◌∙◌, ap}
use mathlib.Core.List.{List}
use Prim.Native.Nat.{ℕ, ◌-◌}
use native.Mathlib.Omega.{arith}
use lib.ListN.{length}
use Rattle.dihedrals.specs.Dihedrals.{rows_of}
use Rattle.dihedrals.proofs.Rows.{row_count}
use Rattle.finder.specs.Filling.{faces_of}
use Rattle.finder.specs.declared.Places.{Places}
use Rattle.finder.proofs.Answers.{Enough, fill_13, fill_lists}
use Rattle.finder.proofs.fill.Goals.{After-count_places-needed}
use Rattle.finder.proofs.fill.Goals as goal

-- the candidates and the rows were counted
module _ (g : goal.After-count_places-needed) where
  abbrev triangles : List (List ℕ)
  triangles = faces_of g.args.rim.now.polygon g.args.set.now

  triangles_are : g.count_places-needed.result.triangles ≡ g.args.rim.now.polygon.n - 2
  triangles_are = ap (λ (x : Places). x.triangles) g.count_places-needed.ensures

  count_is : g.count_places-needed.result.candidates ≡ length triangles
  count_is = ap (λ (x : Places). x.candidates) g.count_places-needed.ensures

  rows_are : g.count_places-needed.result.rows ≡ length (rows_of g.args.rim.now.polygon triangles)
  rows_are = ap (λ (x : Places). x.rows) g.count_places-needed.ensures ∙ sym (row_count g.args.rim.now.polygon triangles)

pub returns-then-triangle_places-needed : goal.returns-then-triangle_places-needed
returns-then-triangle_places-needed c =
    let g = (goal.at.returns-then-triangle_places-needed c).After-count_places-needed in
    fill_13 c.args.rim.now.polygon (triangles g) c.args.triangle_places c.args.work_places c.args.candidates.now c.args.weights.now c.args.rows.now
    (λ e. let t = e.for_triangles in let w = e.for_work in let l = e.for_lists in
    let ti = triangles_are g in let ci = count_is g in let ri = rows_are g in grind arith)

pub write_lists-requires : goal.write_lists-requires
write_lists-requires c =
    let g = (goal.at.write_lists-requires c).After-count_places-needed in (
      g.requires,
      record {
        for_candidates = omega (arith, count_is g);
        for_weights = omega (arith, count_is g);
        for_rows = omega (arith, rows_are g);
      },
    )

pub returns : goal.returns
returns c =
    let g = (goal.at.returns c).After-count_places-needed in
    let enough : Enough c.args.rim.now.polygon (triangles g) c.args.triangle_places c.args.work_places c.args.candidates.now c.args.weights.now
    c.args.rows.now =
    record {
      for_triangles = omega (arith, triangles_are g);
      for_work = omega (arith, count_is g);
      for_lists = record {
        for_candidates = omega (arith, count_is g);
        for_weights = omega (arith, count_is g);
        for_rows = omega (arith, rows_are g);
      };
    } in
    fill_lists c.args.rim.now.polygon (triangles g) c.args.triangle_places c.args.work_places c.args.candidates.now c.args.weights.now c.args.rows.now
    enough (count_is g) (rows_are g) c.write_lists.ensures
