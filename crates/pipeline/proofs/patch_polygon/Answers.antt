-- `pipeline::patch_polygon` meets its contract. Assumes nothing.
use Rattle.std.proofs.lemmas.Result.{err_from_is_err_and}
use Rattle.pipeline.proofs.Finds.{find_refused}
use Rattle.pipeline.specs.Patching.{tables}
use Rattle.pipeline.proofs.Ready.{ready, patched_all}
use Rattle.pipeline.proofs.Values.{polygon_values_lem}
use Rattle.pipeline.proofs.patch_polygon.Goals as goal

pub triangulate_first-requires : goal.triangulate_first-requires
triangulate_first-requires c =
    let s = c.args in
    let r = ready s.p s.triangles.now s.candidates.now s.weights.now s.rows.now s.work.now c.in_ok-lists.was c.find_beside.ensures.tables in
    record {
      count_in_bounds = (r.candidate_places, r.weight_places, r.row_places, r.work_places, r.triangle_places);
      well_formed = r.formed;
    }

pub returns-in_err-lists : goal.returns-in_err-lists
returns-in_err-lists c =
    let p = err_from_is_err_and c.from_residual.result c.from_residual.ensures.1 in
    rw (p.1, p.2)
    (let s = c.args in
    let both = polygon_values_lem s.p (tables s.triangles.now s.candidates.now s.weights.now s.rows.now s.work.now)
    (find_refused s.p s.triangles.now s.candidates.now s.weights.now s.rows.now s.work.now c.in_err-lists.was c.find_beside.ensures.tables) in
    record { tables = both.0; values = both.1 })

pub returns : goal.returns
returns c =
    let s = c.args in
    let both = polygon_values_lem s.p (tables s.triangles.now s.candidates.now s.weights.now s.rows.now s.work.now)
    (patched_all s.p s.triangles.now s.candidates.now s.weights.now s.rows.now s.work.now c.in_ok-lists.was
    c.find_beside.ensures.tables c.triangulate_first.ensures) in
    record { tables = both.0; values = both.1 }
