-- `pipeline::triangulate_first` meets its contract. Assumes nothing.
use mathlib.Core.Path.{sym}
use native.Mathlib.Omega.{arith}
use lib.Seq.{length-take-le}
use lib.ListN.{take}
use Rattle.pipeline.proofs.Ready.{counted}
use Rattle.pipeline.proofs.triangulate_first.Goals as goal

pub slice_bounds-best_triangulation-end : goal.slice_bounds-best_triangulation-end
slice_bounds-best_triangulation-end c = sym (length-take-le _ _ c.requires.count_in_bounds.0)

pub slice_bounds-best_triangulation-end-2 : goal.slice_bounds-best_triangulation-end-2
slice_bounds-best_triangulation-end-2 c = sym (length-take-le _ _ c.requires.count_in_bounds.1)

pub slice_bounds-best_triangulation-end-3 : goal.slice_bounds-best_triangulation-end-3
slice_bounds-best_triangulation-end-3 c = sym (length-take-le _ _ c.requires.count_in_bounds.2)

pub best_triangulation-requires : goal.best_triangulation-requires
best_triangulation-requires c =
    let a = c in (
      a.requires.well_formed,
      omega (
        arith,
        length-take-le a.args.count a.args.candidates.now a.requires.count_in_bounds.0,
        a.requires.count_in_bounds.3,
      ),
      a.requires.count_in_bounds.4,
    )

pub returns : goal.returns
returns c =
    let a = c in
    counted a.args.n a.args.count a.args.candidates.now (take a.args.count a.args.weights.now)
    (take a.args.row_count a.args.rows.now) a.args.triangles.now a.args.work.now a.requires.count_in_bounds.0
    c.best_triangulation.ensures.tables
