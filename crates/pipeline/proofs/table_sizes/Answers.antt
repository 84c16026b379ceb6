-- `pipeline::table_sizes` meets its contract. Assumes nothing.
use Rattle.std.proofs.lemmas.Result.{err_from_is_err_and}
use Rattle.pipeline.proofs.Files.{sizes_refused, sizes_read}
use Rattle.pipeline.proofs.table_sizes.Goals as goal

pub returns-in_err-read_polygon : goal.returns-in_err-read_polygon
returns-in_err-read_polygon c =
    let p = err_from_is_err_and c.from_residual.result c.from_residual.ensures.1 in
    rw (p.1, p.2)
    (let both = sizes_refused _ c.args.file.now c.in_err-read_polygon.ensures.0 in
    record { sizes = both.0; values = both.1 })

pub returns : goal.returns
returns c =
    let both = sizes_read _ c.args.file.now c.in_ok-read_polygon.ensures.0 c.table_sizes.ensures.sizes in
    record { sizes = both.0; values = both.1 }
