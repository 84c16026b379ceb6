-- `reader::walk::step` meets its contract. Assumes nothing.
use native.Mathlib.Omega.{arith}
use mathlib.Core.Path.{sym, ap, ◌∙◌}
use Rattle.codes.proofs.Refusals.{refused_answered, none_answered}
use Rattle.polygon.specs.Normal.{normal_code}
use Rattle.std.proofs.lemmas.Result.{err_from_is_err_and}
use Rattle.rim_file.proofs.Lengths.{whole, held}
use Rattle.reader.specs.Chain.{over_limit}
use Rattle.reader.proofs.Answers.{over_least}
use Rattle.reader.proofs.Walking.{stopped_by, link_due, repeated_due, over_due, record_stops, normal_stops, record_passes}
use Rattle.reader.proofs.walk.step.Goals as goal

pub record_count-requires : goal.record_count-requires
record_count-requires c = (whole _ c.requires.0).header

pub bounds-met-link : goal.bounds-met-link
bounds-met-link c = omega (arith, (whole _ c.requires.0).few, c.record_count.ensures.0, c.if-record_count-link.false)

pub vertex_at-requires : goal.vertex_at-requires
vertex_at-requires c = (
  (held _ c.requires.0 c.requires.2 c.record_count.ensures.0 (omega (arith, c.if-record_count-link.false)) c.record_start-at.ensures).start,
  c.requires.1.on_grid,
)

pub normal_at-requires : goal.normal_at-requires
normal_at-requires c = (held _ c.requires.0 c.requires.2 c.record_count.ensures.0 (omega (arith, c.if-record_count-link.false)) c.record_start-at.ensures).whole

pub bounds-met-link-2 : goal.bounds-met-link-2
bounds-met-link-2 c = omega (arith, (whole _ c.requires.0).few, c.record_count.ensures.0, c.if-record_count-link.false)

pub next_record-requires : goal.next_record-requires
next_record-requires c = (held _ c.requires.0 c.requires.2 c.record_count.ensures.0 (omega (arith, c.if-record_count-link.false)) c.record_start-at.ensures).start

pub returns-then-record_count-link : goal.returns-then-record_count-link
returns-then-record_count-link c =
    stopped_by c.requires.1 3 (omega arith) (link_due c.requires.1 (omega (arith, c.record_count.ensures.0, c.if-record_count-link.true)))

pub returns-then-met-link : goal.returns-then-met-link
returns-then-met-link c =
    stopped_by c.requires.1 4 (omega arith)
    (repeated_due c.requires.1 (omega (arith, c.record_count.ensures.0, c.if-record_count-link.false)) (whole _ c.requires.0).few c.if-met-link.true)

pub returns-then-n-limit : goal.returns-then-n-limit
returns-then-n-limit c =
    rw c.over_limit.ensures
    (stopped_by c.requires.1 (over_limit c.args.limit) (omega (arith, over_least c.args.limit))
    (over_due c.requires.1 (omega (arith, c.record_count.ensures.0, c.if-record_count-link.false))
    (whole _ c.requires.0).few c.if-met-link.false
    (omega (arith, c.if-n-limit.true, c.requires.1.within, c.requires.3))))

pub returns-in_err-vertex : goal.returns-in_err-vertex
returns-in_err-vertex c =
    let p = err_from_is_err_and c.from_residual.result c.from_residual.ensures.1 in
    rw (p.1, p.2)
    (record_stops c.requires.1 (omega (arith, c.record_count.ensures.0, c.if-record_count-link.false)) (whole _ c.requires.0).few c.if-met-link.false
    (omega (arith, c.requires.1.within, c.if-n-limit.false)) _ c.record_start-at.ensures _ (sym c.in_err-vertex.ensures))

pub returns-in_err-normal : goal.returns-in_err-normal
returns-in_err-normal c =
    let p = err_from_is_err_and c.from_residual-in_err-normal.result c.from_residual-in_err-normal.ensures.1 in
    let d = refused_answered (normal_code c.normal_at.result) c.normal_at.result c.in_err-normal.ensures in
    rw (p.1, p.2, d.1)
    (normal_stops c.requires.1 (omega (arith, c.record_count.ensures.0, c.if-record_count-link.false)) (whole _ c.requires.0).few c.if-met-link.false
    (omega (arith, c.requires.1.within, c.if-n-limit.false)) _ c.record_start-at.ensures _ (sym c.in_ok-vertex.ensures) _ c.normal_at.ensures d.0)

pub returns : goal.returns
returns c =
    let d = none_answered (normal_code c.normal_at.result) c.in_ok-normal.ensures in
    record_passes c.requires.1 (omega (arith, c.record_count.ensures.0, c.if-record_count-link.false)) (whole _ c.requires.0).few c.if-met-link.false
    (omega (arith, c.requires.1.within, c.if-n-limit.false)) _ c.record_start-at.ensures _ (sym c.in_ok-vertex.ensures) _ (d.1 ∙ c.normal_at.ensures)
    _ (ap normal_code d.1 ∙ d.0) c.next_record.ensures
