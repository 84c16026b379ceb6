-- `judge::judge` meets its contract on an accepted job. Assumes nothing.
use Rattle.std.proofs.Common.{refl, ◌∙◌, sym, arith, rules}
use Rattle.jobs.specs.Job.{job_in}
use Rattle.minimum_weight.proofs.Answer.{with_key}
use Rattle.judge.specs.Call.{judged}
use Rattle.judge.proofs.Deciding.{formed, none_due, over}
use Rattle.judge.proofs.judge.Goals as goal

pub check_list-requires : goal.check_list-requires
check_list-requires c =
    let w = (formed (job_in c.args.job.now) _ (sym c.in_ok-check_without_triangles.was ∙ c.check_without_triangles.ensures)).0 in
    (w.valid, w.bounded.few, w.weights_there, w.rows_ascend)

pub least-requires : goal.least-requires
least-requires c = formed (job_in c.args.job.now) _ (sym c.in_ok-check_without_triangles.was ∙ c.check_without_triangles.ensures)

-- the list is a triangulation, so there is a least total
pub unwrap-least-requires : goal.unwrap-least-requires
unwrap-least-requires c =
    let o = over (job_in c.args.job.now) _ (sym c.in_ok-check_without_triangles.was ∙ c.check_without_triangles.ensures) _ _
    (sym c.in_ok-check_list.was ∙ c.check_list.ensures) in
    rw (c.least.ensures.total ∙ o.2) refl

pub overflow_sub-result : goal.overflow_sub-result
overflow_sub-result c =
    let o = over (job_in c.args.job.now) _ (sym c.in_ok-check_without_triangles.was ∙ c.check_without_triangles.ensures) _ _
    (sym c.in_ok-check_list.was ∙ c.check_list.ensures) in
    omega (arith, o.0, with_key _ (sym c.unwrap-least.ensures ∙ c.least.ensures.total))

pub returns-clause-tables : goal.returns-clause-tables
unfolding judged
returns-clause-tables c =
    let a = sym c.in_ok-check_without_triangles.was ∙ c.check_without_triangles.ensures in
    let b = sym c.in_ok-check_list.was ∙ c.check_list.ensures in
    let z = none_due (job_in c.args.job.now) _ a _ _ b in
    let o = over (job_in c.args.job.now) _ a _ _ b in
    let e = with_key _ (sym c.unwrap-least.ensures ∙ c.least.ensures.total) in
    search rules

pub returns-clause-values : goal.returns-clause-values
returns-clause-values c =
    let a = sym c.in_ok-check_without_triangles.was ∙ c.check_without_triangles.ensures in
    let b = sym c.in_ok-check_list.was ∙ c.check_list.ensures in
    let z = none_due (job_in c.args.job.now) _ a _ _ b in
    let o = over (job_in c.args.job.now) _ a _ _ b in
    let e = with_key _ (sym c.unwrap-least.ensures ∙ c.least.ensures.total) in
    search rules
