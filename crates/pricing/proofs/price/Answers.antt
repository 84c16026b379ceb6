-- `pricing::price` meets its contract on an accepted job. Assumes nothing.
use Rattle.std.proofs.Common.{◌∙◌, sym, arith}
use Rattle.jobs.specs.Job.{job_in}
use Rattle.triangulation.specs.Triangulations.{best_key}
use Rattle.triangulation.specs.Problems.{problem_of}
use Rattle.pricing.specs.Quote.{priced}
use Rattle.pricing.proofs.Accepted.{none_due, formed}
use Rattle.pricing.proofs.Settling.{quote_none}
use Rattle.pricing.proofs.price.Goals as goal

pub least-found-requires : goal.least-found-requires
least-found-requires c =
    let f = formed (job_in c.args.job.now) _ _ (sym c.in_ok-check_without_triangles.was ∙ c.check_without_triangles.ensures) in
    (f.0, f.1)

pub returns-in_default : goal.returns-in_default
unfolding priced
returns-in_default c =
    let job = job_in c.args.job.now in
    let ok = sym c.in_ok-check_without_triangles.was ∙ c.check_without_triangles.ensures in
    let e = c.least-found.ensures in
    let p = quote_none job.n _ _ c.args.work.now (none_due job _ _ ok) (best_key (problem_of job)) e.work (sym c.in_default.is ∙ e.total) in
    record { tables = p.0; values = p.1 }

pub overflow_sub-triangles : goal.overflow_sub-triangles
overflow_sub-triangles c =
    let f = formed (job_in c.args.job.now) _ _ (sym c.in_ok-check_without_triangles.was ∙ c.check_without_triangles.ensures) in
    omega (arith, f.0.valid.n3)
