-- `pricing::patch` meets its contract on an accepted job. Assumes nothing.
use Rattle.std.proofs.Common.{◌∙◌, sym, ap, arith}
use Rattle.jobs.specs.Job.{job_in}
use Rattle.triangulation.specs.Triangulations.{best_key, answer_of}
use Rattle.triangulation.specs.Problems.{problem_of}
use Rattle.triangulation.proofs.Demand3.{best_length}
use Rattle.pricing.specs.Patch.{patched_at}
use Rattle.pricing.proofs.Accepted.{none_due, formed}
use Rattle.pricing.proofs.Settling.{patch_none, patch_whole}
use Rattle.pricing.proofs.patch.Goals as goal

pub solve-found-requires : goal.solve-found-requires
solve-found-requires c = formed (job_in c.args.job.now) _ _ (sym c.in_ok-check.was ∙ c.check.ensures)

pub returns-in_default : goal.returns-in_default
unfolding patched_at
returns-in_default c =
    let job = job_in c.args.job.now in
    let ok = sym c.in_ok-check.was ∙ c.check.ensures in
    let e = c.solve-found.ensures in
    let p = patch_none job.n _ _ c.args.agreed (none_due job _ _ ok) c.args.triangles.now c.args.work.now (best_key (problem_of job)) e.triangles e.work
    (sym c.in_default.is ∙ e.total) in
    record { tables = p.0; values = p.1 }

pub overflow_sub-result : goal.overflow_sub-result
overflow_sub-result c =
    let f = formed (job_in c.args.job.now) _ _ (sym c.in_ok-check.was ∙ c.check.ensures) in
    omega (arith, f.0.valid.n3)

pub returns : goal.returns
unfolding patched_at
returns c =
    let job = job_in c.args.job.now in
    let ok = sym c.in_ok-check.was ∙ c.check.ensures in
    let e = c.solve-found.ensures in
    let p = patch_whole job.n _ _ c.args.agreed (none_due job _ _ ok) c.args.triangles.now c.args.work.now (best_key (problem_of job)) e.triangles e.work
    _ (sym c.in-Some.is ∙ e.total) (omega (arith, c.if-least-agreed.false))
    (λ x l q. best_length (problem_of job) (formed job _ _ ok).0.valid x l (ap answer_of q)) in
    record { tables = p.0; values = p.1 }
