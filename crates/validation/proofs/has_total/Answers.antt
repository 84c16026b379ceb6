-- `validation::has_total` meets its contract. Assumes nothing.
use Rattle.std.proofs.Common.{rules}
use Rattle.jobs.specs.Job.{job_in}
use Rattle.validation.proofs.Deciding.{tiling_are, total_of}
use Rattle.validation.proofs.has_total.Goals as goal

pub new-selection-requires : goal.new-selection-requires
new-selection-requires c = tiling_are (job_in c.args.job.now) _ c.requires.0 c.requires.1 c.requires.4

pub new-requires : goal.new-requires
new-requires c = c.requires.3

pub total-requires : goal.total-requires
total-requires c = rw c.new-selection.ensures.0 c.requires.2

pub returns : goal.returns
returns c =
    let t = total_of (job_in c.args.job.now) _ c.requires.0 c.requires.1 c.requires.4 in
    search rules
