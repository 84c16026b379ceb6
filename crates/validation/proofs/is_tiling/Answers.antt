-- `validation::is_tiling` meets its contract. Assumes nothing.
use Rattle.std.proofs.Common.{sym, ◌∙◌}
use Rattle.jobs.specs.Job.{job_in}
use Rattle.validation.proofs.Deciding.{other_names, triangles_are, edges_are}
use Rattle.validation.proofs.is_tiling.Goals as goal

pub new-requires : goal.new-requires
new-requires c = triangles_are (job_in c.args.job.now) _ c.requires.0 c.requires.1 (sym c.names_triangles.ensures ∙ c.if-names_triangles.true)

pub returns-then-names_triangles : goal.returns-then-names_triangles
returns-then-names_triangles c =
    c.is_triangulation.ensures
    ∙ rw (c.new.ensures.0, c.new.ensures.1) (edges_are (job_in c.args.job.now) _ c.requires.0 c.requires.1
    (sym c.names_triangles.ensures ∙ c.if-names_triangles.true))

pub returns-else-names_triangles : goal.returns-else-names_triangles
returns-else-names_triangles c =
    c.if-names_triangles.false
    ∙ sym (other_names (job_in c.args.job.now) _ c.requires.0 c.requires.1 (sym c.names_triangles.ensures ∙ c.if-names_triangles.false))
