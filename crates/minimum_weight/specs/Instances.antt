-- The problem that an instance of the dynamic programme states. What functions say to each other; nobody has to believe it.
use Rattle.jobs.specs.Job.{job_in}
use Rattle.minimum_weight.specs.declared.instance.Instance.{Instance}
use Rattle.triangulation.specs.Triangulations.{Problem}
use Rattle.triangulation.specs.Problems.{problem_of}

abbrev pub problem_at : Instance → Problem
problem_at instance = problem_of (job_in instance.job)
