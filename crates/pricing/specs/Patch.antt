-- What the call that patches a direct job at an agreed total answers, and what it leaves in every place of its tables. Definitions only.
use Rattle.std.specs.Prelude.{ℕ, zero, suc, cond, List, length, replicate, eqb, Err}
use Rattle.codes.specs.Refusals.{refusal}
use Rattle.lists.specs.Lists.{filled}
use Rattle.triangulation.specs.Triangulations.{Answer, none, patch, best}
use Rattle.triangulation.specs.Problems.{problem_of}
use Rattle.jobs.specs.Job.{Job, job_code}
use Rattle.triangulator.specs.Call.{Values, values, answer_values, Result, result_of, settled}

-- a refusal changes no table (rule 4.30), and comes before a patch and 'none' (rule 4.33)
abbrev pub refused_or : ℕ → List ℕ → List ℕ → Result → Result
refused_or zero triangles work otherwise = otherwise
refused_or (suc k) triangles work otherwise = result_of (Err (refusal (suc k))) triangles work

-- an answer where a total was agreed (rules 4.23, 4.37): 'none' whatever it was; where it is not the least total 23, which writes no triangle and leaves the
-- work table as 'none' does; else the patch
abbrev pub settled_at : ℕ → Answer → ℕ → List ℕ → List ℕ → Result
settled_at agreed none count triangles work = settled none count triangles work
settled_at agreed (patch total l) count triangles work =
    cond (eqb agreed total) (settled (patch total l) count triangles work) (result_of (Err (refusal 23)) triangles (filled (replicate count 0) work))

-- the call, by the first number due on the job (rules 4.32, 4.37)
unfoldable pub patched_at : Job → ℕ → List ℕ → List ℕ → Result
patched_at job agreed triangles work =
    refused_or (job_code job (length triangles) (length work)) triangles work
    (settled_at agreed (best (problem_of job)) (length job.candidates) triangles work)

-- its values (rules 5.2, 5.12)
abbrev pub values_at : ℕ → ℕ → Answer → Values
values_at agreed n none = answer_values n none
values_at agreed n (patch total l) = cond (eqb agreed total) (answer_values n (patch total l)) (values 23 0 0)

abbrev pub due_values_at : ℕ → ℕ → ℕ → Answer → Values
due_values_at zero agreed n answer = values_at agreed n answer
due_values_at (suc k) agreed n answer = values (suc k) 0 0

abbrev pub patched_at_values : Job → ℕ → ℕ → ℕ → Values
patched_at_values job agreed trianglePlaces workPlaces = due_values_at (job_code job trianglePlaces workPlaces) agreed job.n (best (problem_of job))

-- the single call that the two replace, which nothing makes: what they give in turn is measured by it (rules 4.32, 5.13)
unfoldable pub triangulated : Job → List ℕ → List ℕ → Result
triangulated job triangles work =
    refused_or (job_code job (length triangles) (length work)) triangles work
    (settled (best (problem_of job)) (length job.candidates) triangles work)
