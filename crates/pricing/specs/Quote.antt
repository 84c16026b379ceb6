-- What the call that prices a direct job answers, and what it leaves in every place of the work table. Definitions only.
use Rattle.std.specs.Prelude.{ℕ, zero, suc, ◌-◌, List, length, replicate, Some, None, Ok, Err}
use Rattle.codes.specs.Refusals.{refusal}
use Rattle.lists.specs.Lists.{filled}
use Rattle.triangulation.specs.Triangulations.{Answer, none, patch, best}
use Rattle.triangulation.specs.Problems.{problem_of}
use Rattle.jobs.specs.Job.{Job, code_without_triangles}
use Rattle.triangulator.specs.Call.{Outcome, patch_with, Values, due_values}

-- the values of the call, by the first number due: those of the answer on the job (rules 4.37, 5.11)
abbrev pub priced_values : Job → ℕ → Values
priced_values job workPlaces = due_values (code_without_triangles job workPlaces) job.n (best (problem_of job))

-- a quote, and what the work table holds after the call (rule 5.11)
pub record Result : Type 0 where
  pub quote : Outcome
  pub work : List ℕ

abbrev pub result_of : Outcome → List ℕ → Result
result_of q w = record { quote = q; work = w }

-- the quote on a job of n vertices with this answer: the answer's total, or 'none' (rule 3.15)
abbrev pub quote_of : ℕ → Answer → Outcome
quote_of n none = Ok None
quote_of n (patch total l) = Ok (Some (patch_with (n - 2) total))

-- a total and 'none' leave 0 in a place for each candidate (rule 3.9); a refusal changes no table (rule 4.30)
abbrev pub settled : ℕ → Outcome → ℕ → List ℕ → Result
settled zero quote count work = result_of quote (filled (replicate count 0) work)
settled (suc k) quote count work = result_of (Err (refusal (suc k))) work

-- the call, by the first number due on the job beside this work table (rules 3.15, 4.37)
unfoldable pub priced : Job → List ℕ → Result
priced job work = settled (code_without_triangles job (length work)) (quote_of job.n (best (problem_of job))) (length job.candidates) work
