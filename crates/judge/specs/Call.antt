-- What a call of the judge answers, and what it leaves in every place of the work table. Definitions only.
use Rattle.std.specs.Prelude.{ℕ, zero, suc, ◌-◌, Ok, Err, List, length, replicate}
use Rattle.std.specs.Prelude as prelude
use Rattle.codes.specs.Refusals.{refusal, number_of}
use Rattle.codes.specs.declared.Refusal.{Refusal}
use Rattle.lists.specs.Lists.{filled}
use Rattle.terms.specs.Numbers.{first_due}
use Rattle.triangulation.specs.Triangulations.{Answer, none, patch, best}
use Rattle.triangulation.specs.Problems.{problem_of}
use Rattle.jobs.specs.Job.{Job, code_without_triangles}
use Rattle.validation.specs.Validation.{list_code}

-- a judgement: an acceptance with the excess, or a refusal (rule 5.10)
abbrev pub Judgement : Type 0
Judgement = prelude.Result ℕ Refusal

-- the excess of an acceptance, 0 in a refusal (rule 5.10)
abbrev pub excess_of : Judgement → ℕ
excess_of (Ok excess) = excess
excess_of (Err r) = 0

-- the number and the excess together (rule 5.10)
pub record Values : Type 0 where
  pub number : ℕ
  pub excess : ℕ

abbrev pub values : ℕ → ℕ → Values
values k x = record { number = k; excess = x }

abbrev pub values_of : Judgement → Values
values_of j = values (number_of j) (excess_of j)

-- what they are: where no number is due 0 and the excess, else the number and 0 (rule 5.10)
abbrev pub due_values : ℕ → ℕ → Values
due_values zero excess = values 0 excess
due_values (suc k) excess = values (suc k) 0

-- how far a stated total is above the least (rule 3.14); a job without a tiling has no list to accept
abbrev pub excess_over : Answer → ℕ → ℕ
excess_over none stated = 0
excess_over (patch least triangles) stated = stated - least

-- the number of the job, with no triangle table, and then that of the list (rule 4.36)
unfoldable pub judge_code : Job → List ℕ → ℕ → ℕ → ℕ
judge_code job list stated workPlaces = first_due (code_without_triangles job workPlaces) (list_code (problem_of job) list stated)

-- the values of a judgement, by the first number due (rule 5.10)
abbrev pub judged_values : Job → List ℕ → ℕ → ℕ → Values
judged_values job list stated workPlaces = due_values (judge_code job list stated workPlaces) (excess_over (best (problem_of job)) stated)

-- a judgement, and what the work table holds after the call (rule 5.10)
pub record Result : Type 0 where
  pub judgement : Judgement
  pub work : List ℕ

abbrev pub result_of : Judgement → List ℕ → Result
result_of j w = record { judgement = j; work = w }

-- an acceptance leaves 0 in a place for each candidate (rule 3.9); a refusal changes no table (rule 4.30)
abbrev pub settled : ℕ → ℕ → ℕ → List ℕ → Result
settled zero excess count work = result_of (Ok excess) (filled (replicate count 0) work)
settled (suc k) excess count work = result_of (Err (refusal (suc k))) work

-- the call, by the first number due on it (rules 3.14, 4.36)
unfoldable pub judged : Job → List ℕ → ℕ → List ℕ → Result
judged job list stated work =
    settled (judge_code job list stated (length work)) (excess_over (best (problem_of job)) stated) (length job.candidates) work
