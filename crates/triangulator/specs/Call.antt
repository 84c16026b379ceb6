-- What a call that patches answers, and what it leaves in every place of the triangle and work tables. Definitions only.
use Rattle.std.specs.Prelude.{ℕ, zero, suc, ◌-◌, List, length, replicate, Option, Some, None, Ok, Err}
use Rattle.codes.specs.declared.Refusal.{Refusal}
use Rattle.codes.specs.Refusals.{number_of}
use Rattle.lists.specs.Lists.{filled, first_places}
use Rattle.triangulation.specs.Triangulations.{Answer, none, patch}
use Rattle.triangulator.specs.declared.Patch.{Patch}

-- what a call answers: a patch, 'none', or a refusal (rule 4.33)
abbrev pub Outcome : Type 0
Outcome = Rattle.std.specs.Prelude.Result (Option Patch) Refusal

-- the patch with so many triangles and this total (rule 5.2)
abbrev pub patch_with : ℕ → ℕ → Patch
patch_with count total = record { triangles = count; total = total }

-- the triangle count and the total of each case of an outcome; its number is `number_of` (rule 5.2)
abbrev pub triangles_of : Outcome → ℕ
triangles_of (Ok (Some p)) = p.triangles
triangles_of (Ok None) = 0
triangles_of (Err r) = 0

abbrev pub total_of : Outcome → ℕ
total_of (Ok (Some p)) = p.total
total_of (Ok None) = 0
total_of (Err r) = 0

-- the three together (rule 5.2)
pub record Values : Type 0 where
  pub number : ℕ
  pub triangles : ℕ
  pub total : ℕ

abbrev pub values : ℕ → ℕ → ℕ → Values
values k t x = record { number = k; triangles = t; total = x }

abbrev pub values_of : Outcome → Values
values_of o = values (number_of o) (triangles_of o) (total_of o)

-- what they are on n vertices: a patch gives 0, n - 2 and its total, 'none' three zeros, a number that is due itself and two zeros (rule 5.2)
abbrev pub answer_values : ℕ → Answer → Values
answer_values n none = values 0 0 0
answer_values n (patch total l) = values 0 (n - 2) total

abbrev pub due_values : ℕ → ℕ → Answer → Values
due_values zero n answer = answer_values n answer
due_values (suc k) n answer = values (suc k) 0 0

-- the part handed back: as many first places as the outcome says, none where the table is shorter (rule 3.8)
abbrev pub part_of : Outcome → List ℕ → List ℕ
part_of outcome table = first_places (triangles_of outcome) table

-- an outcome, and what the triangle and work tables hold after the call (rule 5.1)
pub record Result : Type 0 where
  pub outcome : Outcome
  pub triangles : List ℕ
  pub work : List ℕ

abbrev pub result_of : Outcome → List ℕ → List ℕ → Result
result_of o t w = record { outcome = o; triangles = t; work = w }

-- after a patch the first places of the triangle table hold it in walk order, after 'none' the table is as it was (rule 3.8); the work table holds
-- 0 in a place for each candidate, and every further place keeps what it held (rule 3.9)
abbrev pub settled : Answer → ℕ → List ℕ → List ℕ → Result
settled none count triangles work = result_of (Ok None) triangles (filled (replicate count 0) work)
settled (patch total l) count triangles work = result_of (Ok (Some (patch_with (length l) total))) (filled l triangles) (filled (replicate count 0) work)
