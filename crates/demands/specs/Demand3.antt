-- What a call on a polygon left in its five tables, as demands 2 and 3 speak of it. Definitions only.
use Rattle.std.specs.Prelude.{List, ℕ, take}
use Rattle.polygon.specs.declared.Polygon.{Polygon}
use Rattle.finder.specs.Sizes.{places_of}
use Rattle.jobs.specs.Job.{Job, job_of}
use Rattle.triangulation.specs.Triangulations.{Problem, Answer}
use Rattle.triangulation.specs.Problems.{problem_of}
use Rattle.triangulation.specs.Demand3.{Demand3}
use Rattle.triangulator.specs.Call.{result_of}
use Rattle.triangulator.specs.Demands.{stated, Handed, RestLeft}
use Rattle.pipeline.specs.Patching.{Tables, Patching, handed_back}
use Rattle.demands.specs.Demand2.{TablesHold}
use Rattle.demands.specs.Quarters.{InQuarters}

-- the candidate, weight and row tables have the polygon's lists in their first places, and in each further place what they held (rule 3.9)
abbrev pub ListsLeft : Polygon → Tables → Tables → Type 0
ListsLeft p t left =
    TablesHold p (places_of p).candidates (places_of p).rows t.candidates t.weights t.rows left.candidates left.weights left.rows

-- what these tables have in their first places, one for each candidate and one for each row (rule 3.9)
abbrev pub candidates_left_of : Polygon → Tables → List (List ℕ)
candidates_left_of p left = take (places_of p).candidates left.candidates

abbrev pub weights_left : Polygon → Tables → List ℕ
weights_left p left = take (places_of p).candidates left.weights

abbrev pub rows_left_of : Polygon → Tables → List (List ℕ)
rows_left_of p left = take (places_of p).rows left.rows

-- lengths in quarters, of these lists (rules 2.7, 2.10)
abbrev pub QuartersLeft : Polygon → Tables → Type 0
QuartersLeft p left = InQuarters p (candidates_left_of p left) (weights_left p left) (rows_left_of p left)

-- the job that they state (rule 3.1)
abbrev pub job_left : Polygon → Tables → Job
job_left p left = job_of p.n (candidates_left_of p left) (weights_left p left) (rows_left_of p left)

abbrev pub problem_left : Polygon → Tables → Problem
problem_left p left = problem_of (job_left p left)

-- the answer that the outcome states with its triangle table (rule 3.8)
abbrev pub answer_in : Patching → Answer
answer_in x = stated x.outcome x.left.triangles

-- the answer is right for the lists that the call left (rule 3.7)
abbrev pub RightOfTables : Polygon → Patching → Type 0
RightOfTables p x = Demand3 (problem_left p x.left) (answer_in x)

-- so is what is handed back with it (rule 3.8)
abbrev pub HandedOfTables : Polygon → Patching → Type 0
HandedOfTables p x = Handed (problem_left p x.left) (handed_back x) x.outcome

-- what the call left in its triangle and work tables beside the patch (rules 3.8, 3.9)
abbrev pub RestOfTables : Polygon → Tables → Patching → Type 0
RestOfTables p t x = RestLeft (places_of p).candidates t.triangles t.work (result_of x.outcome x.left.triangles x.left.work)
