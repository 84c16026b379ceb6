-- The problem that a job states (rule 3.1), and the limits that an accepted one keeps. Definitions only.
use Rattle.std.specs.Prelude.{ℕ, ◌≤◌, ◌<◌, cond, List, [], ◌∷◌, length, get_or, eqb}
use Rattle.lists.specs.Lists.{both}
use Rattle.terms.specs.Limits.{max_vertices, max_weight}
use Rattle.terms.specs.Entries.{entry_at, vertex_a, vertex_b, vertex_c, outer, inner, row_weight}
use Rattle.jobs.specs.Job.{Job}
use Rattle.triangulation.specs.Triangulations.{Problem}

-- the weight of the row with outer o and inner i, 0 where there is none (rule 3.4)
abbrev pub pair_weight : List (List ℕ) → ℕ → ℕ → ℕ
pair_weight [] o i = 0
pair_weight (r ∷ rows) o i = cond (both (eqb (outer r) o) (eqb (inner r) i)) (row_weight r) (pair_weight rows o i)

-- of candidates (a, b, c), their weights, and rows (outer, inner, weight) (rule 3.1)
abbrev pub problem_from : ℕ → List (List ℕ) → List ℕ → List (List ℕ) → Problem
problem_from n candidates weights rows = record {
  n = n;
  size = length candidates;
  a = λ k. vertex_a (entry_at candidates k);
  b = λ k. vertex_b (entry_at candidates k);
  c = λ k. vertex_c (entry_at candidates k);
  weight = λ k. get_or weights k 0;
  row = pair_weight rows;
}

abbrev pub problem_of : Job → Problem
problem_of job = problem_from job.n job.candidates job.weights job.rows

-- what rules 4.14 and 4.17 leave: the vertices and every weight within their limits
pub record Bounded (job : Problem) : Type 0 where
  pub few : job.n ≤ max_vertices
  pub light : (k : ℕ) → k < job.size → job.weight k ≤ max_weight
  pub row_light : (o i : ℕ) → job.row o i ≤ max_weight
