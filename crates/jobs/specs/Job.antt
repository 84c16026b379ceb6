-- A job, the tests of a direct one (rules 4.13 to 4.17), and the number that they give. Definitions only.
use Rattle.std.specs.Prelude.{Bool, cond, List, ℕ, ◌-◌, length, get_or, eqb, ltb, leb}
use Rattle.lists.specs.Lists.{every, both, either}
use Rattle.jobs.specs.declared.Job as lent
use Rattle.terms.specs.Limits.{count_fits, max_weight}
use Rattle.terms.specs.Entries.{entry_at, vertex_a, vertex_b, vertex_c, outer, inner, row_weight, before, row_before, hangs}

-- a job (rule 3.1): n vertices, candidates [a, b, c], a table of weights that begins with theirs, and rows [outer, inner, weight]
pub record Job : Type 0 where
  pub n : ℕ
  pub candidates : List (List ℕ)
  pub weights : List ℕ
  pub rows : List (List ℕ)

abbrev pub job_of : ℕ → List (List ℕ) → List ℕ → List (List ℕ) → Job
job_of n candidates weights rows = record { n = n; candidates = candidates; weights = weights; rows = rows }

-- the job that a caller of a function lends (rule 3.1)
abbrev pub job_in : lent.Job → Job
job_in job = job_of job.n job.candidates.now job.weights.now job.rows.now

-- a lent table has the places needed (rule 4.13)
abbrev pub enough : ℕ → ℕ → Bool
enough needed lent = leb needed lent

-- a < b < c < n (rule 4.15)
unfoldable pub ascends : ℕ → ℕ → ℕ → ℕ → Bool
ascends n a b c = both (ltb a b) (both (ltb b c) (ltb c n))

-- candidate i is a < b < c < n and strictly after the one before it (rule 4.15)
unfoldable pub candidate_fits : ℕ → List (List ℕ) → ℕ → Bool
candidate_fits n candidates i =
    both (ascends n (vertex_a (entry_at candidates i)) (vertex_b (entry_at candidates i)) (vertex_c (entry_at candidates i)))
    (either (eqb i 0) (before (entry_at candidates (i - 1)) (entry_at candidates i)))

abbrev pub candidates_fit : ℕ → List (List ℕ) → Bool
candidates_fit n candidates = every 0 (length candidates) (candidate_fits n candidates)

-- o and i are numbers of candidates, and i hangs on o (rule 4.16)
unfoldable pub names_pair : List (List ℕ) → ℕ → ℕ → Bool
names_pair candidates o i =
    both (ltb o (length candidates))
    (both (ltb i (length candidates)) (hangs (entry_at candidates i) (entry_at candidates o)))

-- row i names a hanging pair and is strictly after the row before it (rule 4.16)
unfoldable pub row_fits : List (List ℕ) → List (List ℕ) → ℕ → Bool
row_fits candidates rows i =
    both (names_pair candidates (outer (entry_at rows i)) (inner (entry_at rows i)))
    (either (eqb i 0) (row_before (entry_at rows (i - 1)) (entry_at rows i)))

abbrev pub rows_fit : List (List ℕ) → List (List ℕ) → Bool
rows_fit candidates rows = every 0 (length rows) (row_fits candidates rows)

-- no weight of a candidate is over the limit (rule 4.17); only the first places of the table are weights of candidates
abbrev pub weights_fit : List ℕ → ℕ → Bool
weights_fit weights count = every 0 count (λ i. leb (get_or weights i 0) max_weight)

-- nor one of a row (rule 4.17)
abbrev pub row_weights_fit : List (List ℕ) → Bool
row_weights_fit rows = every 0 (length rows) (λ i. leb (row_weight (entry_at rows i)) max_weight)

-- the number of a test that fails, else what comes after it
abbrev pub unless : Bool → ℕ → ℕ → ℕ
unless test number next = cond test next number

-- 14 alone, or 0 (rule 4.14)
abbrev pub count_code : ℕ → ℕ
count_code n = unless (count_fits n) 14 0

-- 13 for the weights, 15, 16 and 17: all that a job's lists are tested for (rule 4.32)
unfoldable pub lists_code : Job → ℕ
lists_code job =
    unless (enough (length job.candidates) (length job.weights)) 13
    (unless (candidates_fit job.n job.candidates) 15
    (unless (rows_fit job.candidates job.rows) 16
    (unless (both (weights_fit job.weights (length job.candidates)) (row_weights_fit job.rows)) 17 0)))

-- the number of a job and of the places lent with it, 0 where it is accepted: that it is the first number due is proved (Due.antt) (rule 4.32)
unfoldable pub job_code : Job → ℕ → ℕ → ℕ
job_code job trianglePlaces workPlaces =
    unless (count_fits job.n) 14
    (unless (enough (job.n - 2) trianglePlaces) 13
    (unless (enough (length job.candidates) workPlaces) 13
    (lists_code job)))

-- the number where no triangle table is lent: as beside one that has its n - 2 places (rules 4.36, 4.37)
abbrev pub code_without_triangles : Job → ℕ → ℕ
code_without_triangles job workPlaces = job_code job (job.n - 2) workPlaces
