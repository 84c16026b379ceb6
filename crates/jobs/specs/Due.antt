-- The numbers due on a direct job and on the tables lent with it, each by itself and at its place, and which of two comes first. Definitions only.
use Rattle.std.specs.Prelude.{◌≡◌, false, List, ℕ, ◌+◌, ◌-◌, ◌<◌, length, get_or}
use Rattle.terms.specs.Limits.{min_vertices, max_vertices, max_weight}
use Rattle.terms.specs.Entries.{entry_at, vertex_a, vertex_b, vertex_c, outer, inner, row_weight, before, row_before}
use Rattle.terms.specs.Order.{First, NoneDue}
use Rattle.jobs.specs.Job.{Job, ascends, names_pair}

-- a number is due on the count of vertices, on the lent tables, or on the lists (rule 4.32)
pub data JobPlace : Type 0 where
  count : JobPlace
  tables : JobPlace
  lists : JobPlace

-- one place comes before another (rule 4.32): the count, the tables, the lists
pub data JobBefore : JobPlace → JobPlace → Type 0 where
  count_tables : JobBefore count tables
  count_lists : JobBefore count lists
  tables_lists : JobBefore tables lists

-- of a job, and the places of its triangle and work tables
module _ (job : Job) (trianglePlaces workPlaces : ℕ) where
  abbrev candidate : ℕ → List ℕ
  candidate i = entry_at job.candidates i

  abbrev row : ℕ → List ℕ
  row i = entry_at job.rows i

  -- number k is due at a place (rules 4.13 to 4.17)
  pub data JobDue : JobPlace → ℕ → Type 0 where
    -- n is not from 3 to 64 (rule 4.14)
    few_vertices : job.n < min_vertices → JobDue count 14
    many_vertices : max_vertices < job.n → JobDue count 14
    -- a lent table has too few places (rule 4.13)
    few_triangles : trianglePlaces < job.n - 2 → JobDue tables 13
    little_work : workPlaces < length job.candidates → JobDue tables 13
    few_weights : length job.weights < length job.candidates → JobDue tables 13
    -- a candidate is not a < b < c < n, or does not come strictly after the one before it (rule 4.15)
    no_triangle : (i : ℕ) → i < length job.candidates →
        ascends job.n (vertex_a (candidate i)) (vertex_b (candidate i)) (vertex_c (candidate i)) ≡ false → JobDue lists 15
    candidate_not_after : (i : ℕ) → i + 1 < length job.candidates → before (candidate i) (candidate (i + 1)) ≡ false → JobDue lists 15
    -- a row names a candidate that there is not, or a pair that does not hang, or does not come strictly after the row before it (rule 4.16)
    no_pair : (i : ℕ) → i < length job.rows → names_pair job.candidates (outer (row i)) (inner (row i)) ≡ false → JobDue lists 16
    row_not_after : (i : ℕ) → i + 1 < length job.rows → row_before (row i) (row (i + 1)) ≡ false → JobDue lists 16
    -- a weight of a candidate or of a row is over 2,000,000,000 (rule 4.17)
    heavy : (i : ℕ) → i < length job.candidates → max_weight < get_or job.weights i 0 → JobDue lists 17
    heavy_row : (i : ℕ) → i < length job.rows → max_weight < row_weight (row i) → JobDue lists 17

  -- the first number due on a job (rule 4.32)
  abbrev pub FirstDue : ℕ → Type 0
  FirstDue = First JobBefore JobDue

  -- the job is accepted: no number is due (rule 4.33)
  abbrev pub Accepted : Type 0
  Accepted = NoneDue JobDue

-- the job is accepted beside a work table of so many places, where no triangle table is lent (rules 4.36, 4.37)
abbrev pub AcceptedWithoutTriangles : Job → ℕ → Type 0
AcceptedWithoutTriangles job workPlaces = Accepted job (job.n - 2) workPlaces

-- a call that goes on testing once the job is accepted: a number is due at a place of the job, or after it (rules 4.36, 4.37)
pub data JobCallPlace : Type 0 where
  job_at : JobPlace → JobCallPlace
  after_job : JobCallPlace

-- one place comes before another (rules 4.36, 4.37): those of the job in their order, then what comes after it
pub data JobCallBefore : JobCallPlace → JobCallPlace → Type 0 where
  job_job : {p q : JobPlace} → JobBefore p q → JobCallBefore (job_at p) (job_at q)
  job_after : {p : JobPlace} → JobCallBefore (job_at p) after_job
