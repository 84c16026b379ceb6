-- Direct jobs at the edges of rules 4.13 to 4.17: the number of each by what the definitions compute, 0 where it is accepted. Assumes nothing.
use mathlib.Core.Path.{◌≡◌, refl}
use mathlib.Core.List.{List, [], ◌∷◌}
use Prim.Native.Nat.{ℕ, ◌+◌, ◌-◌}
use lib.ListN.{replicate, length}
use Rattle.terms.specs.Limits.{min_vertices, max_vertices, max_weight}
use Rattle.terms.specs.Entries.{triple, before, hangs, row_before}
use Rattle.lists.specs.Lists.{every_from}
use Rattle.jobs.specs.Job.{job_of, ascends, candidate_fits, names_pair, row_fits, lists_code, job_code}

-- all triples of four vertices
abbrev triples : List (List ℕ)
triples = triple 0 1 2 ∷ triple 0 1 3 ∷ triple 0 2 3 ∷ triple 1 2 3 ∷ []

-- a job with all weights 1 and tables of just the places needed
abbrev number_of : ℕ → List (List ℕ) → List (List ℕ) → ℕ
number_of n candidates rows = job_code (job_of n candidates (replicate (length candidates) 1) rows) (n - 2) (length candidates)

-- n below 3 and over 64; each table one place short, before a candidate out of order; a candidate twice; c = n; a row twice; a row to no candidate;
-- weights at the limit, over it past the candidates, and over it
abbrev edges : List ℕ
edges =
    number_of (min_vertices - 1) [] []
    ∷ number_of (max_vertices + 1) [] []
    ∷ job_code (job_of 3 (triple 1 0 2 ∷ []) (1 ∷ []) []) 0 1
    ∷ job_code (job_of 3 (triple 1 0 2 ∷ []) (1 ∷ []) []) 1 0
    ∷ job_code (job_of 3 (triple 1 0 2 ∷ []) [] []) 1 1
    ∷ number_of 3 (triple 0 1 2 ∷ triple 0 1 2 ∷ []) []
    ∷ number_of 3 (triple 0 1 3 ∷ []) []
    ∷ number_of 4 triples (triple 1 3 1 ∷ triple 1 3 1 ∷ [])
    ∷ number_of 4 triples (triple 1 4 1 ∷ [])
    ∷ job_code (job_of 3 (triple 0 1 2 ∷ []) (max_weight ∷ (max_weight + 1) ∷ []) []) 1 1
    ∷ job_code (job_of 3 (triple 0 1 2 ∷ []) ((max_weight + 1) ∷ []) []) 1 1
    ∷ number_of 4 triples (triple 1 3 (max_weight + 1) ∷ [])
    ∷ []

pub at_the_edges : edges ≡ 14 ∷ 14 ∷ 13 ∷ 13 ∷ 13 ∷ 15 ∷ 15 ∷ 16 ∷ 16 ∷ 0 ∷ 17 ∷ 17 ∷ []
unfolding every_from ascends before candidate_fits hangs names_pair row_before row_fits lists_code job_code
at_the_edges = refl
