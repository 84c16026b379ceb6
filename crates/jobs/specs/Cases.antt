-- The direct jobs of the worked cases (rules 6.1 to 6.3, 6.9, 6.10). Definitions only.
use Rattle.std.specs.Prelude.{ℕ, List, [], ◌∷◌}
use Rattle.terms.specs.Entries.{triple}
use Rattle.jobs.specs.Job.{Job, job_of}

-- one candidate, of weight 5 (rule 6.2)
abbrev pub single : Job
single = job_of 3 (triple 0 1 2 ∷ []) (5 ∷ []) []

-- four vertices with all four triples (rule 6.3)
abbrev pub quadrilateral : List ℕ → List (List ℕ) → Job
quadrilateral weights rows = job_of 4 (triple 0 1 2 ∷ triple 0 1 3 ∷ triple 0 2 3 ∷ triple 1 2 3 ∷ []) weights rows

-- two tilings of equal total; and one where a row makes the earlier dearer, or names a pair that does not hang (rule 6.3)
abbrev pub ties : List (List ℕ) → Job
ties rows = quadrilateral (1 ∷ 1 ∷ 1 ∷ 1 ∷ []) rows

-- the lists that rim file P gives (rule 6.1); and with other weights of candidates 0 and 1 (rule 6.10)
abbrev pub edited_p : ℕ → ℕ → Job
edited_p weight0 weight1 = quadrilateral (weight0 ∷ weight1 ∷ 320 ∷ 373 ∷ []) (triple 1 3 314 ∷ triple 2 0 360 ∷ [])

abbrev pub job_p : Job
job_p = edited_p 320 256
