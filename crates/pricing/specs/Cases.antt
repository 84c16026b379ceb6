-- The two calls over tables with one place more than needed, each holding 9, for the worked cases of rules 6.2 to 6.4 and 6.10. Definitions only.
use Rattle.std.specs.Prelude.{ℕ, ◌+◌, ◌-◌, List, [], ◌∷◌, length, replicate, Some, Ok, Err}
use Rattle.codes.specs.Refusals.{refusal}
use Rattle.jobs.specs.Job.{Job}
use Rattle.triangulator.specs.Call.{patch_with, Result, result_of}
use Rattle.pricing.specs.Quote.{priced}
use Rattle.pricing.specs.Quote as price
use Rattle.pricing.specs.Patch.{patched_at}

-- the calls on such tables
abbrev pub priced_on : Job → price.Result
priced_on l = priced l (replicate (length l.candidates + 1) 9)

abbrev pub patched_on : Job → ℕ → Result
patched_on l agreed = patched_at l agreed (replicate (l.n - 1) 9) (replicate (length l.candidates + 1) 9)

-- the work table of four candidates, cleared
abbrev pub cleared : List ℕ
cleared = 0 ∷ 0 ∷ 0 ∷ 0 ∷ 9 ∷ []

-- what a patch should answer and leave, of four vertices and four candidates: two triangles, or 23
abbrev pub two_triangles : ℕ → ℕ → ℕ → Result
two_triangles total t u = result_of (Ok (Some (patch_with 2 total))) (t ∷ u ∷ 9 ∷ []) cleared

abbrev pub not_least_result : Result
not_least_result = result_of (Err (refusal 23)) (9 ∷ 9 ∷ 9 ∷ []) cleared
