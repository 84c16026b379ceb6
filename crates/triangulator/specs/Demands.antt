-- What the caller has after a call, for demands 1 and 3. Definitions only.
use Rattle.std.specs.Prelude.{◌≡◌, List, [], ℕ, ◌-◌, take, drop, replicate, Some, None, Ok, Err}
use Rattle.codes.specs.declared.Refusal.{Refusal}
use Rattle.triangulation.specs.Triangulations.{Problem, Answer, none, patch}
use Rattle.triangulation.specs.Demand3.{HandedBack}
use Rattle.triangulator.specs.Call.{Outcome, triangles_of, Result}
use Rattle.triangulator.specs.declared.Patch.{Patch}

-- a patch states its total and the candidate numbers in the first places of the triangle table (rule 3.8); a refusal states no patch, and is told
-- from none by `Taken`
abbrev pub stated : Outcome → List ℕ → Answer
stated (Ok (Some p)) table = patch p.total (take p.triangles table)
stated (Ok None) table = none
stated (Err r) table = none

-- the outcome is a patch or 'none' (rule 4.33)
pub data Taken : Outcome → Type 0 where
  a_patch : {p : Patch} → Taken (Ok (Some p))
  a_none : Taken (Ok None)

-- the part handed back with an outcome (rules 3.8, 4.30): after a patch its n - 2 triangles in walk order, each once; after anything else nothing
pub data Handed (job : Problem) (part : List ℕ) : Outcome → Type 0 where
  with_patch : {p : Patch} → p.triangles ≡ job.n - 2 → HandedBack job p.total part → Handed job part (Ok (Some p))
  with_none : part ≡ [] → Handed job part (Ok None)
  with_refusal : {r : Refusal} → part ≡ [] → Handed job part (Err r)

-- what a call on an accepted job leaves beside the patch, with 23 too (rules 3.8, 3.9, 4.23): 0 in a place of the work table for each candidate, and in
-- every further place of the work and triangle tables what it held
pub record RestLeft (count : ℕ) (triangles work : List ℕ) (after : Result) : Type 0 where
  pub zeros : take count after.work ≡ replicate count 0
  pub further_work : drop count after.work ≡ drop count work
  pub further_triangles : drop (triangles_of after.outcome) after.triangles ≡ drop (triangles_of after.outcome) triangles
