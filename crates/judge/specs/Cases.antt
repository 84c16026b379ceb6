-- Judgements of direct jobs over a work table with one place more than needed, each holding 9, for the worked cases of rule 6.9. Definitions only.
use Rattle.std.specs.Prelude.{ℕ, ◌+◌, Ok, Err, List, [], ◌∷◌, length, replicate}
use Rattle.codes.specs.Refusals.{refusal}
use Rattle.jobs.specs.Job.{Job}
use Rattle.judge.specs.Call.{Result, result_of, judged}

-- the call on such a table
abbrev pub judged_on : Job → List ℕ → ℕ → Result
judged_on l list stated = judged l list stated (replicate (length l.candidates + 1) 9)

-- what it should answer and leave, of four candidates
abbrev pub accepted : ℕ → Result
accepted excess = result_of (Ok excess) (0 ∷ 0 ∷ 0 ∷ 0 ∷ 9 ∷ [])

abbrev pub refused : ℕ → Result
refused number = result_of (Err (refusal number)) (9 ∷ 9 ∷ 9 ∷ 9 ∷ 9 ∷ [])
