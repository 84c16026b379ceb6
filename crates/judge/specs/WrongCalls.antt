-- What wrong judges would answer and leave. That none of it is right is proved (proofs/WrongCalls.antt); nobody has to believe it.
use Rattle.std.specs.Prelude.{ℕ, Ok, Err, List, [], ◌∷◌}
use Rattle.codes.specs.Refusals.{refusal}
use Rattle.terms.specs.Entries.{triple}
use Rattle.jobs.specs.Job.{Job, job_of}
use Rattle.jobs.specs.Cases.{single, job_p}
use Rattle.judge.specs.Call.{Result, result_of}
use Rattle.judge.specs.Cases.{accepted, refused}

-- a job, a list and a total, and what a program answers and leaves
pub record Call : Type 0 where
  pub direct : Job
  pub list : List ℕ
  pub stated : ℕ
  pub leaves : Result

abbrev pub call : Job → List ℕ → ℕ → Result → Call
call direct list stated leaves = record { direct = direct; list = list; stated = stated; leaves = leaves }

-- a band of five triangles along a rim of five vertices, turned once: each rim edge is in one of them and every other edge in two, but on one side; and a fan
abbrev pub band : Job
band = job_of 5
    (triple 0 1 2 ∷ triple 0 1 3 ∷ triple 0 2 3 ∷ triple 0 2 4 ∷ triple 0 3 4 ∷ triple 1 2 4 ∷ triple 1 3 4 ∷ [])
    (1 ∷ 1 ∷ 1 ∷ 1 ∷ 1 ∷ 1 ∷ 1 ∷ []) []

abbrev pub wrong_calls : List Call
wrong_calls =
    -- edges counted without their sides
    call band (1 ∷ 2 ∷ 3 ∷ 5 ∷ 6 ∷ []) 5 (result_of (Ok 2) (0 ∷ 0 ∷ 0 ∷ 0 ∷ 0 ∷ 0 ∷ 0 ∷ 9 ∷ []))
    -- a repeat let through, uncounted and counted
    ∷ call job_p (1 ∷ 3 ∷ 3 ∷ []) 943 (accepted 0)
    ∷ call job_p (1 ∷ 3 ∷ 3 ∷ []) 1630 (accepted 687)
    -- 22 before 21
    ∷ call job_p (1 ∷ 1 ∷ []) 943 (refused 22)
    -- the excess against the stated total
    ∷ call job_p (0 ∷ 2 ∷ []) 1000 (accepted 0)
    -- the row of a pair that is not in the list counted
    ∷ call job_p (1 ∷ 3 ∷ []) 1303 (accepted 360)
    -- the rows left out
    ∷ call job_p (1 ∷ 3 ∷ []) 629 (accepted 0)
    -- the work table cleared on 21
    ∷ call job_p (1 ∷ 2 ∷ []) 943 (result_of (Err (refusal 21)) (0 ∷ 0 ∷ 0 ∷ 0 ∷ 9 ∷ []))
    -- an order asked of the list
    ∷ call job_p (3 ∷ 1 ∷ []) 943 (refused 21)
    -- the list taken for a table that is too short
    ∷ call job_p (1 ∷ []) 943 (refused 13)
    -- the list tested before the job
    ∷ call (job_of 2 [] [] []) [] 0 (result_of (Err (refusal 21)) (9 ∷ []))
    -- 'none' for a job without a tiling
    ∷ call (job_of 3 [] [] []) [] 0 (result_of (Ok 0) (9 ∷ []))
    -- the work table left with the totals
    ∷ call single (0 ∷ []) 5 (result_of (Ok 0) (5 ∷ 9 ∷ []))
    ∷ []
