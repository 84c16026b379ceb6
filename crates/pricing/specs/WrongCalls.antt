-- What wrong tilers would answer and leave on direct jobs, most of them of rules 6.1 to 6.4 and 6.10. That none of it is right is proved
-- (proofs/WrongCalls.antt); nobody has to believe it.
use Rattle.std.specs.Prelude.{List, [], ◌∷◌, ℕ, Some, None, Ok, Err}
use Rattle.codes.specs.Refusals.{refusal}
use Rattle.terms.specs.Entries.{triple}
use Rattle.jobs.specs.Job.{Job, job_of}
use Rattle.jobs.specs.Cases.{single, job_p, edited_p, ties}
use Rattle.triangulator.specs.Call.{patch_with, Result, result_of}
use Rattle.pricing.specs.Quote as price
use Rattle.pricing.specs.Cases.{cleared, two_triangles, not_least_result}

-- a job, and what a program that prices it answers and leaves
pub record PriceCall : Type 0 where
  pub direct : Job
  pub leaves : price.Result

abbrev pub price_call : Job → price.Result → PriceCall
price_call l r = record { direct = l; leaves = r }

abbrev pub wrong_prices : List PriceCall
wrong_prices =
    -- a triangle table asked for
    price_call single (price.result_of (Err (refusal 13)) (9 ∷ 9 ∷ []))
    -- nothing done
    ∷ price_call single (price.result_of (Ok None) (9 ∷ 9 ∷ []))
    -- the total of another tiling, and the total without the rows
    ∷ price_call job_p (price.result_of (Ok (Some (patch_with 2 1000))) cleared)
    ∷ price_call job_p (price.result_of (Ok (Some (patch_with 2 629))) cleared)
    -- 'none' where the least total is 0, and the total 0 where there is no tiling
    ∷ price_call (job_of 3 (triple 0 1 2 ∷ []) (0 ∷ []) []) (price.result_of (Ok None) (0 ∷ 9 ∷ []))
    ∷ price_call (job_of 3 [] [] []) (price.result_of (Ok (Some (patch_with 1 0))) (9 ∷ []))
    -- the work table left with the totals
    ∷ price_call single (price.result_of (Ok (Some (patch_with 1 5))) (5 ∷ 9 ∷ []))
    -- one zero too many
    ∷ price_call single (price.result_of (Ok (Some (patch_with 1 5))) (0 ∷ 0 ∷ []))
    -- a refusal that clears the work table
    ∷ price_call (ties (triple 1 0 1 ∷ [])) (price.result_of (Err (refusal 16)) cleared)
    ∷ []

-- a job and an agreed total, and what a program that patches it answers and leaves
pub record PatchCall : Type 0 where
  pub direct : Job
  pub agreed : ℕ
  pub leaves : Result

abbrev pub patch_call : Job → ℕ → Result → PatchCall
patch_call l agreed r = record { direct = l; agreed = agreed; leaves = r }

abbrev pub wrong_patches : List PatchCall
wrong_patches =
    -- nothing done
    patch_call single 5 (result_of (Ok None) (9 ∷ 9 ∷ []) (9 ∷ 9 ∷ []))
    -- every job refused
    ∷ patch_call single 5 (result_of (Err (refusal 14)) (9 ∷ 9 ∷ []) (9 ∷ 9 ∷ []))
    -- 'none' without a look
    ∷ patch_call single 5 (result_of (Ok None) (9 ∷ 9 ∷ []) (0 ∷ 9 ∷ []))
    -- a total of its own
    ∷ patch_call single 5 (result_of (Ok (Some (patch_with 1 4))) (0 ∷ 9 ∷ []) (0 ∷ 9 ∷ []))
    -- another tiling, agreed at its own true total
    ∷ patch_call job_p 1000 (two_triangles 1000 2 0)
    -- the least total, and the triangles of another tiling
    ∷ patch_call job_p 943 (two_triangles 943 2 0)
    -- the first triangle twice
    ∷ patch_call (ties []) 2 (two_triangles 2 1 1)
    -- the later of two equal tilings
    ∷ patch_call (ties []) 2 (two_triangles 2 2 0)
    -- a missing row forbids its pair
    ∷ patch_call (ties []) 2 (result_of (Ok None) (9 ∷ 9 ∷ 9 ∷ []) cleared)
    -- the least area, with the rows added afterwards
    ∷ patch_call (ties (triple 1 3 1 ∷ [])) 3 (two_triangles 3 1 3)
    -- a refusal that clears the work table
    ∷ patch_call (ties (triple 1 0 1 ∷ [])) 2 (result_of (Err (refusal 16)) (9 ∷ 9 ∷ 9 ∷ []) cleared)
    -- a hole taken for a patch
    ∷ patch_call (job_of 5 (triple 0 1 2 ∷ triple 0 2 4 ∷ []) (1 ∷ 1 ∷ []) []) 2
    (result_of (Ok (Some (patch_with 3 2))) (1 ∷ 0 ∷ 9 ∷ 9 ∷ []) (0 ∷ 0 ∷ 9 ∷ []))
    -- the patch of the job as it was priced, after edits: its total is no longer the least, and another patch has it
    ∷ patch_call (edited_p 320 257) 943 (two_triangles 943 1 3)
    ∷ patch_call (edited_p 262 256) 943 (two_triangles 943 1 3)
    ∷ patch_call (edited_p 263 257) 943 (two_triangles 943 1 3)
    -- 23 before 'none'
    ∷ patch_call (job_of 3 [] [] []) 1 (result_of (Err (refusal 23)) (9 ∷ 9 ∷ []) (9 ∷ []))
    -- 23 before a number of the job
    ∷ patch_call (ties (triple 1 0 1 ∷ [])) 7 not_least_result
    -- a figure one too high taken, and one too low, with the least total or the agreed one
    ∷ patch_call job_p 944 (two_triangles 943 1 3)
    ∷ patch_call job_p 944 (two_triangles 944 1 3)
    ∷ patch_call job_p 942 (two_triangles 943 1 3)
    -- 0 taken for no figure, and figures compared in 32 bits
    ∷ patch_call job_p 0 (two_triangles 943 1 3)
    ∷ patch_call job_p 4294968239 (two_triangles 943 1 3)
    -- 23 with the triangles written
    ∷ patch_call job_p 944 (result_of (Err (refusal 23)) (1 ∷ 3 ∷ 9 ∷ []) cleared)
    -- 23 with the totals left in the work table, and with the work table as it was
    ∷ patch_call job_p 944 (result_of (Err (refusal 23)) (9 ∷ 9 ∷ 9 ∷ []) (320 ∷ 629 ∷ 320 ∷ 373 ∷ 9 ∷ []))
    ∷ patch_call job_p 944 (result_of (Err (refusal 23)) (9 ∷ 9 ∷ 9 ∷ []) (9 ∷ 9 ∷ 9 ∷ 9 ∷ 9 ∷ []))
    ∷ []
