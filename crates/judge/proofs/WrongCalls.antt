-- What each wrong judge would answer and leave is not what the call does, by computation over the definitions. Assumes nothing.
use mathlib.Core.Path.{◌≡◌, refl, sym, ◌∙◌}
use mathlib.Core.Bool.{Bool, true, false, false≢true}
use mathlib.Core.List.{Memᴰ}
use lib.Dec.{eqb}
use borrow.Author.Tests.{eq-eqb}
use Rattle.codes.specs.Refusals.{number_of}
use Rattle.lists.specs.Lists.{every_from, both}
use Rattle.lists.proofs.Comparing.{same_list, same_list_lem, any_of, any_of_lem}
use Rattle.terms.specs.Entries.{before, hangs, row_before}
use Rattle.jobs.specs.Job.{ascends, candidate_fits, names_pair, row_fits, lists_code, job_code}
use Rattle.triangulation.specs.Triangulations.{best_key, key, is_triangulation, total_weight, preorder_from, count_between, count_outside}
use Rattle.validation.specs.Validation.{named, is_tiling, list_total, list_code}
use Rattle.judge.specs.Call.{Result, excess_of, judge_code, judged}
use Rattle.judge.specs.Cases.{judged_on}
use Rattle.judge.specs.WrongCalls.{Call, wrong_calls}

-- equal results are the same by their values and tables
same_result : Result → Result → Bool
same_result r s =
    both (eqb (number_of r.judgement) (number_of s.judgement))
    (both (eqb (excess_of r.judgement) (excess_of s.judgement))
    (same_list r.work s.work))

same_result_lem : (r : Result) → same_result r r ≡ true
unfolding same_result
same_result_lem r = rw (eq-eqb (number_of r.judgement) _ refl, eq-eqb (excess_of r.judgement) _ refl, same_list_lem r.work)

pub wrong_calls_fail : (k : Call) → Memᴰ k wrong_calls → k.leaves ≡ judged_on k.direct k.list k.stated → ⊥
unfolding any_of same_result same_list judged judge_code list_code list_total is_tiling named job_code lists_code every_from candidate_fits ascends
    before row_fits names_pair hangs row_before best_key key is_triangulation total_weight preorder_from count_between count_outside
wrong_calls_fail k m e = false≢true (sym none_right ∙ any_of_lem is_right wrong_calls k m (rw e (same_result_lem (judged_on k.direct k.list k.stated))))
  where
    is_right : Call → Bool
    is_right c = same_result c.leaves (judged_on c.direct c.list c.stated)

    none_right : any_of is_right wrong_calls ≡ false
    none_right = refl
