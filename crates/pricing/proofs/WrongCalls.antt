-- What each wrong tiler would answer and leave is not what the two calls do, by computation over the definitions. Assumes nothing.
use mathlib.Core.Path.{◌≡◌, refl, sym, ◌∙◌}
use mathlib.Core.Bool.{Bool, true, false, false≢true}
use mathlib.Core.List.{Memᴰ}
use lib.Dec.{eqb}
use borrow.Author.Tests.{eq-eqb}
use Rattle.lists.specs.Lists.{every_from, both}
use Rattle.lists.proofs.Comparing.{same_list, same_list_lem, any_of, any_of_lem}
use Rattle.terms.specs.Entries.{before, hangs, row_before}
use Rattle.jobs.specs.Job.{ascends, candidate_fits, names_pair, row_fits, lists_code, job_code}
use Rattle.triangulation.specs.Triangulations.{best_key, key, is_triangulation, total_weight, preorder_from, count_between, count_outside}
use Rattle.triangulator.specs.Call.{Values, Result, values_of}
use Rattle.pricing.specs.Quote.{priced}
use Rattle.pricing.specs.Quote as price
use Rattle.pricing.specs.Patch.{patched_at}
use Rattle.pricing.specs.Cases.{priced_on, patched_on}
use Rattle.pricing.specs.WrongCalls.{PriceCall, wrong_prices, PatchCall, wrong_patches}

-- equal results are the same by their values and tables
same_values : Values → Values → Bool
same_values v w = both (eqb v.number w.number) (both (eqb v.triangles w.triangles) (eqb v.total w.total))

same_values_lem : (v : Values) → same_values v v ≡ true
unfolding same_values
same_values_lem v = rw (eq-eqb v.number _ refl, eq-eqb v.triangles _ refl, eq-eqb v.total _ refl)

same_price : price.Result → price.Result → Bool
same_price r s = both (same_values (values_of r.quote) (values_of s.quote)) (same_list r.work s.work)

same_price_lem : (r : price.Result) → same_price r r ≡ true
unfolding same_price
same_price_lem r = rw (same_values_lem (values_of r.quote), same_list_lem r.work)

same_patch : Result → Result → Bool
same_patch r s =
    both (same_values (values_of r.outcome) (values_of s.outcome)) (both (same_list r.triangles s.triangles) (same_list r.work s.work))

same_patch_lem : (r : Result) → same_patch r r ≡ true
unfolding same_patch
same_patch_lem r = rw (same_values_lem (values_of r.outcome), same_list_lem r.triangles, same_list_lem r.work)

pub wrong_prices_fail : (k : PriceCall) → Memᴰ k wrong_prices → k.leaves ≡ priced_on k.direct → ⊥
unfolding any_of same_values same_price same_list priced job_code lists_code every_from candidate_fits ascends before row_fits names_pair
    hangs row_before best_key key is_triangulation total_weight preorder_from count_between count_outside
wrong_prices_fail k m e = false≢true (sym none_right ∙ any_of_lem is_right wrong_prices k m (rw e (same_price_lem (priced_on k.direct))))
  where
    is_right : PriceCall → Bool
    is_right c = same_price c.leaves (priced_on c.direct)

    none_right : any_of is_right wrong_prices ≡ false
    none_right = refl

pub wrong_patches_fail : (k : PatchCall) → Memᴰ k wrong_patches → k.leaves ≡ patched_on k.direct k.agreed → ⊥
unfolding any_of same_values same_patch same_list patched_at job_code lists_code every_from candidate_fits ascends before row_fits names_pair
    hangs row_before best_key key is_triangulation total_weight preorder_from count_between count_outside
wrong_patches_fail k m e = false≢true (sym none_right ∙ any_of_lem is_right wrong_patches k m (rw e (same_patch_lem (patched_on k.direct k.agreed))))
  where
    is_right : PatchCall → Bool
    is_right c = same_patch c.leaves (patched_on c.direct c.agreed)

    none_right : any_of is_right wrong_patches ≡ false
    none_right = refl
