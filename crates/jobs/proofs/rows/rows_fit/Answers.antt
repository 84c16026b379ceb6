-- `jobs::rows::rows_fit` meets its contract. Assumes nothing.
use Rattle.std.proofs.Common.{ℕ, List, [], rules, tests}
use Rattle.std.proofs.lemmas.Fn.{always_returns_same}
use Rattle.lists.specs.Lists.{both}
use Rattle.terms.specs.Entries.{row_before, outer, inner}
use Rattle.jobs.specs.Job.{names_pair, row_fits}
use Rattle.jobs.proofs.Neighbours.{first_then, first_else}
use Rattle.jobs.proofs.rows.rows_fit.Goals as goal

pub returns-then-is_none_or : goal.returns-then-is_none_or
unfolding row_fits
returns-then-is_none_or c =
    let test = λ (r : List ℕ). names_pair c.args.candidates.now (outer r) (inner r) in
    first_then test row_before [] c.args.rows.now (λ h. search (rules, tests))
    (c.is_sorted_by.ensures.cases (λ r s. both (test s) (row_before r s)) (always_returns_same _ _ _ (λ a r f q. search (rules, tests))))

pub returns-else-is_none_or : goal.returns-else-is_none_or
unfolding row_fits
returns-else-is_none_or c =
    let test = λ (r : List ℕ). names_pair c.args.candidates.now (outer r) (inner r) in
    first_else test row_before [] c.args.rows.now c.if-is_none_or.false (search (rules, tests)) (search (rules, tests))
