-- `jobs::candidates::candidates_fit` meets its contract. Assumes nothing.
use Rattle.std.proofs.Common.{ℕ, List, [], rules, tests}
use Rattle.std.proofs.lemmas.Fn.{always_returns_same}
use Rattle.lists.specs.Lists.{both}
use Rattle.terms.specs.Entries.{before, vertex_a, vertex_b, vertex_c}
use Rattle.jobs.specs.Job.{ascends, candidate_fits}
use Rattle.jobs.proofs.Neighbours.{first_then, first_else}
use Rattle.jobs.proofs.candidates.candidates_fit.Goals as goal

pub returns-then-is_none_or : goal.returns-then-is_none_or
unfolding candidate_fits
returns-then-is_none_or c =
    let test = λ (t : List ℕ). ascends c.args.n (vertex_a t) (vertex_b t) (vertex_c t) in
    first_then test before [] c.args.candidates.now (λ h. search (rules, tests))
    (c.is_sorted_by.ensures.cases (λ s t. both (test t) (before s t)) (always_returns_same _ _ _ (λ a r f q. search (rules, tests))))

pub returns-else-is_none_or : goal.returns-else-is_none_or
unfolding candidate_fits
returns-else-is_none_or c =
    let test = λ (t : List ℕ). ascends c.args.n (vertex_a t) (vertex_b t) (vertex_c t) in
    first_else test before [] c.args.candidates.now c.if-is_none_or.false (search (rules, tests)) (search (rules, tests))
