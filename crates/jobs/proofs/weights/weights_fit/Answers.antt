-- `jobs::weights::weights_fit` meets its contract. Assumes nothing.
use Rattle.std.proofs.Common.{ℕ, ◌∙◌, rules, tests, leb, take}
use Rattle.std.proofs.lemmas.Iterator.{YieldsList-from_slice}
use Rattle.std.proofs.lemmas.Iterator.Search.{all_from_yields_List}
use Rattle.lists.proofs.Elements.{every_of_first}
use Rattle.terms.specs.Limits.{max_weight}
use Rattle.jobs.proofs.weights.weights_fit.Goals as goal

pub returns : goal.returns
returns c =
    let weights = c.args.weights.now in
    let test = λ (w : ℕ). leb w max_weight in
    all_from_yields_List test _ _ _ c.all.ensures.ran (YieldsList-from_slice (take c.args.count weights) cc) (λ x b q k. search (rules, tests))
    ∙ every_of_first test 0 c.args.count weights c.requires
