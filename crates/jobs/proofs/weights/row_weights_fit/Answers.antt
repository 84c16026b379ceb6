-- `jobs::weights::row_weights_fit` meets its contract. Assumes nothing.
use Rattle.std.proofs.Common.{List, [], ℕ, ◌∙◌, rules, tests, leb}
use Rattle.std.proofs.lemmas.Iterator.{YieldsList-from_slice}
use Rattle.std.proofs.lemmas.Iterator.Search.{all_from_yields_List}
use Rattle.lists.proofs.Elements.{every_element}
use Rattle.terms.specs.Limits.{max_weight}
use Rattle.terms.specs.Entries.{row_weight}
use Rattle.jobs.proofs.weights.row_weights_fit.Goals as goal

pub returns : goal.returns
returns c =
    let test = λ (row : List ℕ). leb (row_weight row) max_weight in
    all_from_yields_List test _ _ _ c.all.ensures.ran (YieldsList-from_slice c.args.rows.now cc) (λ x b q k. search (rules, tests))
    ∙ every_element test [] c.args.rows.now
