-- `validation::edges::edges_to_fit` meets its contract. Assumes nothing.
use Rattle.std.proofs.Common.{◌-◌, refl, rules, tests, ◌∙◌}
use Rattle.std.proofs.lemmas.Iterator.{YieldsList-from_range}
use Rattle.std.proofs.lemmas.Iterator.Search.{all_from_yields_List}
use Rattle.lists.proofs.Elements.{every_of_range}
use Rattle.validation.specs.Edges.{edge_fits}
use Rattle.validation.proofs.edges.edges_to_fit.Goals as goal

pub returns : goal.returns
returns c =
    let test = edge_fits c.args.n c.args.between.now c.args.outside.now c.args.j in
    all_from_yields_List test _ _ _ c.all.ensures.ran (YieldsList-from_range 0 c.args.j (c.args.j - 0) (cc) refl) (λ x b q k. search (rules, tests))
    ∙ every_of_range test 0 c.args.j
