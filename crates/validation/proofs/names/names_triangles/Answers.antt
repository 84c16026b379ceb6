-- `validation::names::names_triangles` meets its contract. Assumes nothing.
use Rattle.std.proofs.Common.{ℕ, ◌-◌, ◌∙◌, sym, rules, tests, ltb, length, eq-eqb}
use Rattle.std.proofs.lemmas.Iterator.{YieldsList-from_slice}
use Rattle.std.proofs.lemmas.Iterator.Search.{all_from_yields_List}
use Rattle.lists.proofs.Choice.{yes}
use Rattle.lists.proofs.Elements.{every_element}
use Rattle.validation.proofs.names.names_triangles.Goals as goal

pub returns-then-list-n : goal.returns-then-list-n
returns-then-list-n c =
    let test = λ (k : ℕ). ltb k c.args.count in
    all_from_yields_List test _ _ _ c.all.ensures.ran (YieldsList-from_slice c.args.list.now cc) (λ x b q k. search (rules, tests))
    ∙ every_element test 0 c.args.list.now ∙ sym (yes _ _ (eq-eqb (length c.args.list.now) (c.args.n - 2) c.if-list-n.true))
