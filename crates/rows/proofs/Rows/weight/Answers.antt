-- `rows::Rows::weight` meets its contract. Assumes nothing.
use Rattle.std.proofs.Common.{arith, ◌≡◌, ◌<◌, rules, sym, ap, ◌∙◌, get_or, length, []}
use borrow.Author.Tests.{ltb-true, ltb-false}
use Rattle.rows.specs.Search.{row_or_zero}
use Rattle.rows.proofs.Bisection.{cut_of, cut_end, cut_out}
use Rattle.rows.proofs.Rows.weight.Goals as goal

pub returns-in-Some : goal.returns-in-Some
returns-in-Some c =
    let l = c.args.self.now.rows.now in
    let h : c.lower_bound.result < length l = ltb-true _ _ (sym c.in-Some.ensures.lookup.0) in
    let e : c.in-Some.row.now ≡ get_or l c.lower_bound.result [] = search rules in
    c.weight_if.ensures ∙ ap (λ r. row_or_zero r c.args.outer c.args.inner) e
    ∙ cut_end _ _ _ c.args.self.now.ascend (cut_of _ _ _ c.args.self.now.ascend c.lower_bound.ensures) (omega arith) h

pub returns-in-None : goal.returns-in-None
returns-in-None c =
    cut_out _ _ _ c.args.self.now.ascend (cut_of _ _ _ c.args.self.now.ascend c.lower_bound.ensures) (ltb-false _ _ (sym c.in-None.ensures.lookup.0))
