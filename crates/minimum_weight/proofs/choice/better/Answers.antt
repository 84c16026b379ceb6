-- `minimum_weight::choice::better` meets its contract. Assumes nothing.
use mathlib.Core.Path.{◌∙◌}
use native.Mathlib.Omega.{arith}
use borrow.Author.Tests.{eq-eqb, ne_eqb}
use Rattle.minimum_weight.proofs.Picks.{off_edge, no_lower, no_better, is_better}
use Rattle.minimum_weight.proofs.choice.better.Goals as goal

pub returns-then-triangle-j : goal.returns-then-triangle-j
returns-then-triangle-j c = off_edge _ _ _ _ _ (ne_eqb _ _ c.if-triangle-j.true)

pub returns-then-p-d : goal.returns-then-p-d
returns-then-p-d c = no_lower _ _ _ _ _ c.if-p-d.true

pub overflow_add-cost : goal.overflow_add-cost
overflow_add-cost c = omega (arith, c.if-p-d.false, c.requires.2, c.weight.type_inv, c.from-row.ensures)

pub returns-then-cost-p : goal.returns-then-cost-p
returns-then-cost-p c =
    is_better _ _ _ _ _ _ (eq-eqb _ _ c.if-triangle-j.false)
    (omega (arith, c.if-p-d.false, c.requires.2))
    (c.from-row.ensures ∙ c.weight.ensures) (omega (arith, c.if-cost-p.true))

pub returns : goal.returns
returns c =
    no_better _ _ _ _ _ _ (eq-eqb _ _ c.if-triangle-j.false)
    (omega (arith, c.if-p-d.false, c.requires.2))
    (c.from-row.ensures ∙ c.weight.ensures) (omega (arith, c.if-cost-p.false))
