-- `weights::outside::edge_normal` meets its contract. Assumes nothing.
use mathlib.Core.Path.{sym, ◌∙◌}
use Rattle.weights.proofs.Surfaces.{of_the_next, of_the_last, not_from_0, not_to_the_last}
use Rattle.weights.proofs.outside.edge_normal.Goals.{else-x-eq0-via-then-x-eq0+else-y-p, else-x-eq0-via-else-x-eq0}
use Rattle.weights.proofs.outside.edge_normal.Goals as goal

pub returns-then-y-x : goal.returns-then-y-x
returns-then-y-x c = sym (of_the_next c.args.p.now.n c.args.x c.args.y _ _ c.if-y-x.true)

pub returns-then-y-p : goal.returns-then-y-p
returns-then-y-p c = sym (of_the_last c.args.p.now.n c.args.x c.args.y _ _ c.if-y-x.false c.if-x-eq0.true c.if-y-p.true)

pub returns-else-x-eq0 : goal.returns-else-x-eq0
returns-else-x-eq0 c =
    elim c.else-x-eq0.branch [
      | else-x-eq0-via-then-x-eq0+else-y-p w ↦
          c.none.ensures ∙ sym (not_to_the_last c.args.p.now.n c.args.x c.args.y _ _ c.if-y-x.false w.if-x-eq0.true w.if-y-p.false)
      | else-x-eq0-via-else-x-eq0 w ↦
          c.none.ensures ∙ sym (not_from_0 c.args.p.now.n c.args.x c.args.y _ _ c.if-y-x.false w.if-x-eq0.false)
    ]
