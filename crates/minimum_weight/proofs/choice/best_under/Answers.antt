-- `minimum_weight::choice::best_under` meets its contract. Assumes nothing.
use Prim.Native.Nat.{◌+◌}
use mathlib.Core.Path.{◌≡◌}
use mathlib.Core.Path.{sym, ◌∙◌}
use native.Mathlib.Omega.{arith}
use borrow.Author.Tests.{eq-eqb, ne_eqb}
use Rattle.lists.proofs.Choice.{yes, no}
use Rattle.minimum_weight.proofs.choice.best_under.Goals as goal

pub returns-then-j-i-eq1 : goal.returns-then-j-i-eq1
returns-then-j-i-eq1 c = let s = c in let e : s.args.j ≡ s.args.i + 1 = omega arith in sym (yes _ _ (eq-eqb _ _ e))

pub returns : goal.returns
returns c =
    let s = c in
    c.best_in_block.ensures ∙ sym (no _ _ (ne_eqb _ _ (λ (e : s.args.j ≡ s.args.i + 1). c.if-j-i-eq1.false (omega arith))))
