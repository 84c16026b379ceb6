-- `hinges::count_beneath` meets its contract, by what is left to count. Assumes nothing.
use mathlib.Core.Path.{◌≡◌, sym, ◌∙◌, ap}
use mathlib.Core.Bool.{Bool, true, false}
use mathlib.Core.List.{◌++◌}
use Prim.Native.Nat.{ℕ, ◌+◌, ◌<◌}
use native.Mathlib.Omega.{arith}
use Rattle.lists.specs.Lists.{when}
use Rattle.lists.proofs.Ranges.{over_step, over_end}
use Rattle.lists.proofs.Counting.{count_turn, count_push, count_moved, count_all}
use Rattle.faces.specs.Masks.{has}
use Rattle.hinges.proofs.count_beneath.Invariants.{from}
use Rattle.hinges.proofs.count_beneath.Goals.{then-contains, else-contains}
use Rattle.hinges.proofs.count_beneath.Goals as goal

one : (P : ℕ → ℕ → ℕ → Bool) (i j x : ℕ) {t : Bool} → x < j → t ≡ P i x j → from P i j x ≡ when t x ++ from P i j (x + 1)
one P i j x h e = over_step x j _ h ∙ ap (λ (t : Bool). when t x ++ from P i j (x + 1)) (sym e)

pub loop-x-preserved : goal.loop-x-preserved
loop-x-preserved c =
    let l = c in
    let a = l.args in
    let P = has a.set.now in
    elim c.if-contains.branch [
      | then-contains w ↦ (
        omega (arith, w.count-is, l.loop-x.invariant.0),
        count_moved w.count-is
            (count_push (count_turn (one P a.i a.j l.loop-x.x {t = true} (omega arith) (sym w.if-contains.true ∙ c.contains.ensures))
            l.loop-x.invariant.1)),
      )
      | else-contains w ↦ (
        omega (arith, w.count-is, l.loop-x.invariant.0),
        count_moved w.count-is
            (count_turn (one P a.i a.j l.loop-x.x {t = false} (omega arith) (sym w.if-contains.false ∙ c.contains.ensures))
            l.loop-x.invariant.1),
      )
    ]

pub returns : goal.returns
returns c = count_all (count_turn (over_end _ _ _ (omega arith)) c.loop-x.invariant.1)
