-- `faces::TriangleSet::list` meets its contract, by what is left to write at each loop's head. Assumes nothing.
use mathlib.Core.Path.{◌≡◌, sym, ◌∙◌}
use mathlib.Core.Bool.{true, false}
use mathlib.Core.List.{◌∷◌}
use Prim.Native.Nat.{◌+◌}
use native.Mathlib.Omega.{arith}
use Rattle.lists.proofs.Ranges.{over_step, over_more, over_end, over_none}
use Rattle.lists.proofs.Writing.{Writing, turn, enter, leave, place, push, moved, all}
use Rattle.terms.specs.Entries.{triple}
use Rattle.faces.specs.Faces.{triples_of}
use Rattle.faces.specs.Masks.{has}
use Rattle.faces.proofs.Triples.{left3, listed, next_listed}
use Rattle.faces.proofs.TriangleSet.list.Goals.{then-contains, else-contains, After-contains}
use Rattle.faces.proofs.TriangleSet.list.Goals as goal

-- the triple that is written next
written : (c : goal.After-contains) → c.contains.result ≡ true →
    let n = c.args.n in
    let P = has c.args.self.now in
    Writing (triples_of n P) (triple c.loop-a.a c.loop-b.b c.loop-c.c ∷ left3 n (listed P) c.loop-a.a c.loop-b.b (c.loop-c.c + 1))
    c.loop-b.out c.loop-b.count c.loop-c.out c.loop-c.count
written c t =
    turn (next_listed c.args.n (has c.args.self.now) c.loop-a.a c.loop-b.b c.loop-c.c
    {t = true} (omega arith) (sym t ∙ c.contains.ensures)) c.loop-c.invariant

pub loop-b-init : goal.loop-b-init
loop-b-init c = enter (over_step _ _ _ (omega arith)) c.loop-a.invariant

pub loop-c-init : goal.loop-c-init
loop-c-init c = enter (over_more _ _ _ _ (omega arith)) c.loop-b.invariant

pub bounds-out-count : goal.bounds-out-count
bounds-out-count c = place (written (goal.at.bounds-out-count c).After-contains c.if-contains.true)

pub loop-c-preserved : goal.loop-c-preserved
loop-c-preserved c =
    let l = c in
    let m = l in
    let u = m in
    elim c.if-contains.branch [
      | then-contains w ↦ moved w.out-is w.count-is (push (written (goal.at.loop-c-preserved c).After-contains w.if-contains.true))
      | else-contains w ↦ moved w.out-is w.count-is (turn (next_listed u.args.n (has u.args.self.now) u.loop-a.a m.loop-b.b
          l.loop-c.c {t = false} (omega arith) (sym w.if-contains.false ∙ c.contains.ensures)) l.loop-c.invariant)
    ]

pub loop-b-preserved : goal.loop-b-preserved
loop-b-preserved c = leave (over_none _ _ _ _ (omega arith)) c.loop-b.invariant c.loop-c.invariant

pub loop-a-preserved : goal.loop-a-preserved
loop-a-preserved c = leave (over_none _ _ _ _ (omega arith)) c.loop-a.invariant c.loop-b.invariant

pub returns : goal.returns
returns c = all (turn (over_end _ _ _ (omega arith)) c.loop-a.invariant)
