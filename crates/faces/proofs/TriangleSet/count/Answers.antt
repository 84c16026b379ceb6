-- `faces::TriangleSet::count` meets its contract, by what is left to count at each loop's head. Assumes nothing.
use mathlib.Core.Path.{sym, ◌∙◌}
use mathlib.Core.Bool.{true, false}
use native.Mathlib.Omega.{arith}
use Rattle.lists.proofs.Counting.{count_turn, count_push, count_moved, count_all}
use Rattle.faces.specs.Masks.{has}
use Rattle.faces.proofs.Sets.{triples_bound}
use Rattle.faces.proofs.Triples.{into2, into3, out1, out2, out3, listed, next_listed}
use Rattle.faces.proofs.TriangleSet.count.Goals.{then-contains, else-contains}
use Rattle.faces.proofs.TriangleSet.count.Goals as goal

pub loop-j-init : goal.loop-j-init
loop-j-init c = count_turn (into2 _ _ _ (omega arith)) c.loop-i.invariant

pub loop-k-init : goal.loop-k-init
loop-k-init c =
    let m = c in
    let u = m in
    count_turn (into3 u.args.n (listed (has u.args.self.now)) u.loop-i.i m.loop-j.j (omega arith)) m.loop-j.invariant

pub overflow_add-count : goal.overflow_add-count
overflow_add-count c =
    let l = c in
    let u = l in
    omega (arith, l.loop-k.invariant.sum, triples_bound u.args.n (has u.args.self.now) u.requires)

pub loop-k-preserved : goal.loop-k-preserved
loop-k-preserved c =
    let l = c in
    let m = l in
    let u = m in
    let n = u.args.n in
    let P = has u.args.self.now in
    elim c.if-contains.branch [
      | then-contains w ↦ count_moved w.count-is (count_push (count_turn (next_listed n P u.loop-i.i m.loop-j.j l.loop-k.k {t = true}
          (omega arith) (sym w.if-contains.true ∙ c.contains.ensures)) l.loop-k.invariant))
      | else-contains w ↦ count_moved w.count-is (count_turn (next_listed n P u.loop-i.i m.loop-j.j l.loop-k.k {t = false}
          (omega arith) (sym w.if-contains.false ∙ c.contains.ensures)) l.loop-k.invariant)
    ]

pub loop-j-preserved : goal.loop-j-preserved
loop-j-preserved c =
    let l = c in
    let m = l in
    let u = m in
    count_turn (out3 u.args.n (listed (has u.args.self.now)) u.loop-i.i m.loop-j.j l.loop-k.k (omega arith)) l.loop-k.invariant

pub loop-i-preserved : goal.loop-i-preserved
loop-i-preserved c = count_turn (out2 _ _ _ _ (omega arith)) c.loop-j.invariant

pub returns : goal.returns
returns c = count_all (count_turn (out1 _ _ _ (omega arith)) c.loop-i.invariant)
