-- `hinges::count_rows` meets its contract, by what is left to count at each loop's head. Assumes nothing.
use mathlib.Core.Path.{◌≡◌, sym, ◌∙◌, ap}
use mathlib.Core.Bool.{true, false}
use mathlib.Core.List.{◌++◌}
use Prim.Native.Nat.{ℕ, ◌+◌, ◌≤◌}
use native.Mathlib.Omega.{arith}
use lib.ListN.{length, length-append}
use Rattle.lists.proofs.Counting.{Counting, count_turn, count_part, count_moved, count_all}
use Rattle.faces.specs.Masks.{has}
use Rattle.faces.proofs.Triples.{left1, left3, into2, into3, out1, out2, out3}
use Rattle.hinges.specs.Hinges.{beneath, max_pairs}
use Rattle.hinges.proofs.Counts.{hung, next_hung, pairs_count, pairs_bound}
use Rattle.hinges.proofs.count_rows.Goals.{then-contains, else-contains, After-contains}
use Rattle.hinges.proofs.count_rows.Goals as goal

-- the pairs on a triangle of the set are counted
counted :
    (s : goal.After-contains) {x y : ℕ} →
    s.contains.result ≡ true →
    x ≡ length (beneath (has s.args.set.now) s.loop-a.a s.loop-b.b) →
    y ≡ length (beneath (has s.args.set.now) s.loop-b.b s.loop-c.c) →
    Counting (left1 s.args.n (hung (has s.args.set.now)) 0)
    (left3 s.args.n (hung (has s.args.set.now)) s.loop-a.a s.loop-b.b (s.loop-c.c + 1)) (s.loop-c.count + (x + y))
counted s t on-x beside-y =
    let P = has s.args.set.now in
    let on = beneath P s.loop-a.a s.loop-b.b in
    let beside = beneath P s.loop-b.b s.loop-c.c in
    count_moved (ap (λ (k : ℕ). s.loop-c.count + k) ((λ i. on-x i + beside-y i) ∙ sym (length-append on beside)))
    (count_part (on ++ beside)
    (count_turn (next_hung s.args.n P s.loop-a.a s.loop-b.b s.loop-c.c {t = true} (omega arith) (sym t ∙ s.contains.ensures))
    s.loop-c.invariant))

few :
    (s : goal.After-contains) {x y : ℕ} →
    s.contains.result ≡ true →
    x ≡ length (beneath (has s.args.set.now) s.loop-a.a s.loop-b.b) →
    y ≡ length (beneath (has s.args.set.now) s.loop-b.b s.loop-c.c) →
    s.loop-c.count + (x + y) ≤ max_pairs
few s t on-x beside-y = omega (arith, (counted s t on-x beside-y).sum, pairs_bound s.args.n (has s.args.set.now) s.requires)

pub loop-b-init : goal.loop-b-init
loop-b-init c = count_turn (into2 _ _ _ (omega arith)) c.loop-a.invariant

pub loop-c-init : goal.loop-c-init
loop-c-init c =
    let m = c in
    let u = m in
    count_turn (into3 u.args.n (hung (has u.args.set.now)) u.loop-a.a m.loop-b.b (omega arith)) m.loop-b.invariant

pub overflow_add-count : goal.overflow_add-count
overflow_add-count c = omega (
  arith,
  few (goal.at.overflow_add-count c).After-contains c.if-contains.true c.count_beneath-first.ensures
      c.count_beneath-second.ensures,
)

pub overflow_add-count-then-contains : goal.overflow_add-count-then-contains
overflow_add-count-then-contains c = omega
    (arith, few (goal.at.overflow_add-count-then-contains c).After-contains c.if-contains.true c.count_beneath-first.ensures c.count_beneath-second.ensures)

pub loop-c-preserved : goal.loop-c-preserved
loop-c-preserved c =
    let l = c in
    let m = l in
    let u = m in
    elim c.if-contains.branch [
      | then-contains w ↦ count_moved w.count-is (counted (goal.at.loop-c-preserved c).After-contains w.if-contains.true
          w.count_beneath-first.ensures w.count_beneath-second.ensures)
      | else-contains w ↦ count_moved w.count-is (count_turn (next_hung u.args.n (has u.args.set.now) u.loop-a.a m.loop-b.b
          l.loop-c.c {t = false} (omega arith) (sym w.if-contains.false ∙ c.contains.ensures)) l.loop-c.invariant)
    ]

pub loop-b-preserved : goal.loop-b-preserved
loop-b-preserved c =
    let l = c in
    let m = l in
    let u = m in
    count_turn (out3 u.args.n (hung (has u.args.set.now)) u.loop-a.a m.loop-b.b l.loop-c.c (omega arith)) l.loop-c.invariant

pub loop-a-preserved : goal.loop-a-preserved
loop-a-preserved c = count_turn (out2 _ _ _ _ (omega arith)) c.loop-b.invariant

pub returns : goal.returns
returns c =
    let s = c in
    count_all (count_turn (out1 _ _ _ (omega arith)) c.loop-a.invariant) ∙ sym (pairs_count s.args.n (has s.args.set.now))
