-- `polygon::has_repeated_vertex` meets its contract. Assumes nothing.
use mathlib.Core.Path.{◌≡◌, refl, sym, ◌∙◌}
use Prim.Native.Nat.{◌≤◌, ◌<◌}
use native.Mathlib.Omega.{arith}
use lib.ListN.{length, get_or, take}
use Rattle.std.proofs.Common.{rules, tests}
use Rattle.std.proofs.lemmas.List.{length-take}
use Rattle.std.proofs.lemmas.Iterator.{YieldsList-from_slice}
use Rattle.std.proofs.lemmas.Iterator.Search.{any_from_yields_List}
use Rattle.grid.specs.declared.GridPoint.{GridPoint}
use Rattle.grid.specs.contracts.GridPointPartialEq.TheImpl.{ghosts}
use Rattle.lists.proofs.Ranges.{some_on, some_stop, some_end}
use Rattle.polygon.specs.Polygon.{origin, repeated_vertex}
use Rattle.polygon.proofs.Points.{again_test}
use Rattle.polygon.proofs.has_repeated_vertex.Invariants.{again}
use Rattle.polygon.proofs.has_repeated_vertex.Goals.{After-any}
use Rattle.polygon.proofs.has_repeated_vertex.Goals as goal

-- a vertex before vertex j is at its point
found : (c : goal.After-any) → c.any.result ≡ again c.args.vertices c.loop-j.j
found c =
    let vertices = c.args.vertices in
    let same = λ (p : GridPoint). ghosts.eq p (get_or (take c.args.n vertices) c.loop-j.j origin) in
    any_from_yields_List same _ _ _ c.any.ensures.ran (YieldsList-from_slice (take c.loop-j.j vertices) c.iter.ensures.rest) (λ x b q k. search (rules, tests))
    ∙ again_test vertices c.args.n c.loop-j.j c.loop-j-test.true

pub loop-j-init : goal.loop-j-init
unfolding repeated_vertex
loop-j-init c = (omega arith, refl)

pub loop-j-preserved : goal.loop-j-preserved
loop-j-preserved c =
    let below : c.loop-j.j < c.args.n = omega (arith, length-take c.args.n c.args.vertices) in
    let none = sym (found (goal.at.loop-j-preserved c).After-any) ∙ c.if-any.false in
    (omega arith, sym (some_on c.loop-j.j c.args.n (again c.args.vertices) below none) ∙ c.loop-j.invariant.1)

pub returns-then-any : goal.returns-then-any
returns-then-any c =
    let below : c.loop-j.j < c.args.n = omega (arith, length-take c.args.n c.args.vertices) in
    let again_here = sym (found (goal.at.returns-then-any c).After-any) ∙ c.if-any.true in
    sym (some_stop c.loop-j.j c.args.n (again c.args.vertices) below again_here) ∙ c.loop-j.invariant.1

pub returns : goal.returns
returns c =
    let all : length c.args.vertices ≡ 64 = search rules in
    let past : c.args.n ≤ c.loop-j.j = omega (arith, length-take c.args.n c.args.vertices) in
    sym (some_end c.loop-j.j c.args.n (again c.args.vertices) past) ∙ c.loop-j.invariant.1
