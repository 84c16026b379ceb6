-- `delaunay_triangles::mark_triangles` meets its contract: at each loop's head what is marked and what is left make up all threes that count. Assumes nothing.
use mathlib.Core.Path.{◌≡◌, refl, sym, ◌∙◌, ap, subst}
use mathlib.Core.Bool.{true, false}
use mathlib.Core.List.{List}
use Prim.Native.Nat.{ℕ, ◌+◌, ◌-◌, ◌<◌, ◌≤◌}
use native.Mathlib.Omega.{arith}
use Rattle.integers.proofs.Order.{zero_bits, other_bits}
use Rattle.integers.proofs.Bounds.{signed_fits}
use Rattle.polygon.specs.Polygon.{vertex}
use Rattle.planar.specs.Circles.{collinear}
use Rattle.planar.specs.Seen.{circle_of}
use Rattle.faces.proofs.Threes.{left3, into2, into3, out2, out3}
use Rattle.delaunay_triangles.specs.Triangles.{counts_in_plane}
use Rattle.delaunay_search.proofs.Marking.{kept_start, kept_turn, kept_then}
use Rattle.delaunay_search.proofs.Scanning.{scanned_in}
use Rattle.delaunay_search.proofs.Placing.{is_inside_lem, not_inside_lem}
use Rattle.delaunay_search.proofs.Lifting.{seen_long, read, seen_read}
use lib.ListN.{get_or}
use lib.IntN.{pos}
use Rattle.integers.specs.Order.{equal}
use Rattle.geometry.specs.Values.{SphereValue}
use Rattle.geometry.specs.declared.sphere.Lifted.{Lifted}
use Rattle.geometry.specs.Lifting.{position_by}
use Rattle.delaunay_search.specs.Search.{unlifted}
use Rattle.faces.specs.Faces.{same_triple}
use Rattle.faces.specs.Masks.{Joined}
use Rattle.delaunay_triangles.proofs.Triangles.{has_fourth, Triangle, line_is}
use Rattle.delaunay_triangles.proofs.Triangles.{on_line, three_dropped, vertex_passed, three_counts, fourth_passed}
use Rattle.delaunay_triangles.proofs.Triangles.{three_cocircular, three_marked, twelve_due, all_marked}
use Rattle.delaunay_triangles.proofs.mark_triangles.Goals.{After-circle_through-circle, After-scanned-v, After-locate, At-loop-i}
use Rattle.delaunay_triangles.proofs.mark_triangles.Goals.{In-loop-w, After-locate-in-loop-w, In-three}
use Rattle.delaunay_triangles.proofs.mark_triangles.Goals as goal

-- at three corners
module _ (g : goal.In-three) where
  a<n : g.loop-a.a < g.args.rim.now.polygon.n
  a<n = omega (arith, g.loop-a-test.true)

  b<n : g.loop-b.b < g.args.rim.now.polygon.n
  b<n = omega (arith, g.loop-b-test.true)

-- with their circle
module _ (k : goal.After-circle_through-circle) where
  triangle : Triangle k.args.rim.now.polygon k.loop-a.a k.loop-b.b k.three.c k.lift_vertices-lifted.result k.circle_through-circle.result
      k.loop-b.set k.three.set (λ P. left3 k.args.rim.now.polygon.n P k.loop-a.a k.loop-b.b (k.loop-b.b + 1))
  triangle = record {
    valid = k.args.rim.now.valid;
    flat = k.requires;
    a<n = omega (arith, k.loop-a-test.true);
    b<n = omega (arith, k.loop-b-test.true);
    c<n = k.three-test.true;
    lifts = k.lift_vertices-lifted.ensures;
    through = read (circle_of (get_or k.lift_vertices-lifted.result k.loop-b.b unlifted)) k.args.rim.now.valid k.lift_vertices-lifted.ensures
        k.three.c k.three-test.true k.index-lifted-c.result
        (read (λ (u : Lifted). circle_of u (get_or k.lift_vertices-lifted.result k.three.c k.index-lifted-c.result)) k.args.rim.now.valid
        k.lift_vertices-lifted.ensures k.loop-b.b (omega (arith, k.loop-b-test.true)) k.index-lifted-b.result k.circle_through-circle.ensures);
    kept = k.three.invariant.1;
  }

-- the orientation of a circle, read from its fields
seen_orient : {s t : SphereValue} → s ≡ t → equal t.orient (pos 0) ≡ equal s.orient (pos 0)
seen_orient e = sym (λ i. equal (e i).orient (pos 0))

-- in the scan: they are not on one line
module _ (l : goal.At-loop-i) where
  three : Triangle l.args.rim.now.polygon l.loop-a.a l.loop-b.b l.three.c l.lift_vertices-lifted.result l.circle_through-circle.result l.loop-b.set l.three.set
      (λ P. left3 l.args.rim.now.polygon.n P l.loop-a.a l.loop-b.b (l.loop-b.b + 1))
  three = record {
    valid = l.args.rim.now.valid;
    flat = l.requires;
    a<n = omega (arith, l.loop-a-test.true);
    b<n = omega (arith, l.loop-b-test.true);
    c<n = l.three-test.true;
    lifts = l.lift_vertices-lifted.ensures;
    through = read (circle_of (get_or l.lift_vertices-lifted.result l.loop-b.b unlifted)) l.args.rim.now.valid l.lift_vertices-lifted.ensures
        l.three.c l.three-test.true l.index-lifted-c.result
        (read (λ (u : Lifted). circle_of u (get_or l.lift_vertices-lifted.result l.three.c l.index-lifted-c.result)) l.args.rim.now.valid
        l.lift_vertices-lifted.ensures l.loop-b.b (omega (arith, l.loop-b-test.true)) l.index-lifted-b.result l.circle_through-circle.ensures);
    kept = l.three.invariant.1;
  }

  proper : collinear (vertex l.args.rim.now.polygon l.loop-a.a) (vertex l.args.rim.now.polygon l.loop-b.b) (vertex l.args.rim.now.polygon l.three.c) ≡ false
  proper = sym (line_is three) ∙ seen_orient l.circle.view_is ∙ other_bits l.circle.inside.orient l.if-circle-eq0.false

  -- no vertex is inside
  full : l.args.rim.now.polygon.n + 1 ≤ l.loop-i.i → counts_in_plane l.args.rim.now.polygon l.loop-a.a l.loop-b.b l.three.c ≡ true
  full h = three_counts three proper (l.loop-i.i - 1) (omega (arith, h)) l.loop-i.invariant.scanned

-- at the vertex of a turn
v<n : (w : goal.After-scanned-v) → w.scanned-v.result < w.args.rim.now.polygon.n
v<n w = scanned_in _ w.loop-i.last w.loop-i.i _ w.loop-i.invariant.last<n w.loop-i-test.true w.scanned-v.ensures

-- at a vertex of the last loop
w<n : (w : goal.In-loop-w) → w.loop-w.w < w.args.rim.now.polygon.n
w<n w = omega (arith, seen_long w.args.rim.now.valid w.lift_vertices-lifted.ensures, w.loop-w-test.true)

seen_place : (k : goal.After-locate-in-loop-w) →
    k.locate-in-loop-w.result ≡ position_by k.circle_through-circle.result (get_or k.lift_vertices-lifted.result k.loop-w.w unlifted)
seen_place k =
    let h : k.loop-w.w < k.args.rim.now.polygon.n = omega (arith, seen_long k.args.rim.now.valid k.lift_vertices-lifted.ensures, k.loop-w-test.true) in
    k.locate-in-loop-w.ensures ∙ ap (λ (s : Lifted). position_by k.circle_through-circle.result s)
    (seen_read k.args.rim.now.valid k.lift_vertices-lifted.ensures k.loop-w.w h k.seen-item.result k.seen-item.is)

-- where the vertex of a turn lies
place_at : (w : goal.After-locate) →
    w.locate.result ≡ position_by w.circle_through-circle.result (get_or w.lift_vertices-lifted.result w.scanned-v.result unlifted)
place_at w =
    let h = scanned_in _ w.loop-i.last w.loop-i.i w.scanned-v.result w.loop-i.invariant.last<n w.loop-i-test.true w.scanned-v.ensures in
    read (position_by w.circle_through-circle.result) w.args.rim.now.valid w.lift_vertices-lifted.ensures w.scanned-v.result h w.index-lifted-v.result
    w.locate.ensures

pub overflow_sub-a-end : goal.overflow_sub-a-end
overflow_sub-a-end c = omega (arith, c.args.rim.now.valid.least)

pub loop-a-init : goal.loop-a-init
loop-a-init c = (omega (arith, c.args.rim.now.valid.least), kept_start)

pub lift_vertices-lifted-requires : goal.lift_vertices-lifted-requires
lift_vertices-lifted-requires c = omega (arith, c.loop-a-test.true)

pub overflow_step-b : goal.overflow_step-b
overflow_step-b c = omega (arith, c.args.rim.now.valid.most, c.loop-a-test.true)

pub overflow_sub-b-end : goal.overflow_sub-b-end
overflow_sub-b-end c = omega (arith, c.args.rim.now.valid.least)

pub loop-b-init : goal.loop-b-init
loop-b-init c = (c.loop-a.invariant.0, kept_start)

pub overflow_step-c : goal.overflow_step-c
overflow_step-c c = omega (arith, c.args.rim.now.valid.most, c.loop-b-test.true)

pub three-init : goal.three-init
three-init c = (c.loop-b.invariant.0, kept_start)

pub offset_bounds-lifted-b : goal.offset_bounds-lifted-b
offset_bounds-lifted-b c = omega (arith, c.args.rim.now.valid.most, b<n (goal.at.offset_bounds-lifted-b c).In-three)

pub bounds-lifted-b : goal.bounds-lifted-b
bounds-lifted-b c = omega (arith, c.args.rim.now.valid.most, b<n (goal.at.bounds-lifted-b c).In-three)

pub offset_bounds-lifted-c : goal.offset_bounds-lifted-c
offset_bounds-lifted-c c = omega (arith, c.args.rim.now.valid.most, c.three-test.true)

pub bounds-lifted-c : goal.bounds-lifted-c
bounds-lifted-c c = omega (arith, c.args.rim.now.valid.most, c.three-test.true)

pub overflow_step-c-then-circle-eq0 : goal.overflow_step-c-then-circle-eq0
overflow_step-c-then-circle-eq0 c = omega (arith, c.args.rim.now.valid.most, c.three-test.true)

pub three-smaller-then-circle-eq0 : goal.three-smaller-then-circle-eq0
three-smaller-then-circle-eq0 c = omega (arith, c.three-test.true)

pub three-preserved-then-circle-eq0 : goal.three-preserved-then-circle-eq0
three-preserved-then-circle-eq0 c =
    let k = (goal.at.three-preserved-then-circle-eq0 c).After-circle_through-circle in
    let t = triangle k in (
      c.three.invariant.0,
      on_line t (sym (line_is t) ∙ seen_orient c.circle.view_is
          ∙ zero_bits c.circle.inside.orient (signed_fits tt c.circle.invariant.orient_in) c.if-circle-eq0.true),
    )

pub overflow_add-i-end : goal.overflow_add-i-end
overflow_add-i-end c = omega (arith, c.args.rim.now.valid.most, c.three-test.true)

pub loop-i-init : goal.loop-i-init
loop-i-init c = record { same_c = refl; ahead = omega arith; last<n = c.three.invariant.0; scanned = refl }

pub offset_bounds-lifted-v : goal.offset_bounds-lifted-v
offset_bounds-lifted-v c = omega (arith, c.args.rim.now.valid.most, v<n (goal.at.offset_bounds-lifted-v c).After-scanned-v)

pub bounds-lifted-v : goal.bounds-lifted-v
bounds-lifted-v c = omega (arith, c.args.rim.now.valid.most, v<n (goal.at.bounds-lifted-v c).After-scanned-v)

pub three-preserved-then-eq : goal.three-preserved-then-eq
three-preserved-then-eq c =
    let w = (goal.at.three-preserved-then-eq c).After-scanned-v in
    let l = (goal.at.three-preserved-then-eq c).At-loop-i in (
      v<n w,
      three_dropped (three l) (proper l) _ (v<n w) (place_at (goal.at.three-preserved-then-eq c).After-locate)
          (is_inside_lem _ (sym c.eq.ensures ∙ c.if-eq.true)),
    )

pub overflow_step-i : goal.overflow_step-i
overflow_step-i c = let w = (goal.at.overflow_step-i c).After-scanned-v in omega (arith, c.args.rim.now.valid.most, c.three-test.true, w.loop-i-test.true)

pub loop-i-smaller : goal.loop-i-smaller
loop-i-smaller c = let w = (goal.at.loop-i-smaller c).After-scanned-v in omega (arith, c.three-test.true, w.loop-i-test.true)

pub loop-i-preserved : goal.loop-i-preserved
loop-i-preserved c =
    let w = (goal.at.loop-i-preserved c).After-scanned-v in
    let l = (goal.at.loop-i-preserved c).At-loop-i in
    record {
      same_c = refl;
      ahead = omega (arith, w.loop-i-test.true, c.three-test.true);
      last<n = l.loop-i.invariant.last<n;
      scanned = vertex_passed (three l) (proper l) _ (v<n w) (place_at (goal.at.loop-i-preserved c).After-locate)
          (not_inside_lem _ (sym c.eq.ensures ∙ c.if-eq.false))
          l.loop-i.last l.loop-i.i w.scanned-v.ensures l.loop-i.invariant.scanned;
    }

pub returns-then-is_fourth : goal.returns-then-is_fourth
returns-then-is_fourth c =
    let l = (goal.at.returns-then-is_fourth c).At-loop-i in
    let g = (goal.at.returns-then-is_fourth c).In-three in
    let k = (goal.at.returns-then-is_fourth c).After-locate-in-loop-w in
    let P = has_fourth c.args.rim.now.polygon in
    twelve_due c.args.rim.now.polygon
    (sym g.loop-a.invariant.1.twelve ∙ into2 _ P _ (a<n g)
    ∙ sym g.loop-b.invariant.1.twelve ∙ into3 _ P _ _ (b<n g)
    ∙ three_cocircular (three l) (proper l) (full l c.loop-i-test.false) _ (w<n (goal.at.returns-then-is_fourth c).In-loop-w)
    (seen_place k) c.is_fourth.ensures c.if-is_fourth.true) c.clear.ensures

pub overflow_step-w : goal.overflow_step-w
overflow_step-w c = omega (arith, c.args.rim.now.valid.most, c.loop-w-test.true)

pub loop-w-smaller : goal.loop-w-smaller
loop-w-smaller c = omega (arith, c.loop-w-test.true)

pub loop-w-preserved : goal.loop-w-preserved
loop-w-preserved c =
    let l = (goal.at.loop-w-preserved c).At-loop-i in record {
      same_set = c.loop-w.invariant.same_set;
      passed = fourth_passed (three l) (proper l) (full l c.loop-i-test.false) _ (w<n (goal.at.loop-w-preserved c).In-loop-w)
          (seen_place (goal.at.loop-w-preserved c).After-locate-in-loop-w) c.is_fourth.ensures c.if-is_fourth.false c.loop-w.invariant.passed;
    }

pub insert-requires : goal.insert-requires
insert-requires c =
    let t = three (goal.at.insert-requires c).At-loop-i in
    let m = c.args.rim.now.valid.most in
    (omega (arith, m, t.a<n), omega (arith, m, t.b<n), omega (arith, m, t.c<n))

pub overflow_step-c-in-three : goal.overflow_step-c-in-three
overflow_step-c-in-three c = let t = three (goal.at.overflow_step-c-in-three c).At-loop-i in omega (arith, c.args.rim.now.valid.most, t.c<n)

pub three-smaller : goal.three-smaller
three-smaller c = omega (arith, c.three-test.true)

pub three-preserved : goal.three-preserved
three-preserved c =
    let l = (goal.at.three-preserved c).At-loop-i in
    let seen = seen_long c.args.rim.now.valid c.lift_vertices-lifted.ensures in (
      l.loop-i.invariant.last<n,
      three_marked (three l) (proper l) (full l c.loop-i-test.false) _ (omega (arith, seen, c.loop-w-test.false)) c.loop-w.invariant.passed
          (subst (λ (s : List ℕ). Joined s (same_triple c.loop-a.a c.loop-b.b c.three.c) c.insert.new.self)
          c.loop-w.invariant.same_set c.insert.ensures.triangles),
    )

pub loop-b-preserved : goal.loop-b-preserved
loop-b-preserved c = (
  c.three.invariant.0,
  kept_turn (λ P. out3 _ P _ _ _ (omega (arith, c.three-test.false)))
      (kept_then (kept_turn (λ P. into3 _ P _ _ (omega (arith, c.loop-b-test.true))) c.loop-b.invariant.1)
      c.three.invariant.1),
)

pub loop-a-preserved : goal.loop-a-preserved
loop-a-preserved c = (
  c.loop-b.invariant.0,
  kept_turn (λ P. out2 _ P _ _ (omega (arith, c.loop-b-test.false)))
      (kept_then (kept_turn (λ P. into2 _ P _ (omega (arith, c.loop-a-test.true)))
      c.loop-a.invariant.1) c.loop-b.invariant.1),
)

pub returns : goal.returns
returns c = all_marked c.args.rim.now.polygon _ (omega (arith, c.loop-a-test.false)) c.loop-a.invariant.1
