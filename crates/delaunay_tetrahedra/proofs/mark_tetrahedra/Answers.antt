-- `delaunay_tetrahedra::mark_tetrahedra` meets its contract: at each loop's head what is marked and what is left make up all candidates. Assumes nothing.
use mathlib.Core.Path.{◌≡◌, refl, sym, ◌∙◌, ap, subst}
use mathlib.Core.Bool.{true}
use mathlib.Core.List.{List}
use Prim.Native.Nat.{ℕ, ◌+◌, ◌-◌, ◌<◌, ◌≤◌}
use native.Mathlib.Omega.{arith}
use Rattle.integers.proofs.Order.{zero_bits, other_bits}
use Rattle.integers.proofs.Bounds.{signed_fits}
use Rattle.polygon.specs.declared.Polygon.{Polygon}
use Rattle.polygon.specs.Polygon.{ValidPolygon}
use Rattle.geometry.specs.declared.sphere.Lifted.{Lifted}
use lib.IntN.{pos}
use Rattle.integers.specs.Order.{equal}
use Rattle.geometry.specs.Values.{SphereValue}
use Rattle.geometry.specs.declared.sphere.Sphere.{Sphere}
use lib.ListN.{get_or}
use Rattle.geometry.specs.declared.sphere.Pencil.{Pencil}
use Rattle.geometry.specs.Lifting.{pencil_of, sphere_of}
use Rattle.geometry.specs.Facets.{separates_by, refuted_by}
use Rattle.delaunay_search.specs.Search.{Lifts, unlifted}
use Rattle.faces.proofs.Fours.{left3, left4, into2, into3, into4, out2, out3, out4}
use Rattle.delaunay_tetrahedra.specs.Tetrahedra.{counts}
use Rattle.delaunay_search.proofs.Marking.{kept_start, kept_turn, kept_then}
use Rattle.delaunay_search.proofs.Scanning.{scanned_in}
use Rattle.delaunay_tetrahedra.proofs.Counting.{not_counts_flat}
use Rattle.delaunay_search.proofs.Lifting.{seen_long, read, seen_read}
use Rattle.geometry.specs.Lifting.{position_by}
use Rattle.faces.specs.Faces.{is_face}
use Rattle.faces.specs.Masks.{Joined}
use Rattle.delaunay_search.proofs.Placing.{is_inside_lem, not_inside_lem}
use Rattle.delaunay_tetrahedra.proofs.Corners.{Three, none_counts, flat_is}
use Rattle.delaunay_tetrahedra.proofs.Tetrahedra.{Hints, has_fifth, Kept, kept_skip, kept_leave, Four, four_dropped, three_left, vertex_passed}
use Rattle.delaunay_tetrahedra.proofs.Tetrahedra.{four_counts, fifth_passed, four_cospherical, four_marked, twelve_due, all_marked}
use Rattle.delaunay_tetrahedra.proofs.mark_tetrahedra.Goals.{After-pencil_through-pencil, After-scanned-v, After-locate, After-locate-in-loop-v}
use Rattle.delaunay_tetrahedra.proofs.mark_tetrahedra.Goals.{At-loop-i, In-loop-v, In-four, In-three}
use Rattle.delaunay_tetrahedra.proofs.mark_tetrahedra.Goals as goal

three_of : {p : Polygon} {a b c : ℕ} {lifted : List Lifted} {k : Pencil} (x y : Lifted) → ValidPolygon p → a < p.n - 3 → b < p.n - 2 → c < p.n - 1 →
    Lifts p a lifted → k ≡ pencil_of (get_or lifted b x) (get_or lifted c y) → Three p a b c lifted k
three_of {b = b} {c = c} {lifted = lifted} x y valid a<n b<n c<n lifts spans = record {
  valid = valid;
  a<n = omega (arith, a<n);
  b<n = omega (arith, b<n);
  c<n = omega (arith, c<n);
  lifts = lifts;
  spans = read (pencil_of (get_or lifted b unlifted)) valid lifts c (omega (arith, c<n)) y
      (read (λ (u : Lifted). pencil_of u (get_or lifted c y)) valid lifts b (omega (arith, b<n)) x spans);
}

-- at three corners
module _ (g : goal.In-three) where
  abbrev polygon : Polygon
  polygon = g.args.rim.now.polygon

  valid : ValidPolygon polygon
  valid = g.args.rim.now.valid

  abbrev A : ℕ
  A = g.loop-a.a

  abbrev B : ℕ
  B = g.loop-b.b

  abbrev C : ℕ
  C = g.three.c

  a<n : A < polygon.n
  a<n = omega (arith, g.loop-a-test.true)

  b<n : B < polygon.n
  b<n = omega (arith, g.loop-b-test.true)

  c<n : C < polygon.n
  c<n = omega (arith, g.three-test.true)

  hints : Hints polygon.n g.three.last g.three.apex
  hints = g.three.invariant.0

  -- up to the first four of the three
  entered : Kept polygon g.loop-b.set g.three.set (λ P. left3 polygon.n P A B (B + 1)) (λ P. left4 polygon.n P A B C (C + 1))
  entered = kept_turn (λ P. into4 _ P _ _ _ c<n) g.three.invariant.1

-- with their pencil
module _ (k : goal.After-pencil_through-pencil) where
  three : Three k.args.rim.now.polygon k.loop-a.a k.loop-b.b k.three.c k.lift_vertices-lifted.result k.pencil_through-pencil.result
  three = three_of k.index-lifted-b.result k.index-lifted-c.result k.args.rim.now.valid k.loop-a-test.true k.loop-b-test.true k.three-test.true
      k.lift_vertices-lifted.ensures k.pencil_through-pencil.ensures

-- at four corners
module _ (s : goal.In-four) where
  abbrev D : ℕ
  D = s.four.d

  d<n : D < s.args.rim.now.polygon.n
  d<n = s.four-test.true

  known : Hints s.args.rim.now.polygon.n s.four.last s.four.apex
  known = s.four.invariant.1

  triangle : Three s.args.rim.now.polygon s.loop-a.a s.loop-b.b s.three.c s.lift_vertices-lifted.result s.pencil_through-pencil.result
  triangle = three_of s.index-lifted-b.result s.index-lifted-c.result s.args.rim.now.valid s.loop-a-test.true s.loop-b-test.true s.three-test.true
      s.lift_vertices-lifted.ensures s.pencil_through-pencil.ensures

-- the orientation of a sphere, read from its fields
seen_orient : {s t : SphereValue} → s ≡ t → equal t.orient (pos 0) ≡ equal s.orient (pos 0)
seen_orient e = sym (λ i. equal (e i).orient (pos 0))

-- in the scan: they are not in one plane
module _ (l : goal.At-loop-i) where
  abbrev ball : Sphere
  ball = l.circumsphere-ball.result

  abbrev FourAt : ℕ → ℕ → Type 0
  FourAt c d =
      Four l.args.rim.now.polygon l.loop-a.a l.loop-b.b c d l.lift_vertices-lifted.result l.pencil_through-pencil.result ball l.three.set l.four.set
      (λ P. left4 l.args.rim.now.polygon.n P l.loop-a.a l.loop-b.b l.three.c (l.three.c + 1))

  triangle_of : Three l.args.rim.now.polygon l.loop-a.a l.loop-b.b l.three.c l.lift_vertices-lifted.result l.pencil_through-pencil.result
  triangle_of =
      three_of l.index-lifted-b.result l.index-lifted-c.result l.args.rim.now.valid l.loop-a-test.true l.loop-b-test.true l.three-test.true
      l.lift_vertices-lifted.ensures l.pencil_through-pencil.ensures

  through : ball ≡ sphere_of l.pencil_through-pencil.result (get_or l.lift_vertices-lifted.result l.four.d unlifted)
  through = read (sphere_of l.pencil_through-pencil.result) l.args.rim.now.valid l.lift_vertices-lifted.ensures l.four.d l.four-test.true
      l.index-lifted-d.result l.circumsphere-ball.ensures

  four : FourAt l.three.c l.four.d
  four = record {
    three = triangle_of;
    d<n = l.four-test.true;
    through = through;
    solid = sym (flat_is triangle_of l.four.d l.four-test.true through) ∙ seen_orient l.ball.view_is ∙ other_bits l.ball.inside.orient l.if-ball-eq0.false;
    kept = l.four.invariant.2;
  }

  -- no vertex is inside
  full : l.args.rim.now.polygon.n + 1 ≤ l.loop-i.i → counts l.args.rim.now.polygon l.loop-a.a l.loop-b.b l.three.c l.four.d ≡ true
  full h = four_counts four (l.loop-i.i - 1) (omega (arith, h)) l.loop-i.invariant.scanned

-- at the vertex of a turn
v<n : (w : goal.After-scanned-v) → w.scanned-v.result < w.args.rim.now.polygon.n
v<n w = scanned_in _ w.loop-i.last w.loop-i.i w.scanned-v.result w.loop-i.invariant.known.last<n w.loop-i-test.true w.scanned-v.ensures

-- at a vertex of the last loop
looked<n : (w : goal.In-loop-v) → w.loop-v.v < w.args.rim.now.polygon.n
looked<n w = omega (arith, seen_long w.args.rim.now.valid w.lift_vertices-lifted.ensures, w.loop-v-test.true)

seen_place : (k : goal.After-locate-in-loop-v) →
    k.locate-in-loop-v.result ≡ position_by k.circumsphere-ball.result (get_or k.lift_vertices-lifted.result k.loop-v.v unlifted)
seen_place k =
    let h : k.loop-v.v < k.args.rim.now.polygon.n = omega (arith, seen_long k.args.rim.now.valid k.lift_vertices-lifted.ensures, k.loop-v-test.true) in
    k.locate-in-loop-v.ensures ∙ ap (λ (s : Lifted). position_by k.circumsphere-ball.result s)
    (seen_read k.args.rim.now.valid k.lift_vertices-lifted.ensures k.loop-v.v h k.seen-item.result k.seen-item.is)

-- what the calls say of elements
place_at : (w : goal.After-locate) → w.locate.result ≡ position_by w.circumsphere-ball.result (get_or w.lift_vertices-lifted.result w.scanned-v.result unlifted)
place_at w =
    let h = scanned_in _ w.loop-i.last w.loop-i.i w.scanned-v.result w.loop-i.invariant.known.last<n w.loop-i-test.true w.scanned-v.ensures in
    read (position_by w.circumsphere-ball.result) w.args.rim.now.valid w.lift_vertices-lifted.ensures w.scanned-v.result h w.index-lifted-v.result
    w.locate.ensures

pub overflow_sub-a-end : goal.overflow_sub-a-end
overflow_sub-a-end c = c.args.rim.now.valid.least

pub loop-a-init : goal.loop-a-init
loop-a-init c = (omega (arith, c.args.rim.now.valid.least), kept_start)

pub lift_vertices-lifted-requires : goal.lift_vertices-lifted-requires
lift_vertices-lifted-requires c = omega (arith, c.loop-a-test.true)

pub overflow_step-b : goal.overflow_step-b
overflow_step-b c = omega (arith, c.args.rim.now.valid.most, c.loop-a-test.true)

pub overflow_sub-b-end : goal.overflow_sub-b-end
overflow_sub-b-end c = omega (arith, c.args.rim.now.valid.least)

pub loop-b-init : goal.loop-b-init
loop-b-init c = (c.loop-a.invariant.0, kept_start)

pub overflow_step-c : goal.overflow_step-c
overflow_step-c c = omega (arith, c.args.rim.now.valid.most, c.loop-b-test.true)

pub overflow_sub-c-end : goal.overflow_sub-c-end
overflow_sub-c-end c = omega (arith, c.args.rim.now.valid.least)

pub three-init : goal.three-init
three-init c = (c.loop-b.invariant.0, kept_start)

pub offset_bounds-lifted-b : goal.offset_bounds-lifted-b
offset_bounds-lifted-b c = omega (arith, c.args.rim.now.valid.most, b<n (goal.at.offset_bounds-lifted-b c).In-three)

pub bounds-lifted-b : goal.bounds-lifted-b
bounds-lifted-b c = omega (arith, c.args.rim.now.valid.most, b<n (goal.at.bounds-lifted-b c).In-three)

pub offset_bounds-lifted-c : goal.offset_bounds-lifted-c
offset_bounds-lifted-c c = omega (arith, c.args.rim.now.valid.most, c<n (goal.at.offset_bounds-lifted-c c).In-three)

pub bounds-lifted-c : goal.bounds-lifted-c
bounds-lifted-c c = omega (arith, c.args.rim.now.valid.most, c<n (goal.at.bounds-lifted-c c).In-three)

pub offset_bounds-lifted-apex : goal.offset_bounds-lifted-apex
offset_bounds-lifted-apex c = omega (arith, c.args.rim.now.valid.most, (hints (goal.at.offset_bounds-lifted-apex c).In-three).apex<n)

pub bounds-lifted-apex : goal.bounds-lifted-apex
bounds-lifted-apex c = omega (arith, c.args.rim.now.valid.most, (hints (goal.at.bounds-lifted-apex c).In-three).apex<n)

pub offset_bounds-lifted-last : goal.offset_bounds-lifted-last
offset_bounds-lifted-last c = let g = (goal.at.offset_bounds-lifted-last c).In-three in omega (arith, c.args.rim.now.valid.most, (hints g).last<n)

pub bounds-lifted-last : goal.bounds-lifted-last
bounds-lifted-last c = let g = (goal.at.bounds-lifted-last c).In-three in omega (arith, c.args.rim.now.valid.most, (hints g).last<n)

pub still_refuted-requires : goal.still_refuted-requires
still_refuted-requires c = let g = (goal.at.still_refuted-requires c).In-three in (c.args.rim.now.valid.most, c<n g)

pub overflow_step-c-then-still_refuted : goal.overflow_step-c-then-still_refuted
overflow_step-c-then-still_refuted c = let g = (goal.at.overflow_step-c-then-still_refuted c).In-three in omega (arith, c.args.rim.now.valid.most, c<n g)

pub three-smaller-then-still_refuted : goal.three-smaller-then-still_refuted
three-smaller-then-still_refuted c = let g = (goal.at.three-smaller-then-still_refuted c).In-three in omega (arith, c<n g)

pub three-preserved-then-still_refuted : goal.three-preserved-then-still_refuted
three-preserved-then-still_refuted c =
    let k = (goal.at.three-preserved-then-still_refuted c).After-pencil_through-pencil in
    let g = (goal.at.three-preserved-then-still_refuted c).In-three in
    let lifts = c.lift_vertices-lifted.ensures in
    let lifted = c.lift_vertices-lifted.result in
    let pencil = c.pencil_through-pencil.result in
    let refuted = sym (read (λ (w : Lifted). refuted_by pencil (get_or lifted c.three.apex unlifted) w) c.args.rim.now.valid lifts c.three.last (hints g).last<n
    c.index-lifted-last.result
    (read (λ (s : Lifted). refuted_by pencil s (get_or lifted c.three.last c.index-lifted-last.result)) c.args.rim.now.valid lifts c.three.apex (hints g).apex<n
    c.index-lifted-apex.result (sym (c.still_refuted.ensures c.if-still_refuted.true)))) in
    (hints g, kept_leave _ _ _ _ _ (entered g) (none_counts (three k) _ _ (hints g).apex<n (hints g).last<n refuted))

pub overflow_step-d : goal.overflow_step-d
overflow_step-d c = let g = (goal.at.overflow_step-d c).In-three in omega (arith, c.args.rim.now.valid.most, c<n g)

pub four-init : goal.four-init
four-init c = (refl, hints (goal.at.four-init c).In-three, kept_start)

pub offset_bounds-lifted-d : goal.offset_bounds-lifted-d
offset_bounds-lifted-d c = omega (arith, c.args.rim.now.valid.most, d<n (goal.at.offset_bounds-lifted-d c).In-four)

pub bounds-lifted-d : goal.bounds-lifted-d
bounds-lifted-d c = omega (arith, c.args.rim.now.valid.most, d<n (goal.at.bounds-lifted-d c).In-four)

pub overflow_step-d-then-ball-eq0 : goal.overflow_step-d-then-ball-eq0
overflow_step-d-then-ball-eq0 c = let s = (goal.at.overflow_step-d-then-ball-eq0 c).In-four in omega (arith, c.args.rim.now.valid.most, d<n s)

pub four-smaller-then-ball-eq0 : goal.four-smaller-then-ball-eq0
four-smaller-then-ball-eq0 c = let s = (goal.at.four-smaller-then-ball-eq0 c).In-four in omega (arith, d<n s)

pub four-preserved-then-ball-eq0 : goal.four-preserved-then-ball-eq0
four-preserved-then-ball-eq0 c =
    let s = (goal.at.four-preserved-then-ball-eq0 c).In-four in
    let e = read (sphere_of c.pencil_through-pencil.result) c.args.rim.now.valid c.lift_vertices-lifted.ensures (D s) (d<n s) c.index-lifted-d.result
    c.circumsphere-ball.ensures in
    let flat = seen_orient c.ball.view_is ∙ zero_bits c.ball.inside.orient (signed_fits tt c.ball.invariant.orient_in) c.if-ball-eq0.true in
    (refl, known s, kept_skip _ _ _ _ (D s) s.four.invariant.2 (d<n s) (not_counts_flat _ _ _ _ _ (sym (flat_is (triangle s) (D s) (d<n s) e) ∙ flat)))

pub overflow_add-i-end : goal.overflow_add-i-end
overflow_add-i-end c = let s = (goal.at.overflow_add-i-end c).In-four in omega (arith, c.args.rim.now.valid.most)

pub loop-i-init : goal.loop-i-init
loop-i-init c = record { same_c = refl; same_d = refl; ahead = omega arith; known = known (goal.at.loop-i-init c).In-four; scanned = refl }

pub offset_bounds-lifted-v : goal.offset_bounds-lifted-v
offset_bounds-lifted-v c = omega (arith, c.args.rim.now.valid.most, v<n (goal.at.offset_bounds-lifted-v c).After-scanned-v)

pub bounds-lifted-v : goal.bounds-lifted-v
bounds-lifted-v c = omega (arith, c.args.rim.now.valid.most, v<n (goal.at.bounds-lifted-v c).After-scanned-v)

pub offset_bounds-lifted-d-then-eq : goal.offset_bounds-lifted-d-then-eq
offset_bounds-lifted-d-then-eq c = let f = four (goal.at.offset_bounds-lifted-d-then-eq c).At-loop-i in omega (arith, c.args.rim.now.valid.most, f.d<n)

pub bounds-lifted-d-then-eq : goal.bounds-lifted-d-then-eq
bounds-lifted-d-then-eq c = let f = four (goal.at.bounds-lifted-d-then-eq c).At-loop-i in omega (arith, c.args.rim.now.valid.most, f.d<n)

pub offset_bounds-lifted-v-then-eq : goal.offset_bounds-lifted-v-then-eq
offset_bounds-lifted-v-then-eq c = let w = (goal.at.offset_bounds-lifted-v-then-eq c).After-scanned-v in omega (arith, c.args.rim.now.valid.most, v<n w)

pub bounds-lifted-v-then-eq : goal.bounds-lifted-v-then-eq
bounds-lifted-v-then-eq c = let w = (goal.at.bounds-lifted-v-then-eq c).After-scanned-v in omega (arith, c.args.rim.now.valid.most, v<n w)

pub listed-then-eq-2 : goal.listed-then-eq-2
listed-then-eq-2 c =
    omega (arith, c.args.rim.now.valid.most, c.lift_vertices-lifted.ensures.long, v<n (goal.at.listed-then-eq-2 c).After-scanned-v)

pub overflow_step-c-then-separates : goal.overflow_step-c-then-separates
overflow_step-c-then-separates c = let f = four (goal.at.overflow_step-c-then-separates c).At-loop-i in omega (arith, c.args.rim.now.valid.most, f.three.c<n)

pub three-smaller-then-separates : goal.three-smaller-then-separates
three-smaller-then-separates c = let l = (goal.at.three-smaller-then-separates c).At-loop-i in
    omega (arith, c<n (goal.at.three-smaller-then-separates c).In-three)

pub three-preserved-then-separates : goal.three-preserved-then-separates
three-preserved-then-separates c =
    let t = c in
    let w = (goal.at.three-preserved-then-separates c).After-scanned-v in
    let f = four (goal.at.three-preserved-then-separates c).At-loop-i in
    let lifts = c.lift_vertices-lifted.ensures in
    let lifted = c.lift_vertices-lifted.result in
    let pencil = c.pencil_through-pencil.result in
    let parted = read (λ (u : Lifted). separates_by pencil (get_or lifted c.four.d unlifted) u) c.args.rim.now.valid lifts c.scanned-v.result (v<n w)
    c.index-lifted-v-then-eq.result
    (read (λ (s : Lifted). separates_by pencil s (get_or lifted c.scanned-v.result c.index-lifted-v-then-eq.result)) c.args.rim.now.valid lifts c.four.d f.d<n
    c.index-lifted-d-then-eq.result c.separates.ensures) in (
      record { last<n = v<n w; apex<n = f.d<n },
      kept_then (entered (goal.at.three-preserved-then-separates c).In-three)
          (three_left f _ (v<n w) (place_at (goal.at.three-preserved-then-separates c).After-locate) (is_inside_lem _ (sym c.eq.ensures ∙ c.if-eq.true))
          (sym parted ∙ c.if-separates.true)),
    )

pub overflow_step-d-then-eq : goal.overflow_step-d-then-eq
overflow_step-d-then-eq c = let f = four (goal.at.overflow_step-d-then-eq c).At-loop-i in omega (arith, c.args.rim.now.valid.most, f.d<n)

pub four-smaller-then-eq : goal.four-smaller-then-eq
four-smaller-then-eq c = let l = (goal.at.four-smaller-then-eq c).At-loop-i in omega (arith, d<n (goal.at.four-smaller-then-eq c).In-four)

pub four-preserved-then-eq : goal.four-preserved-then-eq
four-preserved-then-eq c =
    let t = c in
    let w = (goal.at.four-preserved-then-eq c).After-scanned-v in
    let l = (goal.at.four-preserved-then-eq c).At-loop-i in (
      refl,
      record { last<n = v<n w; apex<n = l.loop-i.invariant.known.apex<n },
      four_dropped (four l) _ (v<n w) (place_at (goal.at.four-preserved-then-eq c).After-locate) (is_inside_lem _ (sym c.eq.ensures ∙ c.if-eq.true)),
    )

pub overflow_step-i : goal.overflow_step-i
overflow_step-i c = let w = (goal.at.overflow_step-i c).After-scanned-v in omega (arith, c.args.rim.now.valid.most, w.loop-i-test.true)

pub loop-i-smaller : goal.loop-i-smaller
loop-i-smaller c = omega (arith, c.loop-i-test.true)

pub loop-i-preserved : goal.loop-i-preserved
loop-i-preserved c =
    let w = (goal.at.loop-i-preserved c).After-scanned-v in
    let l = (goal.at.loop-i-preserved c).At-loop-i in
    record {
      same_c = refl;
      same_d = refl;
      ahead = omega (arith, w.loop-i-test.true);
      known = l.loop-i.invariant.known;
      scanned = vertex_passed (four l) _ (v<n w) (place_at (goal.at.loop-i-preserved c).After-locate) (not_inside_lem _ (sym c.eq.ensures ∙ c.if-eq.false))
          l.loop-i.last l.loop-i.i w.scanned-v.ensures
          l.loop-i.invariant.scanned;
    }

pub returns-then-is_fifth : goal.returns-then-is_fifth
returns-then-is_fifth c =
    let l = (goal.at.returns-then-is_fifth c).At-loop-i in
    let g = (goal.at.returns-then-is_fifth c).In-three in
    let P = has_fifth c.args.rim.now.polygon in
    twelve_due c.args.rim.now.polygon
    (sym g.loop-a.invariant.1.twelve ∙ into2 _ P _ (a<n g)
    ∙ sym g.loop-b.invariant.1.twelve ∙ into3 _ P _ _ (b<n g)
    ∙ sym (entered g).twelve
    ∙ four_cospherical (four l) (full l c.loop-i-test.false) _ (looked<n (goal.at.returns-then-is_fifth c).In-loop-v)
    (seen_place (goal.at.returns-then-is_fifth c).After-locate-in-loop-v) c.is_fifth.ensures c.if-is_fifth.true) c.clear.ensures

pub overflow_step-v : goal.overflow_step-v
overflow_step-v c = omega (arith, c.args.rim.now.valid.most, c.loop-v-test.true)

pub loop-v-smaller : goal.loop-v-smaller
loop-v-smaller c = omega (arith, c.loop-v-test.true)

pub loop-v-preserved : goal.loop-v-preserved
loop-v-preserved c =
    let l = (goal.at.loop-v-preserved c).At-loop-i in record {
      same_set = c.loop-v.invariant.same_set;
      passed = fifth_passed (four l) (full l c.loop-i-test.false) _ (looked<n (goal.at.loop-v-preserved c).In-loop-v)
          (seen_place (goal.at.loop-v-preserved c).After-locate-in-loop-v) c.is_fifth.ensures c.if-is_fifth.false c.loop-v.invariant.passed;
    }

pub insert_faces-requires : goal.insert_faces-requires
insert_faces-requires c =
    let f = four (goal.at.insert_faces-requires c).At-loop-i in
    let m = c.args.rim.now.valid.most in
    (omega (arith, m, f.three.a<n), omega (arith, m, f.three.b<n), omega (arith, m, f.three.c<n), omega (arith, m, f.d<n))

pub overflow_step-d-in-four : goal.overflow_step-d-in-four
overflow_step-d-in-four c = let f = four (goal.at.overflow_step-d-in-four c).At-loop-i in omega (arith, c.args.rim.now.valid.most, f.d<n)

pub four-smaller : goal.four-smaller
four-smaller c = let l = (goal.at.four-smaller c).At-loop-i in omega (arith, d<n (goal.at.four-smaller c).In-four)

pub four-preserved : goal.four-preserved
four-preserved c =
    let l = (goal.at.four-preserved c).At-loop-i in
    let seen = seen_long c.args.rim.now.valid c.lift_vertices-lifted.ensures in (
      refl,
      l.loop-i.invariant.known,
      four_marked (four l) (full l c.loop-i-test.false) _ (omega (arith, seen, c.loop-v-test.false)) c.loop-v.invariant.passed
          (subst (λ (s : List ℕ). Joined s (is_face c.loop-a.a c.loop-b.b l.three.c l.four.d) c.insert_faces.new.self)
          c.loop-v.invariant.same_set c.insert_faces.ensures.triangles),
    )

pub overflow_step-c-in-three : goal.overflow_step-c-in-three
overflow_step-c-in-three c = let g = (goal.at.overflow_step-c-in-three c).In-three in omega (arith, c.args.rim.now.valid.most, c<n g)

pub three-smaller : goal.three-smaller
three-smaller c = let g = (goal.at.three-smaller c).In-three in omega (arith, c<n g)

pub three-preserved : goal.three-preserved
three-preserved c =
    let g = (goal.at.three-preserved c).In-three in
    (c.four.invariant.1, kept_turn (λ P. out4 _ P _ _ _ _ c.four-test.false) (kept_then (entered g) c.four.invariant.2))

pub loop-b-preserved : goal.loop-b-preserved
loop-b-preserved c = (
  c.three.invariant.0,
  kept_turn (λ P. out3 _ P _ _ _ (omega (arith, c.three-test.false)))
      (kept_then (kept_turn (λ P. into3 _ P _ _ (omega (arith, c.loop-b-test.true))) c.loop-b.invariant.1)
      c.three.invariant.1),
)

pub loop-a-preserved : goal.loop-a-preserved
loop-a-preserved c = (
  c.loop-b.invariant.0,
  kept_turn (λ P. out2 _ P _ _ (omega (arith, c.loop-b-test.false)))
      (kept_then (kept_turn (λ P. into2 _ P _ (omega (arith, c.loop-a-test.true))) c.loop-a.invariant.1)
      c.loop-b.invariant.1),
)

pub returns : goal.returns
returns c = all_marked c.args.rim.now.polygon _ (omega (arith, c.loop-a-test.false)) c.loop-a.invariant.1
