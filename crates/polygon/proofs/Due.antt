-- The number that the tests of a polygon give is the first that is due, and they give none exactly where none is due: the polygon is valid then
-- (rule 4.34). Assumes nothing.
use mathlib.Core.Path.{◌≡◌, refl, sym, ap, ◌∙◌, subst}
use mathlib.Core.Bool.{false}
use mathlib.Core.List.{List}
use mathlib.Core.Logic.{◌⊎◌, inl, inr}
use Prim.Native.Nat.{ℕ, zero, suc, ◌+◌, ◌≤◌, ◌<◌}
use native.Mathlib.Omega.{arith}
use borrow.Author.Tests.{ltb-true, ltb-false}
use lib.Dec.{ltb}
use Rattle.lists.proofs.Choice.{yes, no, Truth, holds, fails, truth, true_not_false, below_or_same, Compared, less, same, more, compared}
use Rattle.terms.specs.Limits.{min_vertices, max_vertices, max_area_factor, max_bend_factor}
use Rattle.terms.specs.Numbers.{first_due}
use Rattle.terms.specs.Order.{Precedes, by_place, by_number, NoneDue}
use Rattle.terms.proofs.Numbers.{due_here, due_on}
use Rattle.terms.proofs.Order.{Ordered, earlier, later, one_place, Verdict, first_due_lem, none_due, verdict_first, verdict_given, verdict_zero, verdict_none}
use Rattle.grid.specs.declared.GridPoint.{GridPoint}
use Rattle.grid.specs.Point.{point_on_grid}
use Rattle.grid.proofs.Points.{point_on_grid_lem, point_on_grid_test}
use Rattle.polygon.specs.declared.Polygon.{Polygon}
use Rattle.polygon.specs.declared.normal.Normal.{Normal}
use Rattle.polygon.specs.Normal.{normal_at, normal_in_range}
use Rattle.polygon.specs.Polygon.{vertex_at, repeated_vertex, vertex_code, vertices_code_from, vertices_code, code_of, ValidPolygon}
use Rattle.polygon.specs.Due.{PolygonPlace, header, vertex, rim, PolygonBefore, header_vertex, header_rim, vertex_vertex, vertex_rim, First}
use Rattle.polygon.specs.Due.{PolygonDue, area_factor, bend_factor, too_many, off_grid, normal_out_of_range, too_few, vertex_repeated}
use Rattle.polygon.proofs.Normals.{normal_in_range_lem, normal_in_range_test}
use Rattle.polygon.proofs.Codes.{nine, eighteen, clear, on_grid_at, in_range_at}
use Rattle.polygon.proofs.Codes as codes
use Rattle.polygon.proofs.Validity.{Repeated, repeated_found, code_valid}

-- ---- of two places one comes first
vertices_ordered : {h i : ℕ} → Compared h i → Ordered PolygonBefore (vertex h) (vertex i)
vertices_ordered {h} {i} (less l) = earlier (vertex_vertex {h = h} {i = i} (omega arith))
vertices_ordered (same e) = one_place (ap vertex e)
vertices_ordered {h} {i} (more l) = later (vertex_vertex {h = i} {i = h} (omega arith))

pub ordered : (p q : PolygonPlace) → Ordered PolygonBefore p q
ordered header header = one_place refl
ordered header (vertex i) = earlier header_vertex
ordered header rim = earlier header_rim
ordered (vertex h) header = later header_vertex
ordered (vertex h) (vertex i) = vertices_ordered (compared h i)
ordered (vertex h) rim = earlier vertex_rim
ordered rim header = later header_rim
ordered rim (vertex i) = later vertex_rim
ordered rim rim = one_place refl

-- ---- the first vertex on which a number is due
record Here (vertices : List GridPoint) (normals : List Normal) (lo hi k : ℕ) : Type 0 where
  at : ℕ
  low : lo ≤ at
  high : at < hi
  given : vertex_code vertices normals at ≡ suc k
  clear_before : (j : ℕ) → lo ≤ j → j < at → vertex_code vertices normals j ≡ 0

here : (vertices : List GridPoint) (normals : List Normal) (i c k : ℕ) → vertices_code_from vertices normals i c ≡ suc k → Here vertices normals i (i + c) k
unfolding vertices_code_from
here vertices normals i zero k h = absurd (omega arith)
here vertices normals i (suc c) k h = by (vertex_code vertices normals i) refl h (λ d. here vertices normals (suc i) c k d)
  where
    by : (n : ℕ) → vertex_code vertices normals i ≡ n → first_due n (vertices_code_from vertices normals (suc i) c) ≡ suc k →
        (vertices_code_from vertices normals (suc i) c ≡ suc k → Here vertices normals (suc i) (suc i + c) k) → Here vertices normals i (i + suc c) k
    by (suc n) e d rest = record { at = i; low = omega arith; high = omega arith; given = e ∙ d; clear_before = λ j l m. absurd (omega arith) }
    by zero e d rest =
        let r = rest d in
        record {
          at = r.at;
          low = omega (arith, r.low);
          high = omega (arith, r.high);
          given = r.given;
          clear_before = λ j l m. before r j m (below_or_same i j l);
        }
      where
        before : (r : Here vertices normals (suc i) (suc i + c) k) (j : ℕ) → j < r.at → (i < j) ⊎ (i ≡ j) → vertex_code vertices normals j ≡ 0
        before r j m (inl q) = r.clear_before j (omega arith) m
        before r j m (inr q) = ap (vertex_code vertices normals) (sym q) ∙ e

module _ (p : Polygon) where
  -- ---- 2
  two_first : (q : PolygonPlace) (j : ℕ) → Precedes PolygonBefore q j header 2 → PolygonDue p q j → ⊥
  two_first _ j (by_number l) d = omega (arith, least j d)
    where
      least : (j : ℕ) → PolygonDue p header j → 2 ≤ j
      least _ (area_factor h) = omega arith
      least _ (bend_factor h) = omega arith
      least _ (too_many h) = omega arith
  two_first q j (by_place x10) d = elim x10 [ ]

  -- ---- 5
  module _ (area : ltb max_area_factor p.area_factor ≡ false) (bend : ltb max_bend_factor p.bend_factor ≡ false) where
    five_first : max_vertices < p.n → First (PolygonDue p) 5
    five_first over = record { place = header; is_due = too_many over; none_before = before }
      where
        number : (j : ℕ) → j < 5 → PolygonDue p header j → ⊥
        number _ l (area_factor h) = omega (arith, ltb-false max_area_factor p.area_factor area)
        number _ l (bend_factor h) = omega (arith, ltb-false max_bend_factor p.bend_factor bend)
        number _ l (too_many h) = omega arith

        before : (q : PolygonPlace) (j : ℕ) → Precedes PolygonBefore q j header 5 → PolygonDue p q j → ⊥
        before _ j (by_number l) d = number j l d
        before q j (by_place x10) d = elim x10 [ ]

    module _ (few : ltb max_vertices p.n ≡ false) where
      no_header : (j : ℕ) → PolygonDue p header j → ⊥
      no_header _ (area_factor h) = omega (arith, ltb-false max_area_factor p.area_factor area)
      no_header _ (bend_factor h) = omega (arith, ltb-false max_bend_factor p.bend_factor bend)
      no_header _ (too_many h) = omega (arith, ltb-false max_vertices p.n few)

      -- ---- 9 and 18, at the first vertex on which one of them is due
      module _ {k : ℕ} (found : Here p.vertices p.normals 0 (0 + p.n) k) where
        no_earlier : (i : ℕ) → i < found.at → (j : ℕ) → PolygonDue p (vertex i) j → ⊥
        no_earlier i l _ (off_grid m h) =
            h (point_on_grid_lem (vertex_at p.vertices i) (clear p.vertices p.normals i (found.clear_before i (omega arith) l)).on_grid)
        no_earlier i l _ (normal_out_of_range m h) =
            h (normal_in_range_lem (normal_at p.normals i) (clear p.vertices p.normals i (found.clear_before i (omega arith) l)).ranged)

        here_first : (m : ℕ) → PolygonDue p (vertex found.at) m → ((j : ℕ) → j < m → PolygonDue p (vertex found.at) j → ⊥) → First (PolygonDue p) m
        here_first m d number = record { place = vertex found.at; is_due = d; none_before = before }
          where
            before : (q : PolygonPlace) (j : ℕ) → Precedes PolygonBefore q j (vertex found.at) m → PolygonDue p q j → ⊥
            before _ j (by_place header_vertex) d = no_header j d
            before _ j (by_place (vertex_vertex {h} l)) d = no_earlier h (omega arith) j d
            before _ j (by_number l) d = number j l d

        below : found.at < p.n
        below = omega (arith, found.high)

        vertex_first : Truth (point_on_grid (vertex_at p.vertices found.at)) → Truth (normal_in_range (normal_at p.normals found.at)) →
            First (PolygonDue p) (suc k)
        vertex_first (fails g) r =
            subst (λ (m : ℕ). First (PolygonDue p) m) (sym (nine p.vertices p.normals found.at g) ∙ found.given)
            (here_first 9 (off_grid below (λ q. true_not_false (point_on_grid_test (vertex_at p.vertices found.at) q) g)) number)
          where
            number : (j : ℕ) → j < 9 → PolygonDue p (vertex found.at) j → ⊥
            number _ l (off_grid m h) = omega arith
            number _ l (normal_out_of_range m h) = omega arith
        vertex_first (holds g) (fails r) =
            subst (λ (m : ℕ). First (PolygonDue p) m) (sym (eighteen p.vertices p.normals found.at g r) ∙ found.given)
            (here_first 18 (normal_out_of_range below (λ q. true_not_false (normal_in_range_test (normal_at p.normals found.at) q) r)) number)
          where
            number : (j : ℕ) → j < 18 → PolygonDue p (vertex found.at) j → ⊥
            number _ l (off_grid m h) = h (point_on_grid_lem (vertex_at p.vertices found.at) g)
            number _ l (normal_out_of_range m h) = omega arith
        vertex_first (holds g) (holds r) = absurd (omega (arith, found.given, codes.none_due p.vertices p.normals found.at g r))

      -- ---- 10 and 11
      module _ (all_clear : vertices_code p.vertices p.normals p.n ≡ 0) where
        no_vertex : (i j : ℕ) → PolygonDue p (vertex i) j → ⊥
        no_vertex i _ (off_grid l h) = h (on_grid_at p.vertices p.normals p.n all_clear i l)
        no_vertex i _ (normal_out_of_range l h) = h (in_range_at p.vertices p.normals p.n all_clear i l)

        rim_first : (m : ℕ) → PolygonDue p rim m → ((j : ℕ) → j < m → PolygonDue p rim j → ⊥) → First (PolygonDue p) m
        rim_first m d number = record { place = rim; is_due = d; none_before = before }
          where
            before : (q : PolygonPlace) (j : ℕ) → Precedes PolygonBefore q j rim m → PolygonDue p q j → ⊥
            before _ j (by_place header_rim) d = no_header j d
            before _ j (by_place (vertex_rim {i})) d = no_vertex i j d
            before _ j (by_number l) d = number j l d

        ten_first : p.n < min_vertices → First (PolygonDue p) 10
        ten_first h = rim_first 10 (too_few h) number
          where
            number : (j : ℕ) → j < 10 → PolygonDue p rim j → ⊥
            number _ l (too_few h) = omega arith
            number _ l (vertex_repeated m n e) = omega arith

        module _ (enough : ltb p.n min_vertices ≡ false) where
          eleven_first : Repeated p.vertices p.n → First (PolygonDue p) 11
          eleven_first r = rim_first 11 (vertex_repeated r.apart r.below r.at_one) number
            where
              number : (j : ℕ) → j < 11 → PolygonDue p rim j → ⊥
              number _ l (too_few h) = omega (arith, ltb-false p.n min_vertices enough)
              number _ l (vertex_repeated m n e) = omega arith

  -- ---- none
  pub valid_none : ValidPolygon p → NoneDue (PolygonDue p)
  valid_none v = record { none = nothing }
    where
      nothing : (q : PolygonPlace) (k : ℕ) → PolygonDue p q k → ⊥
      nothing _ _ (area_factor h) = omega (arith, v.area_factor)
      nothing _ _ (bend_factor h) = omega (arith, v.bend_factor)
      nothing _ _ (too_many h) = omega (arith, v.most)
      nothing _ _ (off_grid {i} l h) = h (v.on_grid i l)
      nothing _ _ (normal_out_of_range {i} l h) = h (v.normals_in_range i l)
      nothing _ _ (too_few h) = omega (arith, v.least)
      nothing _ _ (vertex_repeated {i} {j} l m e) = v.distinct i j l m e

  -- ---- the tests one after the other
  number_first : (k : ℕ) → code_of p ≡ suc k → First (PolygonDue p) (suc k)
  unfolding code_of
  number_first k e =
      by (truth (ltb max_area_factor p.area_factor)) (truth (ltb max_bend_factor p.bend_factor)) (truth (ltb max_vertices p.n))
      (vertices_code p.vertices p.normals p.n) refl (truth (ltb p.n min_vertices)) (truth (repeated_vertex p.vertices p.n))
    where
      given : {m : ℕ} → code_of p ≡ m → First (PolygonDue p) m → First (PolygonDue p) (suc k)
      given q f = subst (λ (m : ℕ). First (PolygonDue p) m) (sym q ∙ e) f

      by : Truth (ltb max_area_factor p.area_factor) → Truth (ltb max_bend_factor p.bend_factor) → Truth (ltb max_vertices p.n) →
          (c : ℕ) → vertices_code p.vertices p.normals p.n ≡ c → Truth (ltb p.n min_vertices) →
          Truth (repeated_vertex p.vertices p.n) → First (PolygonDue p) (suc k)
      by (holds a) b m c v l r =
          given (yes _ _ a) (record { place = header; is_due = area_factor (ltb-true max_area_factor p.area_factor a); none_before = two_first })
      by (fails a) (holds b) m c v l r =
          given (no _ _ a ∙ yes _ _ b) (record { place = header; is_due = bend_factor (ltb-true max_bend_factor p.bend_factor b); none_before = two_first })
      by (fails a) (fails b) (holds m) c v l r = given (no _ _ a ∙ no _ _ b ∙ yes _ _ m) (five_first a b (ltb-true max_vertices p.n m))
      by (fails a) (fails b) (fails m) (suc c) v l r =
          let f = here p.vertices p.normals 0 p.n c v in
          given (no _ _ a ∙ no _ _ b ∙ no _ _ m ∙ due_here _ (sym v) (λ z. omega arith))
          (vertex_first a b m f (truth (point_on_grid (vertex_at p.vertices f.at))) (truth (normal_in_range (normal_at p.normals f.at))))
      by (fails a) (fails b) (fails m) zero v (holds l) r =
          given (no _ _ a ∙ no _ _ b ∙ no _ _ m ∙ due_on _ v ∙ yes _ _ l) (ten_first a b m v (ltb-true p.n min_vertices l))
      by (fails a) (fails b) (fails m) zero v (fails l) (holds r) =
          given (no _ _ a ∙ no _ _ b ∙ no _ _ m ∙ due_on _ v ∙ no _ _ l ∙ yes _ _ r) (eleven_first a b m v l (repeated_found p.vertices p.n r))
      by (fails a) (fails b) (fails m) zero v (fails l) (fails r) =
          let z : code_of p ≡ 0 = no _ _ a ∙ no _ _ b ∙ no _ _ m ∙ due_on _ v ∙ no _ _ l ∙ no _ _ r in
          absurd (omega (arith, z, e))

  pub verdict : Verdict PolygonBefore (PolygonDue p) (code_of p)
  verdict = by (code_of p) refl
    where
      by : (k : ℕ) → code_of p ≡ k → Verdict PolygonBefore (PolygonDue p) (code_of p)
      by zero e = none_due (valid_none (code_valid p e)) e
      by (suc k) e = first_due_lem k (number_first k e) e

  -- a number is given exactly when it is the first that is due
  pub code_first : (k : ℕ) → code_of p ≡ suc k → First (PolygonDue p) (suc k)
  code_first k e = verdict_given verdict e

  pub first_code : (k : ℕ) → First (PolygonDue p) k → code_of p ≡ k
  first_code k f = verdict_first ordered verdict f

  -- and none exactly when none is due, which is to be valid
  pub none_code : NoneDue (PolygonDue p) → code_of p ≡ 0
  none_code none = verdict_zero verdict none

  pub code_none : code_of p ≡ 0 → NoneDue (PolygonDue p)
  code_none e = verdict_none verdict e

  pub none_valid : NoneDue (PolygonDue p) → ValidPolygon p
  none_valid none = code_valid p (none_code none)
