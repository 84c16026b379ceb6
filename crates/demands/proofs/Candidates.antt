-- The candidates of a rim and 12, as tests and as statements. Assumes nothing.
use mathlib.Core.Path.{◌≡◌, refl, sym, ◌∙◌, ap, subst}
use mathlib.Core.Bool.{Bool, true, false, not}
use mathlib.Core.Logic.{⊎_elim}
use Prim.Native.Nat.{ℕ, ◌<◌}
use native.Mathlib.Omega.{arith}
use borrow.Author.Tests.{not-true, eq-eqb, ne_eqb}
use lib.Dec.{eqb}
use Rattle.polygon.specs.declared.Polygon.{Polygon}
use Rattle.geometry.specs.Spheres.{coplanar}
use Rattle.planar.specs.Circles.{collinear}
use Rattle.lists.specs.Lists.{both, either, every, some}
use Rattle.lists.proofs.Choice.{Truth, truth, holds, fails, yes, no, true_not_false, not_true_false}
use Rattle.lists.proofs.Choice.{both_left, both_right, both_true, either_left, either_right, either_cases}
use Rattle.lists.proofs.Ranges.{every_at, every_all, some_found, some_here}
use Rattle.faces.specs.Faces.{same_triple, is_face, is_one_of}
use Rattle.faces.proofs.Sets.{triple_same, same_triple_lem}
use Rattle.faces.proofs.Threes.{three_found, three_here}
use Rattle.faces.proofs.Fours.{four_found, four_here}
use Rattle.polygon.specs.Polygon.{vertex}
use Rattle.delaunay_tetrahedra.specs.Tetrahedra.{inside_four, on_four, counts, is_face_of_four, is_fifth, cospherical}
use Rattle.delaunay_triangles.specs.Triangles.{inside_three, on_three, counts_in_plane, is_counted_three, is_fourth, cocircular}
use Rattle.delaunay.specs.Candidates.{is_flat, is_candidate, degenerate}
use Rattle.delaunay.proofs.Flat.{not_flat, flat_plane, plane_flat}
use Rattle.demands.specs.Candidates.{Counts, Face, abc, abd, acd, bcd, CountsInPlane, Candidate, face}
use Rattle.demands.specs.Candidates.{three, Cospherical, Cocircular, Degenerate, by_sphere, by_circle}

-- a statement about a triple holds of the same triple
at : (P : ℕ → ℕ → ℕ → Type 0) {i j k x y z : ℕ} → (i ≡ x) × (j ≡ y) × (k ≡ z) → P i j k → P x y z
at P {i} {j} {k} {x} {y} {z} e f = subst (λ (n : ℕ). P n y z) e.0 (subst (λ (n : ℕ). P i n z) e.1 (subst (λ (n : ℕ). P i j n) e.2 f))

-- ---- four vertices that count, as a test and as a statement
module _ (p : Polygon) (a b c d : ℕ) where
  abbrev flat : Bool
  flat = coplanar (vertex p a) (vertex p b) (vertex p c) (vertex p d)

  abbrev clear : Bool
  clear = every 0 p.n (λ w. not (inside_four p a b c d w))

  counts_true : a < b → b < c → c < d → d < p.n → counts p a b c d ≡ true → Counts p a b c d
  unfolding counts
  counts_true h k l m e = record {
    a<b = h;
    b<c = k;
    c<d = l;
    d<n = m;
    solid = not-true _ (both_left (not flat) clear e);
    empty = λ v q. not-true _ (every_at 0 p.n (λ w. not (inside_four p a b c d w)) (both_right (not flat) clear e) v (omega arith) q);
  }

  true_counts : Counts p a b c d → counts p a b c d ≡ true
  unfolding counts
  true_counts k = both_true (ap not k.solid) (every_all 0 p.n (λ w. not (inside_four p a b c d w)) (λ v l h. ap not (k.empty v h)))

  -- they are not in one plane, so the rim is not flat
  counts_solid : Counts p a b c d → is_flat p ≡ false
  counts_solid k = not_flat p a b c d k.a<b k.b<c k.c<d k.d<n k.solid

  -- a face of theirs
  face_true : Counts p a b c d → (x y z : ℕ) → is_face a b c d x y z ≡ true → Face p x y z
  unfolding is_face
  face_true k x y z f =
      ⊎_elim (λ s. at (Face p) (triple_same {a = a} {b = b} {c = c} {x = x} {y = y} {z = z} s) (abc a b c d k))
      (λ g. ⊎_elim (λ s. at (Face p) (triple_same {a = a} {b = b} {c = d} {x = x} {y = y} {z = z} s) (abd a b c d k))
      (λ h. ⊎_elim (λ s. at (Face p) (triple_same {a = a} {b = c} {c = d} {x = x} {y = y} {z = z} s) (acd a b c d k))
      (λ s. at (Face p) (triple_same {a = b} {b = c} {c = d} {x = x} {y = y} {z = z} s) (bcd a b c d k))
      (either_cases (same_triple a c d x y z) (same_triple b c d x y z) h))
      (either_cases (same_triple a b d x y z) (either (same_triple a c d x y z) (same_triple b c d x y z)) g))
      (either_cases (same_triple a b c x y z) (either (same_triple a b d x y z) (either (same_triple a c d x y z) (same_triple b c d x y z))) f)

  -- the test of a face of theirs finds them
  found : (x y z : ℕ) → Counts p a b c d → is_face a b c d x y z ≡ true → is_candidate p x y z ≡ true
  unfolding is_candidate is_face_of_four
  found x y z k f =
      no (is_counted_three p x y z) (is_face_of_four p x y z) (counts_solid k)
      ∙ four_here p.n (λ a b c d. both (is_face a b c d x y z) (counts p a b c d)) (record {
        a = a;
        b = b;
        c = c;
        d = d;
        a<b = k.a<b;
        b<c = k.b<c;
        c<d = k.c<d;
        d<n = k.d<n;
        holds_of = both_true f (true_counts k);
      })

-- ---- three vertices of a flat rim that count, as a test and as a statement
module _ (p : Polygon) (a b c : ℕ) where
  abbrev line : Bool
  line = collinear (vertex p a) (vertex p b) (vertex p c)

  abbrev clear_in_plane : Bool
  clear_in_plane = every 0 p.n (λ w. not (inside_three p a b c w))

  three_true : is_flat p ≡ true → a < b → b < c → c < p.n → counts_in_plane p a b c ≡ true → CountsInPlane p a b c
  unfolding counts_in_plane
  three_true f h k l e = record {
    flat = flat_plane p f;
    a<b = h;
    b<c = k;
    c<n = l;
    proper = not-true _ (both_left (not line) clear_in_plane e);
    empty = λ v q. not-true _ (every_at 0 p.n (λ w. not (inside_three p a b c w)) (both_right (not line) clear_in_plane e) v (omega arith) q);
  }

  true_three : CountsInPlane p a b c → counts_in_plane p a b c ≡ true
  unfolding counts_in_plane
  true_three k = both_true (ap not k.proper) (every_all 0 p.n (λ w. not (inside_three p a b c w)) (λ v l h. ap not (k.empty v h)))

-- ---- candidates
same : (a b c : ℕ) → same_triple a b c a b c ≡ true
same a b c = same_triple_lem {a = a} {b = b} {c = c} {x = a} {y = b} {z = c} (refl, refl, refl)

module _ (p : Polygon) where
  four_face : (x y z : ℕ) → is_face_of_four p x y z ≡ true → Face p x y z
  unfolding is_face_of_four
  four_face x y z e =
      let f = four_found p.n (λ a b c d. both (is_face a b c d x y z) (counts p a b c d)) e in
      face_true p f.a f.b f.c f.d
      (counts_true p f.a f.b f.c f.d f.a<b f.b<c f.c<d f.d<n
      (both_right (is_face f.a f.b f.c f.d x y z) (counts p f.a f.b f.c f.d) f.holds_of))
      x y z (both_left (is_face f.a f.b f.c f.d x y z) (counts p f.a f.b f.c f.d) f.holds_of)

  counted_three : is_flat p ≡ true → (x y z : ℕ) → is_counted_three p x y z ≡ true → CountsInPlane p x y z
  unfolding is_counted_three
  counted_three h x y z e =
      let f = three_found p.n (λ a b c. both (same_triple a b c x y z) (counts_in_plane p a b c)) e in
      let s = triple_same {a = f.a} {b = f.b} {c = f.c} {x = x} {y = y} {z = z}
      (both_left (same_triple f.a f.b f.c x y z) (counts_in_plane p f.a f.b f.c) f.holds_of) in
      at (CountsInPlane p) s
      (three_true p f.a f.b f.c h f.a<b f.b<c f.c<n
      (both_right (same_triple f.a f.b f.c x y z) (counts_in_plane p f.a f.b f.c) f.holds_of))

  three_counted : (x y z : ℕ) → CountsInPlane p x y z → is_counted_three p x y z ≡ true
  unfolding is_counted_three
  three_counted x y z k = three_here p.n (λ a b c. both (same_triple a b c x y z) (counts_in_plane p a b c)) (record {
    a = x;
    b = y;
    c = z;
    a<b = k.a<b;
    b<c = k.b<c;
    c<n = k.c<n;
    holds_of = both_true (same x y z) (true_three p x y z k);
  })

  pub candidate_true : (x y z : ℕ) → is_candidate p x y z ≡ true → Candidate p x y z
  unfolding is_candidate
  candidate_true x y z e = by (truth (is_flat p))
    where
      by : Truth (is_flat p) → Candidate p x y z
      by (holds f) = three (counted_three f x y z (sym (yes (is_counted_three p x y z) (is_face_of_four p x y z) f) ∙ e))
      by (fails f) = face (four_face x y z (sym (no (is_counted_three p x y z) (is_face_of_four p x y z) f) ∙ e))

  face_found : (x y z : ℕ) → Face p x y z → (x < y) × (y < z) × (z < p.n) × (is_candidate p x y z ≡ true)
  unfolding is_face
  face_found x y z (abc a b c d k) =
      (k.a<b, k.b<c, omega (arith, k.c<d, k.d<n), found p a b c d a b c k (either_left (same_triple a b c a b c) _ (same a b c)))
  face_found x y z (abd a b c d k) = (
    k.a<b,
    omega (arith, k.b<c, k.c<d),
    k.d<n,
    found p a b c d a b d k (either_right (same_triple a b c a b d) _ (either_left (same_triple a b d a b d) _ (same a b d))),
  )
  face_found x y z (acd a b c d k) = (
    omega (arith, k.a<b, k.b<c),
    k.c<d,
    k.d<n,
    found p a b c d a c d k
        (either_right (same_triple a b c a c d) _ (either_right (same_triple a b d a c d) _ (either_left (same_triple a c d a c d) _ (same a c d)))),
  )
  face_found x y z (bcd a b c d k) = (
    k.b<c,
    k.c<d,
    k.d<n,
    found p a b c d b c d k
        (either_right (same_triple a b c b c d) _ (either_right (same_triple a b d b c d) _ (either_right (same_triple a c d b c d) _ (same b c d)))),
  )

  pub true_candidate : (x y z : ℕ) → Candidate p x y z → (x < y) × (y < z) × (z < p.n) × (is_candidate p x y z ≡ true)
  unfolding is_candidate
  true_candidate x y z (face f) = face_found x y z f
  true_candidate x y z (three k) =
      (k.a<b, k.b<c, k.c<n, yes (is_counted_three p x y z) (is_face_of_four p x y z) (plane_flat p k.flat) ∙ three_counted x y z k)

-- ---- 12
-- a vertex that is none of three corners, as a test and as a statement
not_corner : (a b c v : ℕ) → (v ≡ a → ⊥) → (v ≡ b → ⊥) → (v ≡ c → ⊥) → is_one_of a b c v ≡ false
not_corner a b c v ha hb hc = λ i. either (ne_eqb v a ha i) (either (ne_eqb v b hb i) (ne_eqb v c hc i))

corner_not : (a b c v : ℕ) → is_one_of a b c v ≡ false → (v ≡ a → ⊥) × (v ≡ b → ⊥) × (v ≡ c → ⊥)
corner_not a b c v n = (
  λ h. true_not_false (either_left (eqb v a) _ (eq-eqb v a h)) n,
  λ h. true_not_false (either_right (eqb v a) _ (either_left (eqb v b) _ (eq-eqb v b h))) n,
  λ h. true_not_false (either_right (eqb v a) _ (either_right (eqb v b) _ (eq-eqb v c h))) n,
)

module _ (p : Polygon) where
  abbrev has_fifth : ℕ → ℕ → ℕ → ℕ → Bool
  has_fifth a b c d = both (counts p a b c d) (some 0 p.n (is_fifth p a b c d))

  fifth_true : cospherical p ≡ true → Cospherical p
  unfolding cospherical
  fifth_true e =
      let f = four_found p.n has_fifth e in
      let s = some 0 p.n (is_fifth p f.a f.b f.c f.d) in
      let g = some_found 0 p.n (is_fifth p f.a f.b f.c f.d) (both_right (counts p f.a f.b f.c f.d) s f.holds_of) in
      let corner = is_one_of f.a f.b f.c g.at in
      let on = on_four p f.a f.b f.c f.d g.at in
      let n = not-true _ (both_left (not (either corner (eqb g.at f.d))) on g.true_at) in
      let apart = corner_not f.a f.b f.c g.at (not_true_false corner (λ h. true_not_false (either_left corner _ h) n)) in
      record {
        a = f.a;
        b = f.b;
        c = f.c;
        d = f.d;
        four = counts_true p f.a f.b f.c f.d f.a<b f.b<c f.c<d f.d<n (both_left (counts p f.a f.b f.c f.d) s f.holds_of);
        fifth = g.at;
        fifth<n = g.high;
        not_a = apart.0;
        not_b = apart.1;
        not_c = apart.2;
        not_d = λ h. true_not_false (either_right corner _ (eq-eqb g.at f.d h)) n;
        on = both_right (not (either corner (eqb g.at f.d))) on g.true_at;
      }

  true_fifth : Cospherical p → cospherical p ≡ true
  unfolding cospherical
  true_fifth r =
      let apart : either (is_one_of r.a r.b r.c r.fifth) (eqb r.fifth r.d) ≡ false =
      (λ i. either (not_corner r.a r.b r.c r.fifth r.not_a r.not_b r.not_c i) (ne_eqb r.fifth r.d r.not_d i)) in
      four_here p.n has_fifth (record {
        a = r.a;
        b = r.b;
        c = r.c;
        d = r.d;
        a<b = r.four.a<b;
        b<c = r.four.b<c;
        c<d = r.four.c<d;
        d<n = r.four.d<n;
        holds_of = both_true (true_counts p r.a r.b r.c r.d r.four)
            (some_here 0 p.n (is_fifth p r.a r.b r.c r.d) r.fifth (omega arith) r.fifth<n (both_true (ap not apart) r.on));
      })

  abbrev has_fourth : ℕ → ℕ → ℕ → Bool
  has_fourth a b c = both (counts_in_plane p a b c) (some 0 p.n (is_fourth p a b c))

  fourth_true : is_flat p ≡ true → cocircular p ≡ true → Cocircular p
  unfolding cocircular
  fourth_true h e =
      let f = three_found p.n has_fourth e in
      let s = some 0 p.n (is_fourth p f.a f.b f.c) in
      let g = some_found 0 p.n (is_fourth p f.a f.b f.c) (both_right (counts_in_plane p f.a f.b f.c) s f.holds_of) in
      let corner = is_one_of f.a f.b f.c g.at in
      let on = on_three p f.a f.b f.c g.at in
      let apart = corner_not f.a f.b f.c g.at (not-true _ (both_left (not corner) on g.true_at)) in
      record {
        a = f.a;
        b = f.b;
        c = f.c;
        three = three_true p f.a f.b f.c h f.a<b f.b<c f.c<n (both_left (counts_in_plane p f.a f.b f.c) s f.holds_of);
        fourth = g.at;
        fourth<n = g.high;
        not_a = apart.0;
        not_b = apart.1;
        not_c = apart.2;
        on = both_right (not corner) on g.true_at;
      }

  true_fourth : Cocircular p → cocircular p ≡ true
  unfolding cocircular
  true_fourth r = three_here p.n has_fourth (record {
    a = r.a;
    b = r.b;
    c = r.c;
    a<b = r.three.a<b;
    b<c = r.three.b<c;
    c<n = r.three.c<n;
    holds_of = both_true (true_three p r.a r.b r.c r.three) (some_here 0 p.n (is_fourth p r.a r.b r.c) r.fourth
        (omega arith) r.fourth<n (both_true (ap not (not_corner r.a r.b r.c r.fourth r.not_a r.not_b r.not_c)) r.on));
  })

  pub degenerate_true : degenerate p ≡ true → Degenerate p
  unfolding degenerate
  degenerate_true e = by (truth (is_flat p))
    where
      by : Truth (is_flat p) → Degenerate p
      by (holds f) = by_circle (fourth_true f (sym (yes (cocircular p) (cospherical p) f) ∙ e))
      by (fails f) = by_sphere (fifth_true (sym (no (cocircular p) (cospherical p) f) ∙ e))

  pub true_degenerate : Degenerate p → degenerate p ≡ true
  unfolding degenerate
  true_degenerate (by_sphere r) = no (cocircular p) (cospherical p) (counts_solid p r.a r.b r.c r.d r.four) ∙ true_fifth r
  true_degenerate (by_circle r) = yes (cocircular p) (cospherical p) (plane_flat p r.three.flat) ∙ true_fourth r
