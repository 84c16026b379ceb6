-- The candidates of a valid polygon are triples of its vertices in ascending order, and none has its corners on one line. Assumes nothing.
use mathlib.Core.Path.{◌≡◌, sym, ◌∙◌, ap, subst}
use mathlib.Core.Bool.{Bool, true, false, not}
use mathlib.Core.List.{List, [], Memᴰ}
use mathlib.Core.Logic.{⊎_elim}
use Prim.Native.Nat.{ℕ, ◌+◌, ◌≤◌, ◌<◌}
use native.Mathlib.Omega.{arith}
use lib.ListN.{length}
use borrow.Author.Tests.{not-true}
use Rattle.polygon.specs.declared.Polygon.{Polygon}
use Rattle.polygon.specs.Polygon.{ValidPolygon, vertex}
use Rattle.geometry.specs.Faces.{normal_of, length_of}
use Rattle.geometry.specs.Spheres.{coplanar}
use Rattle.geometry.proofs.Lengths.{length_above_0}
use Rattle.geometry.proofs.Faces.{normal_within, face_length_pqr, face_length_pqs, face_length_prs, face_length_qrs}
use Rattle.planar.specs.Circles.{collinear}
use Rattle.integers.proofs.Order.{equal_is}
use Rattle.terms.specs.Entries.{triple, entry_at, vertex_a, vertex_b, vertex_c}
use Rattle.jobs.proofs.Order.{Before, by_a, by_b, by_c}
use Rattle.lists.specs.Lists.{both, either, every, over, when}
use Rattle.lists.proofs.Choice.{Truth, truth, holds, fails, yes, no, true_not_false, both_left, both_right, either_cases}
use Rattle.lists.proofs.Members.{Ascending, over_member, when_member, over_ascending, when_ascending, ascending_at, entry_member}
use Rattle.faces.specs.Faces.{same_triple, is_face, triples_of}
use Rattle.faces.proofs.Sets.{triples_bound, triple_same}
use Rattle.faces.proofs.Threes.{three_found}
use Rattle.faces.proofs.Fours.{four_found}
use Rattle.faces.proofs.Members.{Triple, triples_member}
use Rattle.hinges.specs.Hinges.{Sorted}
use Rattle.dihedrals.specs.Dihedrals.{face_normal}
use Rattle.dihedrals.specs.Lists.{ProperCandidates}
use Rattle.delaunay_tetrahedra.specs.Tetrahedra.{inside_four, counts, is_face_of_four}
use Rattle.delaunay_triangles.specs.Triangles.{inside_three, counts_in_plane, is_counted_three}
use Rattle.delaunay.specs.Candidates.{is_flat, is_candidate, candidates_of}

-- ---- a list of triples ascends
module _ (n : ℕ) (P : ℕ → ℕ → ℕ → Bool) where
  pub triples_ascend : Ascending Before (triples_of n P)
  triples_ascend =
      over_ascending 0 n _
      (λ a. over_ascending (a + 1) n _
      (λ b. over_ascending (b + 1) n _
      (λ c. when_ascending (P a b c) (triple a b c))
      (λ c d x y h mx my. third a b c d x y h (when_member (P a b c) (triple a b c) x mx).1 (when_member (P a b d) (triple a b d) y my).1))
      (λ b d x y h mx my. second a b d x y h (in_second a b x mx) (in_second a d y my)))
      (λ a d x y h mx my. first a d x y h (in_first a x mx) (in_first d y my))
    where
      in_second : (a b : ℕ) (x : List ℕ) → Memᴰ x (over (b + 1) n (λ c. when (P a b c) (triple a b c))) → (vertex_a x ≡ a) × (vertex_b x ≡ b)
      in_second a b x m =
          let w = over_member (b + 1) n (λ c. when (P a b c) (triple a b c)) x m in
          let e = (when_member (P a b w.at) (triple a b w.at) x w.member).1 in
          (ap vertex_a e, ap vertex_b e)

      in_first : (a : ℕ) (x : List ℕ) → Memᴰ x (over (a + 1) n (λ b. over (b + 1) n (λ c. when (P a b c) (triple a b c)))) → vertex_a x ≡ a
      in_first a x m =
          let w = over_member (a + 1) n (λ b. over (b + 1) n (λ c. when (P a b c) (triple a b c))) x m in
          let v = over_member (w.at + 1) n (λ c. when (P a w.at c) (triple a w.at c)) x w.member in
          ap vertex_a (when_member (P a w.at v.at) (triple a w.at v.at) x v.member).1

      third : (a b c d : ℕ) (x y : List ℕ) → c < d → x ≡ triple a b c → y ≡ triple a b d → Before x y
      third a b c d x y h ex ey = by_c (ap vertex_a ex ∙ sym (ap vertex_a ey)) (ap vertex_b ex ∙ sym (ap vertex_b ey))
          (omega (arith, ap vertex_c ex, ap vertex_c ey))

      second : (a b d : ℕ) (x y : List ℕ) → b < d → (vertex_a x ≡ a) × (vertex_b x ≡ b) → (vertex_a y ≡ a) × (vertex_b y ≡ d) → Before x y
      second a b d x y h ex ey = by_b (ex.0 ∙ sym ey.0) (omega (arith, ex.1, ey.1))

      first : (a d : ℕ) (x y : List ℕ) → a < d → vertex_a x ≡ a → vertex_a y ≡ d → Before x y
      first a d x y h ex ey = by_a (omega (arith, ex, ey))

before_first : {s t : List ℕ} → Before s t → vertex_a s ≤ vertex_a t
before_first (by_a h) = omega arith
before_first (by_b e h) = omega arith
before_first (by_c e d h) = omega arith

module _ (p : Polygon) (v : ValidPolygon p) where
  pub candidate_at_lem : (i : ℕ) → i < length (candidates_of p) → Triple p.n (is_candidate p) (entry_at (candidates_of p) i)
  candidate_at_lem i h = triples_member p.n (is_candidate p) (entry_at (candidates_of p) i) (entry_member (candidates_of p) [] i h)

  pub candidates_sorted : Sorted (candidates_of p)
  candidates_sorted = record {
    few = triples_bound p.n (is_candidate p) v.most;
    a<b = λ i h. let t = candidate_at_lem i h in omega (arith, ap vertex_a t.is, ap vertex_b t.is, t.a<b);
    b<c = λ i h. let t = candidate_at_lem i h in omega (arith, ap vertex_b t.is, ap vertex_c t.is, t.b<c);
    c<limit = λ i h. let t = candidate_at_lem i h in omega (arith, ap vertex_c t.is, t.c<n, v.most);
    by_first = record { up = λ i j h k. before_first (ascending_at [] (triples_ascend p.n (is_candidate p)) i j h k) };
  }

  -- ---- a candidate's normal is not 0
  abbrev HasLength : ℕ → ℕ → ℕ → Type 0
  HasLength x y z = 0 < length_of (normal_of (vertex p x) (vertex p y) (vertex p z))

  same_face : (i j k x y z : ℕ) → same_triple i j k x y z ≡ true → HasLength i j k → HasLength x y z
  same_face i j k x y z s h =
      let t = triple_same {a = i} {b = j} {c = k} {x = x} {y = y} {z = z} s in
      subst (λ (l : ℕ). 0 < l) (λ m. length_of (normal_of (vertex p (t.0 m)) (vertex p (t.1 m)) (vertex p (t.2 m)))) h

  module _ (a b c d : ℕ) (ha : a < p.n) (hb : b < p.n) (hc : c < p.n) (hd : d < p.n) (e : counts p a b c d ≡ true) where
    solid_four : coplanar (vertex p a) (vertex p b) (vertex p c) (vertex p d) ≡ false
    unfolding counts
    solid_four =
        not-true _
        (both_left (not (coplanar (vertex p a) (vertex p b) (vertex p c) (vertex p d))) (every 0 p.n (λ w. not (inside_four p a b c d w))) e)

    face_length : (x y z : ℕ) → is_face a b c d x y z ≡ true → HasLength x y z
    unfolding is_face
    face_length x y z f =
        let ga = v.on_grid a ha in
        let gb = v.on_grid b hb in
        let gc = v.on_grid c hc in
        let gd = v.on_grid d hd in
        ⊎_elim (λ s. same_face a b c x y z s (face_length_pqr (vertex p a) (vertex p b) (vertex p c) (vertex p d) ga gb gc gd solid_four))
        (λ g. ⊎_elim (λ s. same_face a b d x y z s (face_length_pqs (vertex p a) (vertex p b) (vertex p c) (vertex p d) ga gb gc gd solid_four))
        (λ h. ⊎_elim (λ s. same_face a c d x y z s (face_length_prs (vertex p a) (vertex p b) (vertex p c) (vertex p d) ga gb gc gd solid_four))
        (λ s. same_face b c d x y z s (face_length_qrs (vertex p a) (vertex p b) (vertex p c) (vertex p d) ga gb gc gd solid_four))
        (either_cases (same_triple a c d x y z) (same_triple b c d x y z) h))
        (either_cases (same_triple a b d x y z) (either (same_triple a c d x y z) (same_triple b c d x y z)) g))
        (either_cases (same_triple a b c x y z) (either (same_triple a b d x y z) (either (same_triple a c d x y z) (same_triple b c d x y z))) f)

  face_of_four_length : (x y z : ℕ) → is_face_of_four p x y z ≡ true → HasLength x y z
  unfolding is_face_of_four
  face_of_four_length x y z e =
      let f = four_found p.n (λ a b c d. both (is_face a b c d x y z) (counts p a b c d)) e in
      face_length f.a f.b f.c f.d (omega (arith, f.a<b, f.b<c, f.c<d, f.d<n))
      (omega (arith, f.b<c, f.c<d, f.d<n)) (omega (arith, f.c<d, f.d<n)) f.d<n
      (both_right (is_face f.a f.b f.c f.d x y z) (counts p f.a f.b f.c f.d) f.holds_of)
      x y z (both_left (is_face f.a f.b f.c f.d x y z) (counts p f.a f.b f.c f.d) f.holds_of)

  three_length : (x y z : ℕ) → x < p.n → y < p.n → z < p.n → counts_in_plane p x y z ≡ true → HasLength x y z
  unfolding counts_in_plane
  three_length x y z hx hy hz e =
      let line = collinear (vertex p x) (vertex p y) (vertex p z) in
      length_above_0 (normal_within (v.on_grid x hx) (v.on_grid y hy) (v.on_grid z hz))
      (λ h. true_not_false (equal_is h) (not-true line (both_left (not line) (every 0 p.n (λ w. not (inside_three p x y z w))) e)))

  counted_three_length : (x y z : ℕ) → is_counted_three p x y z ≡ true → HasLength x y z
  unfolding is_counted_three
  counted_three_length x y z e =
      let f = three_found p.n (λ a b c. both (same_triple a b c x y z) (counts_in_plane p a b c)) e in
      same_face f.a f.b f.c x y z (both_left (same_triple f.a f.b f.c x y z) (counts_in_plane p f.a f.b f.c) f.holds_of)
      (three_length f.a f.b f.c (omega (arith, f.a<b, f.b<c, f.c<n)) (omega (arith, f.b<c, f.c<n)) f.c<n
      (both_right (same_triple f.a f.b f.c x y z) (counts_in_plane p f.a f.b f.c) f.holds_of))

  pub candidate_length : (x y z : ℕ) → is_candidate p x y z ≡ true → HasLength x y z
  unfolding is_candidate
  candidate_length x y z e = by (truth (is_flat p))
    where
      by : Truth (is_flat p) → HasLength x y z
      by (holds f) = counted_three_length x y z (sym (yes (is_counted_three p x y z) (is_face_of_four p x y z) f) ∙ e)
      by (fails f) = face_of_four_length x y z (sym (no (is_counted_three p x y z) (is_face_of_four p x y z) f) ∙ e)

  pub candidates_proper : ProperCandidates p (candidates_of p)
  candidates_proper = record {
    valid = v;
    sorted = candidates_sorted;
    corners = λ i h. let t = candidate_at_lem i h in record {
      a<n = omega (arith, ap vertex_a t.is, t.a<b, t.b<c, t.c<n);
      b<n = omega (arith, ap vertex_b t.is, t.b<c, t.c<n);
      c<n = omega (arith, ap vertex_c t.is, t.c<n);
    };
    normals = λ i h. let t = candidate_at_lem i h in
        subst (λ (s : List ℕ). 0 < length_of (face_normal p s)) (sym t.is) (candidate_length t.a t.b t.c t.holds_of);
  }
