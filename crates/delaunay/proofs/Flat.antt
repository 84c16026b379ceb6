-- A polygon is flat exactly when some plane holds its vertices, and what the test of the code finds. Assumes nothing.
use mathlib.Core.Path.{◌≡◌, sym, ◌∙◌, ap, subst}
use mathlib.Core.Bool.{Bool, true, false, not}
use mathlib.Core.List.{List}
use mathlib.Core.Logic.{⊎_elim}
use Prim.Native.Nat.{ℕ, ◌+◌, ◌-◌, ◌≤◌, ◌<◌}
use native.Mathlib.Omega.{arith}
use lib.IntN.{pos}
use lib.ListN.{length, get_or, take, drop}
use Rattle.std.proofs.lemmas.List.{get_or-take, get_or-drop, length-take-le, length-drop}
use borrow.Author.Tests.{not-true}
use Rattle.polygon.specs.declared.Polygon.{Polygon}
use Rattle.polygon.specs.Polygon.{ValidPolygon, vertex}
use Rattle.geometry.specs.declared.sphere.Lifted.{Lifted}
use Rattle.geometry.specs.declared.sphere.Pencil.{Pencil}
use Rattle.integers.specs.Order.{equal}
use Rattle.geometry.specs.Spheres.{coplanar}
use Rattle.geometry.specs.Lifting.{pencil_of, sphere_of}
use Rattle.geometry.proofs.Spheres.{coplanar_is}
use Rattle.planar.specs.Planes.{InOnePlane}
use Rattle.planar.proofs.Planes.{fours_plane, plane_fours, pairs_plane}
use Rattle.lists.proofs.Choice.{true_not_false, not_true_false, not_false_true, below_or_same}
use Rattle.faces.proofs.Fours.{four_found, four_here}
use Rattle.delaunay.specs.Candidates.{is_flat}
use Rattle.delaunay_search.specs.Search.{Lifts, unlifted}

module _ (p : Polygon) where
  abbrev solid : ℕ → ℕ → ℕ → ℕ → Bool
  solid a b c d = not (coplanar (vertex p a) (vertex p b) (vertex p c) (vertex p d))

  -- a four that is not in one plane
  pub not_flat : (a b c d : ℕ) → a < b → b < c → c < d → d < p.n → coplanar (vertex p a) (vertex p b) (vertex p c) (vertex p d) ≡ false → is_flat p ≡ false
  unfolding is_flat
  not_flat a b c d h k l m e = ap not (four_here p.n solid (record { a = a; b = b; c = c; d = d; a<b = h; b<c = k; c<d = l; d<n = m; holds_of = ap not e }))

  pub plane_flat : InOnePlane (vertex p) p.n → is_flat p ≡ true
  unfolding is_flat
  plane_flat h = ap not (not_true_false _ (λ e.
      let f = four_found p.n solid e in
      true_not_false ((plane_fours (vertex p) p.n h).four f.a f.b f.c f.d f.a<b f.b<c f.c<d f.d<n) (not-true _ f.holds_of)))

  pub flat_plane : is_flat p ≡ true → InOnePlane (vertex p) p.n
  flat_plane h = fours_plane (vertex p) p.n (record { four = λ a b c d i j k l. not_false_true _ (λ e. true_not_false h (not_flat a b c d i j k l e)) })

-- ---- the test of the code

-- vertices 0, 1, k and l are in one plane, as computed
abbrev pub coplanar_pair : List Lifted → ℕ → ℕ → Bool
coplanar_pair lifted k l = equal (sphere_of (pencil_of (get_or lifted 1 unlifted) (get_or lifted k unlifted)) (get_or lifted l unlifted)).orient (pos 0)

-- with each k before c, and each l after it
pub record CoplanarTo (n : ℕ) (lifted : List Lifted) (c : ℕ) : Type 0 where
  pub pairs : (k l : ℕ) → 1 < k → k < c → k < l → l < n → coplanar_pair lifted k l ≡ true

-- those of a list, by the pencil of one vertex; each before i
abbrev pub coplanar_at : Pencil → List Lifted → ℕ → Bool
coplanar_at pencil seen i = equal (sphere_of pencil (get_or seen i unlifted)).orient (pos 0)

pub record CoplanarWith (pencil : Pencil) (seen : List Lifted) (i : ℕ) : Type 0 where
  pub at : (k : ℕ) → k < i → coplanar_at pencil seen k ≡ true

pub coplanar_with_on : {pencil : Pencil} {seen : List Lifted} {i : ℕ} → coplanar_at pencil seen i ≡ true → CoplanarWith pencil seen i →
    CoplanarWith pencil seen (i + 1)
coplanar_with_on {pencil} {seen} {i} e h = record {
  at = λ k m. ⊎_elim (λ l. h.at k l) (λ l. subst (λ (k : ℕ). coplanar_at pencil seen k ≡ true) (sym l) e) (below_or_same k i (omega arith));
}

-- those after vertex c
abbrev pub after : ℕ → ℕ → List Lifted → List Lifted
after n c lifted = take (n - (c + 1)) (drop (c + 1) lifted)

pub after_at : (n c : ℕ) (lifted : List Lifted) (k : ℕ) → c + 1 + k < n → get_or (after n c lifted) k unlifted ≡ get_or lifted (c + 1 + k) unlifted
after_at n c lifted k h = get_or-take (n - (c + 1)) (drop (c + 1) lifted) k unlifted (omega arith) ∙ get_or-drop (c + 1) lifted k unlifted

pub after_long : (n c : ℕ) (lifted : List Lifted) → n ≤ length lifted → length (after n c lifted) ≡ n - (c + 1)
after_long n c lifted h = length-take-le (n - (c + 1)) (drop (c + 1) lifted) (omega (arith, length-drop (c + 1) lifted))

pub pair_after : (n c : ℕ) (lifted : List Lifted) {pencil : Pencil} → pencil ≡ pencil_of (get_or lifted 1 unlifted) (get_or lifted c unlifted) →
    (k : ℕ) → c + 1 + k < n → coplanar_at pencil (after n c lifted) k ≡ coplanar_pair lifted c (c + 1 + k)
pair_after n c lifted e k h = λ i. equal (sphere_of (e i) (after_at n c lifted k h i)).orient (pos 0)

pub coplanar_on : {n : ℕ} {lifted : List Lifted} {c i : ℕ} {pencil : Pencil} {seen : List Lifted} →
    ((k : ℕ) → c + 1 + k < n → coplanar_at pencil seen k ≡ coplanar_pair lifted c (c + 1 + k)) → n ≤ c + 1 + i → CoplanarWith pencil seen i →
    CoplanarTo n lifted c → CoplanarTo n lifted (c + 1)
coplanar_on {n} {lifted} {c} {i} {pencil} {seen} e f w h = record {
  pairs = λ k l m j a b. ⊎_elim (λ s. h.pairs k l m s a b)
      (λ s. subst (λ (k : ℕ). coplanar_pair lifted k l ≡ true) (sym s) (here l (omega arith) b)) (below_or_same k c (omega arith));
}
  where
    here : (l : ℕ) → c < l → l < n → coplanar_pair lifted c l ≡ true
    here l a b =
        let z : c + 1 + (l - (c + 1)) ≡ l = omega arith in
        subst (λ (l : ℕ). coplanar_pair lifted c l ≡ true) z (sym (e (l - (c + 1)) (omega arith)) ∙ w.at (l - (c + 1)) (omega arith))

module _ {p : Polygon} {lifted : List Lifted} (v : ValidPolygon p) (t : Lifts p 0 lifted) where
  pair_is : (k l : ℕ) → k < p.n → l < p.n → coplanar_pair lifted k l ≡ coplanar (vertex p 0) (vertex p 1) (vertex p k) (vertex p l)
  pair_is k l hk hl =
      (λ i. equal (sphere_of (pencil_of (t.at 1 (omega (arith, v.least)) i) (t.at k hk i)) (t.at l hl i)).orient (pos 0))
      ∙ coplanar_is (vertex p 0) (vertex p 1) (vertex p k) (vertex p l)

  -- a pair that is not
  pub found_solid : (k l : ℕ) → 1 < k → k < l → l < p.n → coplanar_pair lifted k l ≡ false → is_flat p ≡ false
  found_solid k l h i j e = not_flat p 0 1 k l (omega arith) h i j (sym (pair_is k l (omega arith) j) ∙ e)

  -- every pair is
  pub all_coplanar : (c : ℕ) → (c < p.n → ⊥) → CoplanarTo p.n lifted c → is_flat p ≡ true
  all_coplanar c f h =
      plane_flat p (pairs_plane (vertex p) p.n (v.distinct 0 1 (omega arith) (omega (arith, v.least)))
      (λ k l i j m. sym (pair_is k l (omega arith) m) ∙ h.pairs k l i (omega arith) j m))
