-- Three corners and four, as the search computes them: their pencil and their sphere, and what a vertex's position says of the fours. Assumes nothing.
use mathlib.Core.Path.{◌≡◌, sym, ◌∙◌, ap}
use mathlib.Core.Bool.{true, false}
use mathlib.Core.List.{List}
use Prim.Native.Nat.{ℕ, ◌<◌}
use lib.IntN.{pos}
use lib.ListN.{get_or}
use Rattle.polygon.specs.declared.Polygon.{Polygon}
use Rattle.polygon.specs.Polygon.{ValidPolygon, vertex}
use Rattle.geometry.specs.declared.sphere.Lifted.{Lifted}
use Rattle.geometry.specs.declared.sphere.Pencil.{Pencil}
use Rattle.geometry.specs.declared.sphere.Sphere.{Sphere}
use Rattle.geometry.specs.declared.sphere.Position.{Position}
use Rattle.geometry.specs.declared.sphere.Position.TheVariants.{Inside}
use Rattle.integers.specs.Order.{equal}
use Rattle.geometry.specs.Spheres.{coplanar}
use Rattle.geometry.specs.Lifting.{position_of, lift_of, pencil_of, sphere_of, position_by}
use Rattle.geometry.specs.Facets.{separates_by, refuted_by}
use Rattle.geometry.proofs.Spheres.{computed_sphere, coplanar_is, position_is}
use Rattle.geometry.proofs.Facets.{separates_is, refuted_is}
use Rattle.delaunay_tetrahedra.specs.Tetrahedra.{inside_four, on_four, counts}
use Rattle.delaunay_search.specs.Search.{Lifts, unlifted}
use Rattle.delaunay_search.proofs.Placing.{Placed, placed}
use Rattle.delaunay_tetrahedra.proofs.Counting.{not_counts_inside, not_counts_between}

-- the triangle (a, b, c), as seen from a
pub record Three (p : Polygon) (a b c : ℕ) (lifted : List Lifted) (pencil : Pencil) : Type 0 where
  pub valid : ValidPolygon p
  pub a<n : a < p.n
  pub b<n : b < p.n
  pub c<n : c < p.n
  pub lifts : Lifts p a lifted
  pub spans : pencil ≡ pencil_of (get_or lifted b unlifted) (get_or lifted c unlifted)

module _ {p : Polygon} {a b c : ℕ} {lifted : List Lifted} {pencil : Pencil} (t : Three p a b c lifted pencil) where
  pencil_of_lem : pencil ≡ pencil_of (lift_of (vertex p a) (vertex p b)) (lift_of (vertex p a) (vertex p c))
  pencil_of_lem = t.spans ∙ (λ i. pencil_of (t.lifts.at b t.b<n i) (t.lifts.at c t.c<n i))

  -- two vertices that refute it: no four of the three counts
  pub none_counts : (s w : ℕ) → s < p.n → w < p.n → refuted_by pencil (get_or lifted s unlifted) (get_or lifted w unlifted) ≡ true →
      (d : ℕ) → counts p a b c d ≡ false
  none_counts s w hs hw e d =
      let r = refuted_is (vertex p a) (vertex p b) (vertex p c) (vertex p s) (vertex p w)
      (sym (λ i. refuted_by (pencil_of_lem i) (t.lifts.at s hs i) (t.lifts.at w hw i)) ∙ e) in
      not_counts_between p a b c d s w hs hw r.0 r.1

  -- the sphere through a fourth corner
  module _ (d : ℕ) (d<n : d < p.n) {ball : Sphere} (es : ball ≡ sphere_of pencil (get_or lifted d unlifted)) where
    sphere_of_lem : ball ≡ computed_sphere (vertex p a) (vertex p b) (vertex p c) (vertex p d)
    sphere_of_lem = es ∙ (λ i. sphere_of (pencil_of_lem i) (t.lifts.at d d<n i))

    pub flat_is : equal ball.orient (pos 0) ≡ coplanar (vertex p a) (vertex p b) (vertex p c) (vertex p d)
    flat_is = ap (λ (s : Sphere). equal s.orient (pos 0)) sphere_of_lem ∙ coplanar_is (vertex p a) (vertex p b) (vertex p c) (vertex p d)

    -- where a vertex lies
    module _ (solid : coplanar (vertex p a) (vertex p b) (vertex p c) (vertex p d) ≡ false) (v : ℕ) (v<n : v < p.n)
        {place : Position} (ep : place ≡ position_by ball (get_or lifted v unlifted)) where
      pub place_is : Placed place (inside_four p a b c d v) (on_four p a b c d v)
      unfolding position_of
      place_is =
          placed place _ _ (ep ∙ (λ i. position_by (sphere_of_lem i) (t.lifts.at v v<n i))
          ∙ position_is (vertex p a) (vertex p b) (vertex p c) (vertex p d) (vertex p v) solid)

      -- inside: the four does not count
      pub drops : place ≡ Inside → counts p a b c d ≡ false
      drops e = not_counts_inside p a b c d v v<n (place_is.when_inside e)

      -- inside, and on the other side of the triangle: no four of the three counts
      pub leaves : place ≡ Inside → separates_by pencil (get_or lifted d unlifted) (get_or lifted v unlifted) ≡ true → (x : ℕ) → counts p a b c x ≡ false
      leaves e f x =
          not_counts_between p a b c x d v d<n v<n
          (sym (separates_is (vertex p a) (vertex p b) (vertex p c) (vertex p d) (vertex p v))
          ∙ sym (λ i. separates_by (pencil_of_lem i) (t.lifts.at d d<n i) (t.lifts.at v v<n i)) ∙ f)
          (place_is.when_inside e)
