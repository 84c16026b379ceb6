-- A triangle that is not locally Delaunay between two points is a face of no empty sphere. Assumes nothing.
use mathlib.Core.Path.{◌≡◌, refl, sym, ◌∙◌, ap}
use mathlib.Core.List.{List, [], ◌∷◌}
use mathlib.Core.Bool.{Bool, true, false, cond}
use mathlib.Core.Logic.{◌⊎◌, inl, inr}
use lib.IntN.{ℤ, pos, ◌+ℤ◌, ◌-ℤ◌, ◌*ℤ◌, +ℤ_idr, zero-*ℤ}
use lib.Signed.{lt_z}
use Rattle.grid.specs.declared.GridPoint.{GridPoint}
use Rattle.geometry.specs.declared.Vector.{Vector}
use Rattle.geometry.specs.declared.sphere.Position.{Position}
use Rattle.geometry.specs.declared.sphere.Position.TheVariants.{Inside, On, Outside}
use Rattle.integers.proofs.Laws.{mul_assoc}
use Rattle.integers.proofs.Order.{equal_no, equal_is, less_by_multiple, true≢false}
use Rattle.integers.proofs.Ring.{E, var, con, ◌:+◌, ◌:-◌, ◌:*◌, ring}
use Rattle.geometry.specs.Vectors.{difference_of, dot_of, cross_of, square_of, scaled_by, plus, minus}
use Rattle.geometry.specs.Spheres.{orient_of, coplanar, centre_of, distance_of, strictly_inside, on_sphere}
use Rattle.geometry.specs.Lifting.{position_of, position_by, lift_of, pencil_of, sphere_of}
use denote.Enum.Bare.{sameb}
use Rattle.geometry.specs.contracts.sphere.Position.{the_type}
use Rattle.geometry.specs.Facets.{opposed, separates, separates_by, is_inside, refuted_by}
use Rattle.geometry.proofs.Terms.{VectorE, vec, dot_e, cross_e, scaled_e, plus_e, minus_e, orient_e, of_vectors}
use Rattle.geometry.proofs.Signs.{opposed_is, opposed_first, one_negative}
use Rattle.geometry.proofs.Centres.{distances_power}
use Rattle.geometry.proofs.Spheres.{triple_product, pencil_centre, position_is}

-- ---- three powers over one pencil

-- of the sphere of the pencil through s, at w; l and m are the squares of the two
abbrev power : Vector → Vector → Vector → ℤ → Vector → ℤ → ℤ
power n k s l w m = dot_of n s *ℤ m -ℤ dot_of (plus (cross_of k s) (scaled_by l n)) w

module _ (n k s w t : Vector) (l m o : ℤ) where
  abbrev power_e : VectorE → E → VectorE → E → E
  power_e s l w m = dot_e (vec 0) s :* m :- dot_e (plus_e (cross_e (vec 3) s) (scaled_e l (vec 0))) w

  abbrev values : List ℤ
  values = n.x ∷ n.y ∷ n.z ∷ k.x ∷ k.y ∷ k.z ∷ s.x ∷ s.y ∷ s.z ∷ w.x ∷ w.y ∷ w.z ∷ t.x ∷ t.y ∷ t.z ∷ l ∷ m ∷ o ∷ []

  three_powers :
      dot_of n s *ℤ power n k t o w m
      ≡ dot_of n t *ℤ power n k s l w m +ℤ dot_of n w *ℤ power n k t o s l -ℤ dot_of n k *ℤ dot_of s (cross_of t w)
  three_powers =
      ring values
      (dot_e (vec 0) (vec 6) :* power_e (vec 12) (var 17) (vec 9) (var 16))
      (dot_e (vec 0) (vec 12) :* power_e (vec 6) (var 15) (vec 9) (var 16) :+ dot_e (vec 0) (vec 9) :* power_e (vec 12) (var 17) (vec 6) (var 15)
      :- dot_e (vec 0) (vec 3) :* orient_e (vec 6) (vec 12) (vec 9)) tt

-- ---- the pencil of a triangle

module _ (u v : Vector) where
  abbrev weighted : Vector
  weighted = minus (scaled_by (square_of u) v) (scaled_by (square_of v) u)

  -- it lies in the plane of u and v
  right_angle : dot_of (cross_of u v) weighted ≡ pos 0
  right_angle =
      ring (of_vectors u v v)
      (dot_e (cross_e (vec 0) (vec 3)) (minus_e (scaled_e (dot_e (vec 0) (vec 0)) (vec 3)) (scaled_e (dot_e (vec 3) (vec 3)) (vec 0)))) (con (pos 0)) tt

module _ (p q r : GridPoint) where
  -- orientation times power: negative strictly inside
  abbrev power_at : GridPoint → GridPoint → ℤ
  power_at s w = orient_of p q r s *ℤ square_of (difference_of w p) -ℤ dot_of (centre_of p q r s) (difference_of w p)

  inside_is : (s w : GridPoint) → strictly_inside p q r s w ≡ lt_z (orient_of p q r s *ℤ power_at s w) (pos 0)
  unfolding distance_of
  inside_is s w =
      let o = orient_of p q r s in
      less_by_multiple 3 (distance_of p q r s w) (distance_of p q r s p) (o *ℤ power_at s w)
      (distances_power o (centre_of p q r s) (difference_of w p) p ∙ mul_assoc (pos 4) o (power_at s w))

  orient_is : (s : GridPoint) → dot_of (cross_of (difference_of q p) (difference_of r p)) (difference_of s p) ≡ orient_of p q r s
  unfolding orient_of
  orient_is s = triple_product (difference_of q p) (difference_of r p) (difference_of s p)

  power_is : (s w : GridPoint) → power (cross_of (difference_of q p) (difference_of r p)) (weighted (difference_of q p) (difference_of r p))
      (difference_of s p) (square_of (difference_of s p)) (difference_of w p) (square_of (difference_of w p)) ≡ power_at s w
  unfolding centre_of
  power_is s w =
      λ i. orient_is s i *ℤ square_of (difference_of w p)
      -ℤ dot_of (pencil_centre (difference_of q p) (difference_of r p) (difference_of s p) i) (difference_of w p)

  -- the law of three spheres of one pencil
  pencil_powers : (s w t : GridPoint) → orient_of p q r s *ℤ power_at t w ≡ orient_of p q r t *ℤ power_at s w +ℤ orient_of p q r w *ℤ power_at t s
  pencil_powers s w t =
      let u = difference_of q p in
      let v = difference_of r p in
      let S = difference_of s p in
      let W = difference_of w p in
      let T = difference_of t p in
      let d = dot_of S (cross_of T W) in
      sym (λ i. orient_is s i *ℤ power_is t w i)
      ∙ three_powers (cross_of u v) (weighted u v) S W T (square_of S) (square_of W) (square_of T)
      ∙ (λ i. orient_is t i *ℤ power_is s w i +ℤ orient_is w i *ℤ power_is t s i -ℤ right_angle u v i *ℤ d)
      ∙ ap (λ (z : ℤ). orient_of p q r t *ℤ power_at s w +ℤ orient_of p q r w *ℤ power_at t s -ℤ z) (zero-*ℤ d)
      ∙ +ℤ_idr (orient_of p q r t *ℤ power_at s w +ℤ orient_of p q r w *ℤ power_at t s)

  -- the plane separates w from s, and w is strictly inside the sphere through s, so the triangle is not locally Delaunay: of every sphere through its
  -- corners and one more point, s or w is strictly inside
  pub no_empty_sphere : (s w : GridPoint) → separates p q r s w ≡ true → strictly_inside p q r s w ≡ true → (t : GridPoint) → coplanar p q r t ≡ false →
      (strictly_inside p q r t s ≡ true) ⊎ (strictly_inside p q r t w ≡ true)
  no_empty_sphere s w h e t f = go (strictly_inside p q r t s) refl
    where
      go : (b : Bool) → strictly_inside p q r t s ≡ b → (strictly_inside p q r t s ≡ true) ⊎ (strictly_inside p q r t w ≡ true)
      go true g = inl g
      go false g =
          inr
          (inside_is t w
          ∙ one_negative (orient_of p q r s) (orient_of p q r w) (orient_of p q r t) (power_at s w) (power_at t s) (power_at t w) (pencil_powers s w t)
          (opposed_is (orient_of p q r s) (orient_of p q r w) h) (λ z. true≢false (sym (equal_is z) ∙ f)) (sym (inside_is s w) ∙ e) (sym (inside_is t s) ∙ g))

-- ---- what the code computes

module _ (p q r s w : GridPoint) where
  pub separates_is : separates_by (pencil_of (lift_of p q) (lift_of p r)) (lift_of p s) (lift_of p w) ≡ separates p q r s w
  separates_is = λ i. opposed (orient_is p q r s i) (orient_is p q r w i)

  pub separates_solid : separates p q r s w ≡ true → coplanar p q r s ≡ false
  separates_solid h = equal_no (orient_of p q r s) (pos 0) (opposed_first (opposed_is (orient_of p q r s) (orient_of p q r w) h))

  told_inside : is_inside (position_of p q r s w) ≡ strictly_inside p q r s w
  unfolding position_of
  told_inside = go (strictly_inside p q r s w) (on_sphere p q r s w)
    where
      go : (i o : Bool) → is_inside (cond i Inside (cond o On Outside)) ≡ i
      go true o = refl
      go false true = refl
      go false false = refl

  pub refuted_is : refuted_by (pencil_of (lift_of p q) (lift_of p r)) (lift_of p s) (lift_of p w) ≡ true →
      (separates p q r s w ≡ true) × (strictly_inside p q r s w ≡ true)
  refuted_is e =
      go (separates p q r s w) refl
      (sym (ap (λ (t : Bool). cond t (is_inside (position_by (sphere_of (pencil_of (lift_of p q) (lift_of p r)) (lift_of p s)) (lift_of p w))) false)
      separates_is) ∙ e)
    where
      go : (t : Bool) → separates p q r s w ≡ t →
          cond t (is_inside (position_by (sphere_of (pencil_of (lift_of p q) (lift_of p r)) (lift_of p s)) (lift_of p w))) false ≡ true →
          (separates p q r s w ≡ true) × (strictly_inside p q r s w ≡ true)
      go true h e = (h, sym told_inside ∙ sym (ap is_inside (position_is p q r s w (separates_solid h))) ∙ e)
      go false h e = true≢false (sym e)

pub is_inside_same : (place : Position) → sameb the_type place Inside ≡ is_inside place
is_inside_same Inside = refl
is_inside_same On = refl
is_inside_same Outside = refl
