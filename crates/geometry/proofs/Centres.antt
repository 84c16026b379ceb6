-- The sphere of the definitions: its four corners are on it, and no other point than its centre is as far from the four. Assumes nothing.
use mathlib.Core.Path.{◌≡◌, refl, sym, ◌∙◌, ap}
use mathlib.Core.List.{List, [], ◌∷◌}
use mathlib.Core.Bool.{true}
use lib.IntN.{ℤ, pos, ◌-ℤ◌, ◌*ℤ◌, *ℤ-zero}
use Rattle.grid.specs.declared.GridPoint.{GridPoint}
use Rattle.grid.specs.Point.{point}
use Rattle.geometry.specs.declared.Vector.{Vector}
use Rattle.integers.proofs.Laws.{sub_zero, sub_self}
use Rattle.integers.proofs.Order.{equal_is, no_divisor}
use Rattle.integers.proofs.Ring.{E, var, con, ◌:-◌, ◌:*◌, ring}
use Rattle.geometry.specs.Vectors.{difference_of, dot_of, cross_of, square_of, scaled_by, plus, minus, opposite}
use Rattle.geometry.specs.Spheres.{orient_of, centre_of, distance_of, on_sphere}
use Rattle.geometry.proofs.Terms.{VectorE, vec, dot_e, cross_e, scaled_e, plus_e, minus_e, opposite_e, orient_e, centre_e, distance_e, of_vectors}

-- ---- a sphere, computed: through 0 and the point 2 of each axis, about (1, 1, 1)

abbrev corner0 : GridPoint
corner0 = point (pos 0) (pos 0) (pos 0)

abbrev corner_x : GridPoint
corner_x = point (pos 2) (pos 0) (pos 0)

abbrev corner_y : GridPoint
corner_y = point (pos 0) (pos 2) (pos 0)

abbrev corner_z : GridPoint
corner_z = point (pos 0) (pos 0) (pos 2)

abbrev distance : GridPoint → ℤ
distance w = distance_of corner0 corner_x corner_y corner_z w

pub corners_computed : (distance corner_x ≡ distance corner0) × (distance corner_y ≡ distance corner0) × (distance corner_z ≡ distance corner0)
unfolding distance_of centre_of orient_of
corners_computed = (refl, refl, refl)

-- ---- distances and powers

-- the difference of two squared distances from a centre is a multiple of the power
module _ (o : ℤ) (b v : Vector) (p : GridPoint) where
  abbrev pub distances : ℤ
  distances = square_of (minus (scaled_by (pos 2 *ℤ o) v) b) -ℤ square_of (minus (scaled_by (pos 2 *ℤ o) (difference_of p p)) b)

  abbrev known : List ℤ
  known = o ∷ b.x ∷ b.y ∷ b.z ∷ v.x ∷ v.y ∷ v.z ∷ p.x ∷ p.y ∷ p.z ∷ []

  abbrev distances_e : E
  distances_e = distance_e (var 0) (vec 1) (vec 4) :- distance_e (var 0) (vec 1) (minus_e (vec 7) (vec 7))

  pub distances_power : distances ≡ (pos 4 *ℤ o) *ℤ (o *ℤ square_of v -ℤ dot_of b v)
  distances_power = ring known distances_e ((con (pos 4) :* var 0) :* (var 0 :* dot_e (vec 4) (vec 4) :- dot_e (vec 1) (vec 4))) tt

  pub distances_opposite : distances ≡ (pos 4 *ℤ (pos 0 -ℤ o)) *ℤ ((pos 0 -ℤ o) *ℤ square_of v -ℤ dot_of (opposite b) v)
  distances_opposite =
      ring known distances_e
      ((con (pos 4) :* (con (pos 0) :- var 0)) :* ((con (pos 0) :- var 0) :* dot_e (vec 4) (vec 4) :- dot_e (opposite_e (vec 1)) (vec 4))) tt

-- ---- corners

-- the power of each corner, seen from the first, is 0
module _ (u v t : Vector) where
  -- the centre, times twice the orientation
  abbrev pub centre : Vector
  centre = plus (plus (scaled_by (square_of u) (cross_of v t)) (scaled_by (square_of v) (cross_of t u))) (scaled_by (square_of t) (cross_of u v))

  abbrev power_e : VectorE → E
  power_e w = orient_e (vec 0) (vec 3) (vec 6) :* dot_e w w :- dot_e (centre_e (vec 0) (vec 3) (vec 6)) w

  power_u : dot_of u (cross_of v t) *ℤ square_of u -ℤ dot_of centre u ≡ pos 0
  power_u = ring (of_vectors u v t) (power_e (vec 0)) (con (pos 0)) tt

  power_v : dot_of u (cross_of v t) *ℤ square_of v -ℤ dot_of centre v ≡ pos 0
  power_v = ring (of_vectors u v t) (power_e (vec 3)) (con (pos 0)) tt

  power_t : dot_of u (cross_of v t) *ℤ square_of t -ℤ dot_of centre t ≡ pos 0
  power_t = ring (of_vectors u v t) (power_e (vec 6)) (con (pos 0)) tt

-- the sphere goes through the four (rule 2.2): the corners q, r, s are as far from the centre as p
module _ (p q r s : GridPoint) where
  at_corner : (w : GridPoint) → orient_of p q r s *ℤ square_of (difference_of w p) -ℤ dot_of (centre_of p q r s) (difference_of w p) ≡ pos 0 →
      distance_of p q r s w ≡ distance_of p q r s p
  unfolding distance_of
  at_corner w h =
      let o = orient_of p q r s in
      sub_zero _ _ (distances_power o (centre_of p q r s) (difference_of w p) p ∙ ap (λ (z : ℤ). (pos 4 *ℤ o) *ℤ z) h ∙ *ℤ-zero (pos 4 *ℤ o))

  pub corner_q : distance_of p q r s q ≡ distance_of p q r s p
  unfolding orient_of centre_of
  corner_q = at_corner q (power_u (difference_of q p) (difference_of r p) (difference_of s p))

  pub corner_r : distance_of p q r s r ≡ distance_of p q r s p
  unfolding orient_of centre_of
  corner_r = at_corner r (power_v (difference_of q p) (difference_of r p) (difference_of s p))

  pub corner_s : distance_of p q r s s ≡ distance_of p q r s p
  unfolding orient_of centre_of
  corner_s = at_corner s (power_t (difference_of q p) (difference_of r p) (difference_of s p))

  -- so each corner is on the sphere
  pub corner_on : (w : GridPoint) → distance_of p q r s w ≡ distance_of p q r s p → on_sphere p q r s w ≡ true
  corner_on w e = equal_is e

-- ---- there is no other centre

-- a point, c / k as seen from the first corner, as far from a corner u as from the first
pub equidistant : (k : ℤ) (u c : Vector) → (k ≡ pos 0 → ⊥) → square_of (minus (scaled_by k u) c) ≡ square_of c → k *ℤ square_of u ≡ pos 2 *ℤ dot_of c u
equidistant k u c h e =
    sub_zero _ _ (no_divisor k (k *ℤ square_of u -ℤ pos 2 *ℤ dot_of c u) h
    (ring values doubled_e (dot_e by_e by_e :- dot_e (vec 4) (vec 4)) tt ∙ sub_self (square_of (minus (scaled_by k u) c)) (square_of c) e))
  where
    values : List ℤ
    values = k ∷ u.x ∷ u.y ∷ u.z ∷ c.x ∷ c.y ∷ c.z ∷ []

    by_e : VectorE
    by_e = minus_e (scaled_e (var 0) (vec 1)) (vec 4)

    doubled_e : E
    doubled_e = var 0 :* (var 0 :* dot_e (vec 1) (vec 1) :- con (pos 2) :* dot_e (vec 4) (vec 1))

-- a vector by its products with u, v and t
module _ (u v t c : Vector) (k : ℤ) where
  abbrev values : List ℤ
  values = u.x ∷ u.y ∷ u.z ∷ v.x ∷ v.y ∷ v.z ∷ t.x ∷ t.y ∷ t.z ∷ c.x ∷ c.y ∷ c.z ∷ k ∷ []

  abbrev sum : ℤ → ℤ → ℤ → Vector
  sum i j l = plus (plus (scaled_by i (cross_of v t)) (scaled_by j (cross_of t u))) (scaled_by l (cross_of u v))

  abbrev sum_e : E → E → E → VectorE
  sum_e i j l = plus_e (plus_e (scaled_e i (cross_e (vec 3) (vec 6))) (scaled_e j (cross_e (vec 6) (vec 0)))) (scaled_e l (cross_e (vec 0) (vec 3)))

  spread : scaled_by (pos 2 *ℤ dot_of u (cross_of v t)) c ≡ sum (pos 2 *ℤ dot_of c u) (pos 2 *ℤ dot_of c v) (pos 2 *ℤ dot_of c t)
  spread =
      let a = scaled_e (con (pos 2) :* orient_e (vec 0) (vec 3) (vec 6)) (vec 9) in
      let b = sum_e (con (pos 2) :* dot_e (vec 9) (vec 0)) (con (pos 2) :* dot_e (vec 9) (vec 3)) (con (pos 2) :* dot_e (vec 9) (vec 6)) in
      λ i. record { x = ring values a.X b.X tt i; y = ring values a.Y b.Y tt i; z = ring values a.Z b.Z tt i }

  gathered : sum (k *ℤ square_of u) (k *ℤ square_of v) (k *ℤ square_of t) ≡ scaled_by k (centre u v t)
  gathered =
      let a = sum_e (var 12 :* dot_e (vec 0) (vec 0)) (var 12 :* dot_e (vec 3) (vec 3)) (var 12 :* dot_e (vec 6) (vec 6)) in
      let b = scaled_e (var 12) (centre_e (vec 0) (vec 3) (vec 6)) in
      λ i. record { x = ring values a.X b.X tt i; y = ring values a.Y b.Y tt i; z = ring values a.Z b.Z tt i }

-- a point c / k that is as far from q, r and s as from p is the centre (rule 2.2): both are the same multiple of one vector
pub sphere_centre_only : (p q r s : GridPoint) (k : ℤ) (c : Vector) → (k ≡ pos 0 → ⊥) →
    square_of (minus (scaled_by k (difference_of q p)) c) ≡ square_of c →
    square_of (minus (scaled_by k (difference_of r p)) c) ≡ square_of c →
    square_of (minus (scaled_by k (difference_of s p)) c) ≡ square_of c →
    scaled_by (pos 2 *ℤ orient_of p q r s) c ≡ scaled_by k (centre_of p q r s)
unfolding orient_of centre_of
sphere_centre_only p q r s k c h eq er es =
    let u = difference_of q p in
    let v = difference_of r p in
    let t = difference_of s p in
    let a = sym (equidistant k u c h eq) in
    let b = sym (equidistant k v c h er) in
    let d = sym (equidistant k t c h es) in
    spread u v t c k ∙ (λ i. sum u v t c k (a i) (b i) (d i)) ∙ gathered u v t c k
