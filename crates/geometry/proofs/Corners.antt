-- The sphere does not depend on the order in which its corners are named. Assumes nothing.
use mathlib.Core.Path.{◌≡◌, ◌∙◌}
use mathlib.Core.List.{[], ◌∷◌}
use mathlib.Core.Bool.{cond}
use lib.IntN.{ℤ, pos, ◌-ℤ◌, ◌*ℤ◌}
use lib.Signed.{lt_z}
use Rattle.grid.specs.declared.GridPoint.{GridPoint}
use Rattle.geometry.specs.declared.Vector.{Vector}
use Rattle.geometry.specs.declared.sphere.Position.TheVariants.{Inside, On, Outside}
use Rattle.integers.specs.Order.{equal}
use Rattle.integers.proofs.Ring.{E, var, con, ◌:-◌, ◌:*◌, ring}
use Rattle.geometry.specs.Vectors.{difference_of, dot_of, cross_of, square_of, scaled_by, plus, minus, opposite}
use Rattle.geometry.specs.Spheres.{orient_of, centre_of, distance_of}
use Rattle.geometry.specs.Lifting.{position_of}
use Rattle.geometry.proofs.Terms.{VectorE, vec, scaled_e, plus_e, minus_e, opposite_e, orient_e, centre_e, distance_e, of_vectors, of_points}
use Rattle.geometry.proofs.Centres.{centre, corner_q}

-- the opposite orientation and the opposite centre give the same distances
distance_opposite : (o : ℤ) (c v : Vector) → square_of (minus (scaled_by (pos 2 *ℤ (pos 0 -ℤ o)) v) (opposite c))
    ≡ square_of (minus (scaled_by (pos 2 *ℤ o) v) c)
distance_opposite o c v =
    ring (o ∷ c.x ∷ c.y ∷ c.z ∷ v.x ∷ v.y ∷ v.z ∷ [])
    (distance_e (con (pos 0) :- var 0) (opposite_e (vec 1)) (vec 4)) (distance_e (var 0) (vec 1) (vec 4)) tt

module _ (u v t : Vector) where
  orient_swap_uv : dot_of v (cross_of u t) ≡ pos 0 -ℤ dot_of u (cross_of v t)
  orient_swap_uv = ring (of_vectors u v t) (orient_e (vec 3) (vec 0) (vec 6)) (con (pos 0) :- orient_e (vec 0) (vec 3) (vec 6)) tt

  orient_swap_vt : dot_of u (cross_of t v) ≡ pos 0 -ℤ dot_of u (cross_of v t)
  orient_swap_vt = ring (of_vectors u v t) (orient_e (vec 0) (vec 6) (vec 3)) (con (pos 0) :- orient_e (vec 0) (vec 3) (vec 6)) tt

  centre_swap_uv : centre v u t ≡ opposite (centre u v t)
  centre_swap_uv =
      let a = centre_e (vec 3) (vec 0) (vec 6) in
      let b = opposite_e (centre_e (vec 0) (vec 3) (vec 6)) in
      λ i. record {
        x = ring (of_vectors u v t) a.X b.X tt i;
        y = ring (of_vectors u v t) a.Y b.Y tt i;
        z = ring (of_vectors u v t) a.Z b.Z tt i;
      }

  centre_swap_vt : centre u t v ≡ opposite (centre u v t)
  centre_swap_vt =
      let a = centre_e (vec 0) (vec 6) (vec 3) in
      let b = opposite_e (centre_e (vec 0) (vec 3) (vec 6)) in
      λ i. record {
        x = ring (of_vectors u v t) a.X b.X tt i;
        y = ring (of_vectors u v t) a.Y b.Y tt i;
        z = ring (of_vectors u v t) a.Z b.Z tt i;
      }

module _ (p q r s : GridPoint) where
  pub orient_swap_qr : orient_of p r q s ≡ pos 0 -ℤ orient_of p q r s
  unfolding orient_of
  orient_swap_qr = orient_swap_uv (difference_of q p) (difference_of r p) (difference_of s p)

  pub orient_swap_rs : orient_of p q s r ≡ pos 0 -ℤ orient_of p q r s
  unfolding orient_of
  orient_swap_rs = orient_swap_vt (difference_of q p) (difference_of r p) (difference_of s p)

  pub distance_swap_qr : (w : GridPoint) → distance_of p r q s w ≡ distance_of p q r s w
  unfolding distance_of centre_of
  distance_swap_qr w =
      (λ i. square_of (minus (scaled_by (pos 2 *ℤ orient_swap_qr i) (difference_of w p))
      (centre_swap_uv (difference_of q p) (difference_of r p) (difference_of s p) i)))
      ∙ distance_opposite (orient_of p q r s) (centre_of p q r s) (difference_of w p)

  pub distance_swap_rs : (w : GridPoint) → distance_of p q s r w ≡ distance_of p q r s w
  unfolding distance_of centre_of
  distance_swap_rs w =
      (λ i. square_of (minus (scaled_by (pos 2 *ℤ orient_swap_rs i) (difference_of w p))
      (centre_swap_vt (difference_of q p) (difference_of r p) (difference_of s p) i)))
      ∙ distance_opposite (orient_of p q r s) (centre_of p q r s) (difference_of w p)

  -- the first two corners
  abbrev orient_at_e : VectorE → VectorE → VectorE → VectorE → E
  orient_at_e a b c d = orient_e (minus_e b a) (minus_e c a) (minus_e d a)

  abbrev centre_at_e : VectorE → VectorE → VectorE → VectorE → VectorE
  centre_at_e a b c d = centre_e (minus_e b a) (minus_e c a) (minus_e d a)

  -- the centre seen from q, not from p
  abbrev shifted : Vector
  shifted = plus (opposite (centre_of p q r s)) (scaled_by (pos 2 *ℤ orient_of p q r s) (difference_of q p))

  pub orient_swap_pq : orient_of q p r s ≡ pos 0 -ℤ orient_of p q r s
  unfolding orient_of
  orient_swap_pq = ring (of_points p q r s) (orient_at_e (vec 3) (vec 0) (vec 6) (vec 9)) (con (pos 0) :- orient_at_e (vec 0) (vec 3) (vec 6) (vec 9)) tt

  centre_swap_pq : centre_of q p r s ≡ shifted
  unfolding centre_of orient_of
  centre_swap_pq =
      let a = centre_at_e (vec 3) (vec 0) (vec 6) (vec 9) in
      let b = plus_e (opposite_e (centre_at_e (vec 0) (vec 3) (vec 6) (vec 9)))
      (scaled_e (con (pos 2) :* orient_at_e (vec 0) (vec 3) (vec 6) (vec 9)) (minus_e (vec 3) (vec 0))) in
      λ i. record {
        x = ring (of_points p q r s) a.X b.X tt i;
        y = ring (of_points p q r s) a.Y b.Y tt i;
        z = ring (of_points p q r s) a.Z b.Z tt i;
      }

distance_shift : (o : ℤ) (c : Vector) (p q w : GridPoint) →
    square_of (minus (scaled_by (pos 2 *ℤ (pos 0 -ℤ o)) (difference_of w q)) (plus (opposite c) (scaled_by (pos 2 *ℤ o) (difference_of q p))))
    ≡ square_of (minus (scaled_by (pos 2 *ℤ o) (difference_of w p)) c)
distance_shift o c p q w =
    ring (o ∷ c.x ∷ c.y ∷ c.z ∷ p.x ∷ p.y ∷ p.z ∷ q.x ∷ q.y ∷ q.z ∷ w.x ∷ w.y ∷ w.z ∷ [])
    (distance_e (con (pos 0) :- var 0) (plus_e (opposite_e (vec 1)) (scaled_e (con (pos 2) :* var 0) (minus_e (vec 7) (vec 4)))) (minus_e (vec 10) (vec 7)))
    (distance_e (var 0) (vec 1) (minus_e (vec 10) (vec 4))) tt

module _ (p q r s : GridPoint) where
  pub distance_swap_pq : (w : GridPoint) → distance_of q p r s w ≡ distance_of p q r s w
  unfolding distance_of
  distance_swap_pq w =
      (λ i. square_of (minus (scaled_by (pos 2 *ℤ orient_swap_pq p q r s i) (difference_of w q)) (centre_swap_pq p q r s i)))
      ∙ distance_shift (orient_of p q r s) (centre_of p q r s) p q w

  -- so the position does not depend on the order: these three exchanges give every order
  pub position_swap_pq : (w : GridPoint) → position_of q p r s w ≡ position_of p q r s w
  unfolding position_of
  position_swap_pq w =
      let a = distance_swap_pq w in
      let b = distance_swap_pq q ∙ corner_q p q r s in
      λ i. cond (lt_z (a i) (b i)) Inside (cond (equal (a i) (b i)) On Outside)

  pub position_swap_qr : (w : GridPoint) → position_of p r q s w ≡ position_of p q r s w
  unfolding position_of
  position_swap_qr w =
      λ i. cond (lt_z (distance_swap_qr p q r s w i) (distance_swap_qr p q r s p i)) Inside
      (cond (equal (distance_swap_qr p q r s w i) (distance_swap_qr p q r s p i)) On Outside)

  pub position_swap_rs : (w : GridPoint) → position_of p q s r w ≡ position_of p q r s w
  unfolding position_of
  position_swap_rs w =
      λ i. cond (lt_z (distance_swap_rs p q r s w i) (distance_swap_rs p q r s p i)) Inside
      (cond (equal (distance_swap_rs p q r s w i) (distance_swap_rs p q r s p i)) On Outside)
