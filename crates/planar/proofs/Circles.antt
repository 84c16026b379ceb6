-- The circle of the definitions: its centre is in the plane, the only point there as far from the three corners; the corners are on it. Assumes nothing.
use mathlib.Core.Path.{◌≡◌, refl, sym, ◌∙◌, ap}
use mathlib.Core.List.{List, [], ◌∷◌}
use mathlib.Core.Bool.{true, cond}
use lib.IntN.{ℤ, pos, ◌-ℤ◌, ◌*ℤ◌, *ℤ-zero}
use lib.Signed.{lt_z}
use Rattle.grid.specs.declared.GridPoint.{GridPoint}
use Rattle.grid.specs.Point.{point}
use Rattle.geometry.specs.declared.Vector.{Vector}
use Rattle.geometry.specs.declared.sphere.Position.TheVariants.{Inside, On, Outside}
use Rattle.integers.specs.Order.{equal}
use Rattle.integers.proofs.Laws.{sub_zero}
use Rattle.integers.proofs.Order.{equal_is, equal_self, equal_yes}
use Rattle.integers.proofs.Ring.{E, var, con, ◌:-◌, ◌:*◌, ring}
use Rattle.geometry.specs.Vectors.{difference_of, dot_of, cross_of, square_of, scaled_by, plus, minus, opposite}
use Rattle.geometry.specs.Faces.{normal_of}
use Rattle.geometry.proofs.Squares.{zero_vector_lem}
use Rattle.geometry.proofs.Terms.{VectorE, vec, dot_e, cross_e, scaled_e, plus_e, minus_e, opposite_e, of_vectors}
use Rattle.geometry.proofs.Centres.{distances_power, equidistant}
use Rattle.planar.specs.Circles.{collinear, circumcentre_of, distance_in_plane, on_circle}
use Rattle.planar.specs.Seen.{position_in_plane}
use Rattle.planar.proofs.Zero.{zero_square}

-- ---- a circle, computed: through 0 and the point 2 of the axes z and x, about (1, 0, 1)

abbrev corner0 : GridPoint
corner0 = point (pos 0) (pos 0) (pos 0)

abbrev corner_x : GridPoint
corner_x = point (pos 2) (pos 0) (pos 0)

abbrev corner_z : GridPoint
corner_z = point (pos 0) (pos 0) (pos 2)

pub corners_computed : (on_circle corner0 corner_z corner_x corner_x ≡ true) × (on_circle corner0 corner_z corner_x corner_z ≡ true)
unfolding circumcentre_of distance_in_plane
corners_computed = (refl, refl)

-- ---- points on one line

-- three points are on one line exactly where each coordinate of their normal is 0
pub collinear_zero : (p q r : GridPoint) → collinear p q r ≡ true → ((normal_of p q r).x ≡ pos 0) × ((normal_of p q r).y ≡ pos 0)
    × ((normal_of p q r).z ≡ pos 0)
collinear_zero p q r h = zero_vector_lem (normal_of p q r) (equal_yes (square_of (normal_of p q r)) (pos 0) h)

pub zero_collinear : (p q r : GridPoint) → (normal_of p q r).x ≡ pos 0 → (normal_of p q r).y ≡ pos 0 → (normal_of p q r).z ≡ pos 0 → collinear p q r ≡ true
zero_collinear p q r ex ey ez = equal_is (zero_square (normal_of p q r) ex ey ez)

-- the centre times 2 · |u × v|², seen from the first corner
abbrev pub centre : Vector → Vector → Vector
centre u v = plus (scaled_by (square_of u) (cross_of v (cross_of u v))) (scaled_by (square_of v) (cross_of (cross_of u v) u))

abbrev pub normal_e : VectorE
normal_e = cross_e (vec 0) (vec 3)

abbrev pub centre_e : VectorE
centre_e = plus_e (scaled_e (dot_e (vec 0) (vec 0)) (cross_e (vec 3) normal_e)) (scaled_e (dot_e (vec 3) (vec 3)) (cross_e normal_e (vec 0)))

-- ---- the centre and the corners

module _ (u v : Vector) where
  abbrev values : List ℤ
  values = u.x ∷ u.y ∷ u.z ∷ v.x ∷ v.y ∷ v.z ∷ []

  centre_on_plane : dot_of (cross_of u v) (centre u v) ≡ pos 0
  centre_on_plane = ring values (dot_e normal_e centre_e) (con (pos 0)) tt

  -- the power of each corner is 0
  abbrev power_e : VectorE → E
  power_e w = dot_e normal_e normal_e :* dot_e w w :- dot_e centre_e w

  power_u : square_of (cross_of u v) *ℤ square_of u -ℤ dot_of (centre u v) u ≡ pos 0
  power_u = ring values (power_e (vec 0)) (con (pos 0)) tt

  power_v : square_of (cross_of u v) *ℤ square_of v -ℤ dot_of (centre u v) v ≡ pos 0
  power_v = ring values (power_e (vec 3)) (con (pos 0)) tt

module _ (p q r : GridPoint) where
  at_corner : (w : GridPoint) → square_of (normal_of p q r) *ℤ square_of (difference_of w p) -ℤ dot_of (circumcentre_of p q r) (difference_of w p) ≡ pos 0 →
      distance_in_plane p q r w ≡ distance_in_plane p q r p
  unfolding distance_in_plane
  at_corner w h =
      let s = square_of (normal_of p q r) in
      sub_zero _ _ (distances_power s (circumcentre_of p q r) (difference_of w p) p ∙ ap (λ (z : ℤ). (pos 4 *ℤ s) *ℤ z) h ∙ *ℤ-zero (pos 4 *ℤ s))

  pub distance_q : distance_in_plane p q r q ≡ distance_in_plane p q r p
  unfolding circumcentre_of
  distance_q = at_corner q (power_u (difference_of q p) (difference_of r p))

  pub distance_r : distance_in_plane p q r r ≡ distance_in_plane p q r p
  unfolding circumcentre_of
  distance_r = at_corner r (power_v (difference_of q p) (difference_of r p))

  -- the three corners are on the circle
  pub corner_p : on_circle p q r p ≡ true
  corner_p = equal_self (distance_in_plane p q r p)

  pub corner_q : on_circle p q r q ≡ true
  corner_q = equal_is distance_q

  pub corner_r : on_circle p q r r ≡ true
  corner_r = equal_is distance_r

  -- the centre lies in the plane of the three points
  pub centre_in_plane : dot_of (normal_of p q r) (circumcentre_of p q r) ≡ pos 0
  unfolding circumcentre_of
  centre_in_plane = centre_on_plane (difference_of q p) (difference_of r p)

-- ---- there is no other centre

-- a vector by its products with u, v and their normal
module _ (u v c : Vector) where
  abbrev spread_e : VectorE
  spread_e =
      plus_e (plus_e (scaled_e (con (pos 2) :* dot_e (vec 6) (vec 0)) (cross_e (vec 3) normal_e))
      (scaled_e (con (pos 2) :* dot_e (vec 6) (vec 3)) (cross_e normal_e (vec 0))))
      (scaled_e (dot_e normal_e (vec 6)) (scaled_e (con (pos 2)) normal_e))

  spread :
      scaled_by (pos 2 *ℤ square_of (cross_of u v)) c
      ≡ plus (plus (scaled_by (pos 2 *ℤ dot_of c u) (cross_of v (cross_of u v))) (scaled_by (pos 2 *ℤ dot_of c v) (cross_of (cross_of u v) u)))
      (scaled_by (dot_of (cross_of u v) c) (scaled_by (pos 2) (cross_of u v)))
  spread =
      let a = scaled_e (con (pos 2) :* dot_e normal_e normal_e) (vec 6) in
      λ i. record {
        x = ring (of_vectors u v c) a.X spread_e.X tt i;
        y = ring (of_vectors u v c) a.Y spread_e.Y tt i;
        z = ring (of_vectors u v c) a.Z spread_e.Z tt i;
      }

  gathered : (k : ℤ) →
      plus (plus (scaled_by (k *ℤ square_of u) (cross_of v (cross_of u v))) (scaled_by (k *ℤ square_of v) (cross_of (cross_of u v) u)))
      (scaled_by (pos 0) (scaled_by (pos 2) (cross_of u v)))
      ≡ scaled_by k (centre u v)
  gathered k =
      let a = plus_e (plus_e (scaled_e (var 9 :* dot_e (vec 0) (vec 0)) (cross_e (vec 3) normal_e))
      (scaled_e (var 9 :* dot_e (vec 3) (vec 3)) (cross_e normal_e (vec 0)))) (scaled_e (con (pos 0)) (scaled_e (con (pos 2)) normal_e)) in
      let b = scaled_e (var 9) centre_e in
      let l = u.x ∷ u.y ∷ u.z ∷ v.x ∷ v.y ∷ v.z ∷ c.x ∷ c.y ∷ c.z ∷ k ∷ [] in
      λ i. record { x = ring l a.X b.X tt i; y = ring l a.Y b.Y tt i; z = ring l a.Z b.Z tt i }

-- c / k is the centre: both are the same multiple of one vector
pub centre_only : (p q r : GridPoint) (k : ℤ) (c : Vector) → (k ≡ pos 0 → ⊥) → dot_of (normal_of p q r) c ≡ pos 0 →
    square_of (minus (scaled_by k (difference_of q p)) c) ≡ square_of c → square_of (minus (scaled_by k (difference_of r p)) c) ≡ square_of c →
    scaled_by (pos 2 *ℤ square_of (normal_of p q r)) c ≡ scaled_by k (circumcentre_of p q r)
unfolding circumcentre_of
centre_only p q r k c h e eq er =
    let u = difference_of q p in
    let v = difference_of r p in
    let n = cross_of u v in
    let a = sym (equidistant k u c h eq) in
    let b = sym (equidistant k v c h er) in
    spread u v c
    ∙ (λ i. plus (plus (scaled_by (a i) (cross_of v n)) (scaled_by (b i) (cross_of n u))) (scaled_by (e i) (scaled_by (pos 2) n)))
    ∙ gathered u v c k

-- ---- the order of the corners

module _ (u v : Vector) where
  abbrev swapped : VectorE → VectorE → VectorE
  swapped a b = let n = cross_e a b in plus_e (scaled_e (dot_e a a) (cross_e b n)) (scaled_e (dot_e b b) (cross_e n a))

  square_swap_uv : square_of (cross_of v u) ≡ square_of (cross_of u v)
  square_swap_uv = let n = cross_e (vec 3) (vec 0) in ring (values u v) (dot_e n n) (dot_e normal_e normal_e) tt

  centre_swap_uv : centre v u ≡ centre u v
  centre_swap_uv =
      let a = swapped (vec 3) (vec 0) in
      λ i. record {
        x = ring (values u v) a.X centre_e.X tt i;
        y = ring (values u v) a.Y centre_e.Y tt i;
        z = ring (values u v) a.Z centre_e.Z tt i;
      }

  -- seen from the second corner: the first is at -u, the third at v - u
  square_shift : square_of (cross_of (opposite u) (minus v u)) ≡ square_of (cross_of u v)
  square_shift = let n = cross_e (opposite_e (vec 0)) (minus_e (vec 3) (vec 0)) in ring (values u v) (dot_e n n) (dot_e normal_e normal_e) tt

  centre_shift : centre (opposite u) (minus v u) ≡ minus (centre u v) (scaled_by (pos 2 *ℤ square_of (cross_of u v)) u)
  centre_shift =
      let a = swapped (opposite_e (vec 0)) (minus_e (vec 3) (vec 0)) in
      let b = minus_e centre_e (scaled_e (con (pos 2) :* dot_e normal_e normal_e) (vec 0)) in
      λ i. record { x = ring (values u v) a.X b.X tt i; y = ring (values u v) a.Y b.Y tt i; z = ring (values u v) a.Z b.Z tt i }

-- differences from q, by those from p
module _ (p q r : GridPoint) where
  back : difference_of p q ≡ opposite (difference_of q p)
  back = λ i. record { x = at p.x q.x i; y = at p.y q.y i; z = at p.z q.z i }
    where
      at : (a b : ℤ) → a -ℤ b ≡ pos 0 -ℤ (b -ℤ a)
      at a b = ring (a ∷ b ∷ []) (var 0 :- var 1) (con (pos 0) :- (var 1 :- var 0)) tt

  between : difference_of r q ≡ minus (difference_of r p) (difference_of q p)
  between = λ i. record { x = at p.x q.x r.x i; y = at p.y q.y r.y i; z = at p.z q.z r.z i }
    where
      at : (a b c : ℤ) → c -ℤ b ≡ (c -ℤ a) -ℤ (b -ℤ a)
      at a b c = ring (a ∷ b ∷ c ∷ []) (var 2 :- var 1) ((var 2 :- var 0) :- (var 1 :- var 0)) tt

distance_shift : (s : ℤ) (c u t : Vector) → square_of (minus (scaled_by s (minus t u)) (minus c (scaled_by s u))) ≡ square_of (minus (scaled_by s t) c)
distance_shift s c u t =
    let a = minus_e (scaled_e (var 0) (minus_e (vec 7) (vec 4))) (minus_e (vec 1) (scaled_e (var 0) (vec 4))) in
    let b = minus_e (scaled_e (var 0) (vec 7)) (vec 1) in
    ring (s ∷ c.x ∷ c.y ∷ c.z ∷ u.x ∷ u.y ∷ u.z ∷ t.x ∷ t.y ∷ t.z ∷ []) (dot_e a a) (dot_e b b) tt

module _ (p q r w : GridPoint) where
  abbrev distance_from : ℤ → Vector → Vector → ℤ
  distance_from s t c = square_of (minus (scaled_by (pos 2 *ℤ s) t) c)

  pub distance_swap_qr : distance_in_plane p r q w ≡ distance_in_plane p q r w
  unfolding distance_in_plane circumcentre_of
  distance_swap_qr =
      let u = difference_of q p in
      let v = difference_of r p in
      λ i. distance_from (square_swap_uv u v i) (difference_of w p) (centre_swap_uv u v i)

  pub distance_swap_pq : distance_in_plane q p r w ≡ distance_in_plane p q r w
  unfolding distance_in_plane circumcentre_of
  distance_swap_pq =
      let u = difference_of q p in
      let v = difference_of r p in
      let t = difference_of w p in
      (λ i. distance_from (square_of (cross_of (back p q r i) (between p q r i))) (between p q w i) (centre (back p q r i) (between p q r i)))
      ∙ (λ i. distance_from (square_shift u v i) (minus t u) (centre_shift u v i))
      ∙ distance_shift (pos 2 *ℤ square_of (cross_of u v)) (centre u v) u t

-- so the position does not depend on the order: these two exchanges give every order
module _ (p q r w : GridPoint) where
  pub position_swap_qr : position_in_plane p r q w ≡ position_in_plane p q r w
  unfolding position_in_plane
  position_swap_qr =
      λ i. cond (lt_z (distance_swap_qr p q r w i) (distance_swap_qr p q r p i)) Inside
      (cond (equal (distance_swap_qr p q r w i) (distance_swap_qr p q r p i)) On Outside)

  pub position_swap_pq : position_in_plane q p r w ≡ position_in_plane p q r w
  unfolding position_in_plane
  position_swap_pq =
      let a = distance_swap_pq p q r w in
      let b = distance_swap_pq p q r q ∙ distance_q p q r in
      λ i. cond (lt_z (a i) (b i)) Inside (cond (equal (a i) (b i)) On Outside)
