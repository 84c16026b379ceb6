-- The circle that the code computes, seen along an axis: its bounds, and that it is the circle of the definitions. Assumes nothing.
use mathlib.Core.Path.{◌≡◌, refl, sym, ◌∙◌, ap}
use mathlib.Core.List.{List, [], ◌∷◌}
use mathlib.Core.Bool.{Bool, true, false, cond}
use Prim.Native.Nat.{ℕ, zero, suc}
use lib.IntN.{ℤ, pos, negsuc, nat_abs, ◌+ℤ◌, ◌-ℤ◌, ◌*ℤ◌, +ℤ_idl, +ℤ_idr, zero-*ℤ}
use lib.Signed.{lt_z}
use Rattle.grid.specs.declared.GridPoint.{GridPoint}
use Rattle.geometry.specs.declared.Vector.{Vector}
use Rattle.geometry.specs.declared.sphere.Lifted.{Lifted}
use Rattle.geometry.specs.declared.sphere.Sphere.{Sphere}
use Rattle.geometry.specs.declared.sphere.Position.{Position}
use Rattle.geometry.specs.declared.sphere.Position.TheVariants.{Inside, On, Outside}
use Rattle.integers.specs.Order.{equal}
use Rattle.integers.proofs.Order.{equal_is, equal_yes, equal_no, less_multiple, equal_multiple, not_below, true≢false}
use Rattle.integers.proofs.Ring.{E, var, con, ◌:+◌, ◌:-◌, ◌:*◌, ring}
use Rattle.geometry.specs.Vectors.{difference_of, dot_of, cross_of, square_of, scaled_by, plus, minus, opposite}
use Rattle.geometry.specs.Spheres.{orient_of, coplanar}
use Rattle.geometry.specs.Lifting.{lift_of, turned, no_sphere, position_by}
use Rattle.geometry.specs.Faces.{normal_of}
use Rattle.geometry.proofs.Terms.{VectorE, vec, dot_e, cross_e, scaled_e, plus_e, minus_e, opposite_e, of_vectors}
use Rattle.geometry.proofs.Centres.{distances_power}
use Rattle.geometry.proofs.Spheres.{by_multiple, triple_product, turned_orient}
use Rattle.geometry.proofs.Squares.{square_size}
use Rattle.planar.specs.Circles.{collinear, circumcentre_of, distance_in_plane}
use Rattle.planar.specs.Seen.{position_in_plane, axis_x, axis_y, axis_z, axis_across, circle_of}
use Rattle.planar.proofs.Circles.{centre, normal_e, centre_e}
use Rattle.planar.proofs.Axes.{axis_across_lem, zero_along}

-- ---- as seen along an axis

-- the centre as computed, times twice the orientation
abbrev seen_e : VectorE → VectorE
seen_e e = plus_e (cross_e (minus_e (scaled_e (dot_e (vec 0) (vec 0)) (vec 3)) (scaled_e (dot_e (vec 3) (vec 3)) (vec 0))) e) (scaled_e (con (pos 0)) normal_e)

-- the code's power of w, times |n|², is the circle's times n · e, and something that vanishes in the plane
module _ (u v e t : Vector) where
  abbrev known : List ℤ
  known = u.x ∷ u.y ∷ u.z ∷ v.x ∷ v.y ∷ v.z ∷ e.x ∷ e.y ∷ e.z ∷ t.x ∷ t.y ∷ t.z ∷ []

  abbrev weighted : Vector
  weighted = minus (scaled_by (square_of u) v) (scaled_by (square_of v) u)

  -- the centre as computed
  abbrev pub seen : Vector
  seen = plus (cross_of weighted e) (scaled_by (pos 0) (cross_of u v))

  powers :
      square_of (cross_of u v) *ℤ (dot_of (cross_of u v) e *ℤ square_of t -ℤ dot_of seen t)
      ≡ dot_of (cross_of u v) e *ℤ (square_of (cross_of u v) *ℤ square_of t -ℤ dot_of (centre u v) t) +ℤ dot_of (cross_of u v) t *ℤ dot_of (centre u v) e
  powers =
      ring known
      (dot_e normal_e normal_e :* (dot_e normal_e (vec 6) :* dot_e (vec 9) (vec 9) :- dot_e (seen_e (vec 6)) (vec 9)))
      (dot_e normal_e (vec 6) :* (dot_e normal_e normal_e :* dot_e (vec 9) (vec 9) :- dot_e centre_e (vec 9)) :+ dot_e normal_e (vec 9) :* dot_e
      centre_e (vec 6)) tt

-- that power, along an axis, is the determinant of the other two coordinates and the squared lengths of u, v and t
module _ (u v t : Vector) where
  -- of the rows (a, b, |u|²), (c, d, |v|²), (e, f, |t|²)
  abbrev pub determinant : ℤ → ℤ → ℤ → ℤ → ℤ → ℤ → ℤ
  determinant a b c d e f = square_of u *ℤ (c *ℤ f -ℤ d *ℤ e) -ℤ square_of v *ℤ (a *ℤ f -ℤ b *ℤ e) +ℤ square_of t *ℤ (a *ℤ d -ℤ b *ℤ c)

  abbrev determinant_e : E → E → E → E → E → E → E
  determinant_e a b c d e f =
      dot_e (vec 0) (vec 0) :* (c :* f :- d :* e) :- dot_e (vec 3) (vec 3) :* (a :* f :- b :* e) :+ dot_e (vec 6) (vec 6) :* (a :* d :- b :* c)

  abbrev along_e : ℤ → ℤ → ℤ → E
  along_e x y z =
      let e : VectorE = record { X = con x; Y = con y; Z = con z } in
      dot_e normal_e e :* dot_e (vec 6) (vec 6) :- dot_e (seen_e e) (vec 6)

  abbrev pub power_along : Vector → ℤ
  power_along e = dot_of (cross_of u v) e *ℤ square_of t -ℤ dot_of (seen u v e t) t

  pub determinant_x : power_along axis_x ≡ determinant u.y u.z v.y v.z t.y t.z
  determinant_x = ring (of_vectors u v t) (along_e (pos 1) (pos 0) (pos 0)) (determinant_e (var 1) (var 2) (var 4) (var 5) (var 7) (var 8)) tt

  pub determinant_y : power_along axis_y ≡ determinant u.z u.x v.z v.x t.z t.x
  determinant_y = ring (of_vectors u v t) (along_e (pos 0) (pos 1) (pos 0)) (determinant_e (var 2) (var 0) (var 5) (var 3) (var 8) (var 6)) tt

  pub determinant_z : power_along axis_z ≡ determinant u.x u.y v.x v.y t.x t.y
  determinant_z = ring (of_vectors u v t) (along_e (pos 0) (pos 0) (pos 1)) (determinant_e (var 0) (var 1) (var 3) (var 4) (var 6) (var 7)) tt

-- ---- the sign

-- a position by the sign of a number
abbrev place : ℤ → Position
place z = cond (lt_z z (pos 0)) Inside (cond (equal z (pos 0)) On Outside)

place_multiple : (k : ℕ) (z : ℤ) → place (pos (suc k) *ℤ z) ≡ place z
place_multiple k z = λ i. cond (less_multiple k z i) Inside (cond (equal_multiple k z i) On Outside)

-- two numbers with equal positive multiples
place_same : (m n : ℕ) (y z : ℤ) → pos (suc m) *ℤ y ≡ pos (suc n) *ℤ z → place y ≡ place z
place_same m n y z e = sym (place_multiple m y) ∙ ap place e ∙ place_multiple n z

-- the power with all signs changed
pub power_back : (o l : ℤ) (c t : Vector) → (pos 0 -ℤ o) *ℤ l -ℤ dot_of (opposite c) t ≡ pos 0 -ℤ (o *ℤ l -ℤ dot_of c t)
power_back o l c t =
    ring (o ∷ l ∷ c.x ∷ c.y ∷ c.z ∷ t.x ∷ t.y ∷ t.z ∷ [])
    ((con (pos 0) :- var 0) :* var 1 :- dot_e (opposite_e (vec 2)) (vec 5)) (con (pos 0) :- (var 0 :* var 1 :- dot_e (vec 2) (vec 5))) tt

-- and so of two equal products
opposite_products : (s x o y : ℤ) → s *ℤ x ≡ o *ℤ y → s *ℤ (pos 0 -ℤ x) ≡ (pos 0 -ℤ o) *ℤ y
opposite_products s x o y e =
    ring (s ∷ x ∷ []) (var 0 :* (con (pos 0) :- var 1)) (con (pos 0) :- var 0 :* var 1) tt
    ∙ ap (λ (z : ℤ). pos 0 -ℤ z) e
    ∙ ring (o ∷ y ∷ []) (con (pos 0) :- var 0 :* var 1) ((con (pos 0) :- var 0) :* var 1) tt

-- what the code makes of an orientation o, a centre c and a point, where s · power = o · y
place_turned : (n : ℕ) (o : ℤ) (c : Vector) (w : Lifted) (y : ℤ) → (o ≡ pos 0 → ⊥) → pos (suc n) *ℤ (o *ℤ w.square -ℤ dot_of c w.vector) ≡ o *ℤ y →
    position_by (turned o c) w ≡ place y
place_turned n (pos zero) c w y h e = absurd (h refl)
place_turned n (pos (suc m)) c w y h e =
    ap (λ (t : Bool). position_by
    (cond t (record { orient = pos 0 -ℤ pos (suc m); centre = opposite c }) (record { orient = pos (suc m); centre = c })) w) (not_below (suc m))
    ∙ place_same n m (pos (suc m) *ℤ w.square -ℤ dot_of c w.vector) y e
place_turned n (negsuc m) c w y h e =
    place_same n m ((pos 0 -ℤ negsuc m) *ℤ w.square -ℤ dot_of (opposite c) w.vector) y
    (ap (λ (z : ℤ). pos (suc n) *ℤ z) (power_back (negsuc m) w.square c w.vector) ∙ opposite_products (pos (suc n))
    (negsuc m *ℤ w.square -ℤ dot_of c w.vector) (negsuc m) y e ∙ ap (λ (z : ℤ). z *ℤ y) (+ℤ_idl (pos (suc m))))

-- ---- the computed circle is the one of the definitions

module _ (p q r : GridPoint) where
  -- what the code computes of three corners
  abbrev pub computed_circle : Sphere
  computed_circle = circle_of (lift_of p q) (lift_of p r)

-- the plane of p, q and r holds w
pub on_plane : (p q r w : GridPoint) → coplanar p q r w ≡ true → dot_of (normal_of p q r) (difference_of w p) ≡ pos 0
unfolding orient_of
on_plane p q r w h =
    triple_product (difference_of q p) (difference_of r p) (difference_of w p)
    ∙ equal_yes (dot_of (difference_of q p) (cross_of (difference_of r p) (difference_of w p))) (pos 0) h

module _ (p q r w : GridPoint) where
  abbrev u : Vector
  u = difference_of q p

  abbrev v : Vector
  v = difference_of r p

  abbrev t : Vector
  t = difference_of w p

  abbrev axis : Vector
  axis = axis_across (normal_of p q r)

  abbrev power : ℤ
  power = square_of (normal_of p q r) *ℤ square_of t -ℤ dot_of (centre u v) t

  powers_on_plane : coplanar p q r w ≡ true →
      square_of (normal_of p q r) *ℤ (dot_of (normal_of p q r) axis *ℤ square_of t -ℤ dot_of (seen u v axis t) t) ≡ dot_of (normal_of p q r) axis *ℤ power
  powers_on_plane h =
      powers u v axis t
      ∙ ap (λ (z : ℤ). dot_of (normal_of p q r) axis *ℤ power +ℤ z *ℤ dot_of (centre u v) axis) (on_plane p q r w h)
      ∙ ap (λ (z : ℤ). dot_of (normal_of p q r) axis *ℤ power +ℤ z) (zero-*ℤ (dot_of (centre u v) axis))
      ∙ +ℤ_idr (dot_of (normal_of p q r) axis *ℤ power)

  -- the difference of the squared distances of w and p
  distances : distance_in_plane p q r w -ℤ distance_in_plane p q r p ≡ (pos 4 *ℤ square_of (normal_of p q r)) *ℤ power
  unfolding distance_in_plane circumcentre_of
  distances = distances_power (square_of (normal_of p q r)) (centre u v) t p

  placed : (s : ℕ) → square_of (normal_of p q r) ≡ pos s → collinear p q r ≡ false → coplanar p q r w ≡ true →
      position_by (computed_circle p q r) (lift_of p w) ≡ position_in_plane p q r w
  unfolding position_in_plane
  placed zero e k h = true≢false (sym (equal_is e) ∙ k)
  placed (suc s) e k h =
      let o = dot_of (normal_of p q r) axis in
      let c = seen u v axis t in
      let nonzero : (o ≡ pos 0 → ⊥) = λ z. true≢false (sym (equal_is ((axis_across_lem (normal_of p q r)).along z)) ∙ k) in
      ap (λ (b : Bool). position_by (cond b no_sphere (turned o c)) (lift_of p w)) (equal_no o (pos 0) nonzero)
      ∙ place_turned s o c (lift_of p w) power nonzero (ap (λ (z : ℤ). z *ℤ (o *ℤ square_of t -ℤ dot_of c t)) (sym e) ∙ powers_on_plane h)
      ∙ by_multiple s (distance_in_plane p q r w) (distance_in_plane p q r p) power (distances ∙ ap (λ (z : ℤ). (pos 4 *ℤ z) *ℤ power) e)

  -- where the code puts a point of the plane, and where it lies by the distance from the centre
  pub circle_position_is : collinear p q r ≡ false → coplanar p q r w ≡ true → position_by (computed_circle p q r) (lift_of p w) ≡ position_in_plane p q r w
  circle_position_is k h = placed (nat_abs (square_of (normal_of p q r))) (square_size (normal_of p q r)) k h

-- the code's orientation is 0 where the three are on one line
pub collinear_is : (p q r : GridPoint) → equal (computed_circle p q r).orient (pos 0) ≡ collinear p q r
collinear_is p q r = go (equal o (pos 0)) refl
  where
    n : Vector
    n = normal_of p q r

    o : ℤ
    o = dot_of (normal_of p q r) (axis_across (normal_of p q r))

    c : Vector
    c = seen (difference_of q p) (difference_of r p) (axis_across (normal_of p q r)) (difference_of p p)

    go : (b : Bool) → equal o (pos 0) ≡ b → equal (cond b no_sphere (turned o c)).orient (pos 0) ≡ collinear p q r
    go true e = sym (equal_is ((axis_across_lem n).along (equal_yes o (pos 0) e)))
    go false e = turned_orient o c ∙ e ∙ sym (equal_no (square_of n) (pos 0) (λ z. true≢false (sym (equal_is (zero_along n (axis_across n) z)) ∙ e)))
