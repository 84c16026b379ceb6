-- How large the numbers of the circle's test are. Assumes nothing.
use mathlib.Core.Path.{◌≡◌}
use mathlib.Core.List.{[], ◌∷◌}
use mathlib.Core.Bool.{Bool, true, false, cond}
use Prim.Native.Nat.{ℕ, ◌*◌}
use lib.IntN.{ℤ, pos, ◌-ℤ◌, ◌*ℤ◌}
use lib.Signed.{lt_z}
use Rattle.grid.specs.declared.GridPoint.{GridPoint}
use Rattle.grid.specs.Point.{PointOnGrid}
use Rattle.geometry.specs.declared.Vector.{Vector}
use Rattle.geometry.specs.declared.sphere.Lifted.{Lifted}
use Rattle.integers.specs.Bounds.{AtMost}
use Rattle.integers.specs.Order.{equal}
use Rattle.integers.proofs.Bounds.{at_most_add, at_most_sub, at_most_mul, at_most_as}
use Rattle.integers.proofs.Ring.{var, con, ◌:-◌, ◌:*◌, ring}
use Rattle.geometry.specs.Vectors.{difference_of, dot_of, opposite}
use Rattle.geometry.specs.Bounds.{max_difference, max_square, max_normal, Within}
use Rattle.geometry.specs.Lifting.{lift_of, turned, no_sphere, power_of}
use Rattle.geometry.specs.Faces.{normal_of}
use Rattle.geometry.proofs.Terms.{vec, dot_e}
use Rattle.geometry.proofs.Vectors.{within_difference, at_most_dot}
use Rattle.planar.specs.Seen.{axis_x, axis_y, axis_z, axis_across}
use Rattle.planar.proofs.Zero.{at_most_zero}
use Rattle.planar.proofs.Seen.{seen, power_back, determinant, determinant_x, determinant_y, determinant_z, power_along, computed_circle}

-- three products of a squared distance and a coordinate of a normal: 288,000,000,000,000
abbrev pub max_power : ℕ
max_power = 3 * (max_square * max_normal)

-- a determinant of differences and their squares
module _ {u v t : Vector} (hu : Within max_difference u) (hv : Within max_difference v) (ht : Within max_difference t) where
  minor : {a b c d : ℤ} → AtMost max_difference a → AtMost max_difference b → AtMost max_difference c → AtMost max_difference d →
      AtMost max_normal (a *ℤ d -ℤ b *ℤ c)
  minor ha hb hc hd = at_most_sub (at_most_mul ha hd) (at_most_mul hb hc)

  bounded : {a b c d e f : ℤ} → AtMost max_difference a → AtMost max_difference b → AtMost max_difference c → AtMost max_difference d →
      AtMost max_difference e → AtMost max_difference f → AtMost max_power (determinant u v t a b c d e f)
  bounded ha hb hc hd he hf =
      at_most_add (at_most_sub (at_most_mul (at_most_dot hu hu) (minor hc hd he hf)) (at_most_mul (at_most_dot hv hv) (minor ha hb he hf)))
      (at_most_mul (at_most_dot ht ht) (minor ha hb hc hd))

  along_bound : (n : Vector) → AtMost max_power (power_along u v t (axis_across n))
  along_bound n = go (equal n.x (pos 0)) (equal n.y (pos 0))
    where
      go : (bx by : Bool) → AtMost max_power (power_along u v t (cond bx (cond by axis_z axis_y) axis_x))
      go true true = at_most_as (determinant_z u v t) (bounded hu.in_x hu.in_y hv.in_x hv.in_y ht.in_x ht.in_y)
      go true false = at_most_as (determinant_y u v t) (bounded hu.in_z hu.in_x hv.in_z hv.in_x ht.in_z ht.in_x)
      go false by = at_most_as (determinant_x u v t) (bounded hu.in_y hu.in_z hv.in_y hv.in_z ht.in_y ht.in_z)

-- no circle, and one that is turned
power_none : (w : Lifted) → power_of no_sphere w ≡ pos 0
power_none w =
    let o = con (pos 0) in
    ring (w.square ∷ w.vector.x ∷ w.vector.y ∷ w.vector.z ∷ []) (o :* var 0 :- dot_e (record { X = o; Y = o; Z = o }) (vec 1)) o tt

power_turned : (o : ℤ) (c : Vector) (w : Lifted) → AtMost max_power (o *ℤ w.square -ℤ dot_of c w.vector) → AtMost max_power (power_of (turned o c) w)
power_turned o c w h = go (lt_z o (pos 0))
  where
    go : (b : Bool) → AtMost max_power (power_of (cond b (record { orient = pos 0 -ℤ o; centre = opposite c }) (record { orient = o; centre = c })) w)
    go true = at_most_as (power_back o w.square c w.vector) (at_most_sub {m = 0} at_most_zero h)
    go false = h

-- what `sphere::locate` compares with 0, for points of the grid
pub power_bound : {p q r w : GridPoint} → PointOnGrid p → PointOnGrid q → PointOnGrid r → PointOnGrid w →
    AtMost max_power (power_of (computed_circle p q r) (lift_of p w))
power_bound {p} {q} {r} {w} hp hq hr hw = go (equal (dot_of (normal_of p q r) (axis_across (normal_of p q r))) (pos 0))
  where
    u : Vector
    u = difference_of q p

    v : Vector
    v = difference_of r p

    go : (b : Bool) → AtMost max_power
        (power_of (cond b no_sphere
        (turned (dot_of (normal_of p q r) (axis_across (normal_of p q r))) (seen u v (axis_across (normal_of p q r)) (difference_of w p)))) (lift_of p w))
    go true = at_most_as (power_none (lift_of p w)) at_most_zero
    go false =
        power_turned (dot_of (normal_of p q r) (axis_across (normal_of p q r))) (seen u v (axis_across (normal_of p q r)) (difference_of w p)) (lift_of p w)
        (along_bound (within_difference hq hp) (within_difference hr hp) (within_difference hw hp) (normal_of p q r))
