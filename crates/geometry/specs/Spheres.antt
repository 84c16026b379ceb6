-- Four points in one plane, and the sphere through four points, by its centre. Definitions only.
use Rattle.std.specs.Prelude.{Bool, ℤ, pos, ◌*ℤ◌}
use Rattle.std.specs.Int.Signed.{lt_z}
use Rattle.grid.specs.declared.GridPoint.{GridPoint}
use Rattle.geometry.specs.declared.Vector.{Vector}
use Rattle.integers.specs.Order.{equal}
use Rattle.geometry.specs.Vectors.{difference_of, dot_of, cross_of, square_of, scaled_by, plus, minus}

-- six times the volume of the four, negative where they turn the other way: u·(v×t) (rule 2.1)
unfoldable pub orient_of : GridPoint → GridPoint → GridPoint → GridPoint → ℤ
orient_of p q r s = dot_of (difference_of q p) (cross_of (difference_of r p) (difference_of s p))

-- the four are in one plane (rule 2.1)
abbrev pub coplanar : GridPoint → GridPoint → GridPoint → GridPoint → Bool
coplanar p q r s = equal (orient_of p q r s) (pos 0)

-- the centre of the sphere through the four (rule 2.2) is p + centre_of p q r s / (2 · orient_of p q r s)
unfoldable pub centre_of : GridPoint → GridPoint → GridPoint → GridPoint → Vector
centre_of p q r s =
    let u = difference_of q p in
    let v = difference_of r p in
    let t = difference_of s p in
    plus (plus (scaled_by (square_of u) (cross_of v t)) (scaled_by (square_of v) (cross_of t u))) (scaled_by (square_of t) (cross_of u v))

-- the squared distance of w from the centre, times (2 · orient_of p q r s) squared (rule 2.2)
unfoldable pub distance_of : GridPoint → GridPoint → GridPoint → GridPoint → GridPoint → ℤ
distance_of p q r s w = square_of (minus (scaled_by (pos 2 *ℤ orient_of p q r s) (difference_of w p)) (centre_of p q r s))

-- w is strictly inside the sphere (rule 2.2): nearer to the centre than the corner p
abbrev pub strictly_inside : GridPoint → GridPoint → GridPoint → GridPoint → GridPoint → Bool
strictly_inside p q r s w = lt_z (distance_of p q r s w) (distance_of p q r s p)

-- w is on the sphere (rule 2.2): as far from the centre as the corner p
abbrev pub on_sphere : GridPoint → GridPoint → GridPoint → GridPoint → GridPoint → Bool
on_sphere p q r s w = equal (distance_of p q r s w) (distance_of p q r s p)
