-- Three points on one line, and the circle through three points in their plane, by its centre. Definitions only.
use Rattle.std.specs.Prelude.{Bool, ℤ, pos, ◌*ℤ◌}
use Rattle.std.specs.Int.Signed.{lt_z}
use Rattle.grid.specs.declared.GridPoint.{GridPoint}
use Rattle.geometry.specs.declared.Vector.{Vector}
use Rattle.integers.specs.Order.{equal}
use Rattle.geometry.specs.Vectors.{difference_of, cross_of, square_of, scaled_by, plus, minus}
use Rattle.geometry.specs.Faces.{normal_of}

-- the three are on one line (rule 2.17): their normal is 0
abbrev pub collinear : GridPoint → GridPoint → GridPoint → Bool
collinear p q r = equal (square_of (normal_of p q r)) (pos 0)

-- the centre of the circle through the three (rule 2.18) is p + circumcentre_of p q r / (2 · |normal|²)
unfoldable pub circumcentre_of : GridPoint → GridPoint → GridPoint → Vector
circumcentre_of p q r =
    let u = difference_of q p in
    let v = difference_of r p in
    let n = normal_of p q r in
    plus (scaled_by (square_of u) (cross_of v n)) (scaled_by (square_of v) (cross_of n u))

-- the squared distance of w from the centre, times (2 · |normal|²) squared (rule 2.18)
unfoldable pub distance_in_plane : GridPoint → GridPoint → GridPoint → GridPoint → ℤ
distance_in_plane p q r w = square_of (minus (scaled_by (pos 2 *ℤ square_of (normal_of p q r)) (difference_of w p)) (circumcentre_of p q r))

-- w, in the plane of the three, is strictly inside the circle (rule 2.18): nearer to the centre than the corner p
abbrev pub strictly_inside_circle : GridPoint → GridPoint → GridPoint → GridPoint → Bool
strictly_inside_circle p q r w = lt_z (distance_in_plane p q r w) (distance_in_plane p q r p)

-- w is on the circle (rule 2.18): as far from the centre as the corner p
abbrev pub on_circle : GridPoint → GridPoint → GridPoint → GridPoint → Bool
on_circle p q r w = equal (distance_in_plane p q r w) (distance_in_plane p q r p)
