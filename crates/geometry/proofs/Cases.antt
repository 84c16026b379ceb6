-- Points of rim P (rule 6.1) and others over the definitions: lengths, bends and positions. Assumes nothing.
use mathlib.Core.Path.{◌≡◌, refl}
use mathlib.Core.Bool.{true, false}
use Prim.Native.Nat.{ℕ, ◌*◌}
use lib.Dec.{lit≤}
use lib.IntN.{pos, nat_abs}
use Rattle.grid.specs.declared.GridPoint.{GridPoint}
use Rattle.grid.specs.Point.{point}
use Rattle.integers.specs.Rounding.{floor_root, root_digits}
use Rattle.geometry.specs.declared.Vector.{Vector}
use Rattle.geometry.specs.Vectors.{square_of}
use Rattle.geometry.specs.declared.sphere.Position.TheVariants.{Inside, Outside}
use Rattle.geometry.specs.Bounds.{max_dot, max_length, max_ratio_dividend}
use Rattle.geometry.specs.Faces.{square_scale, dividend_scale, normal_of, length_of, ratio_of, bend_of, bend_between}
use Rattle.geometry.specs.Quarters.{LongerByQuarter}
use Rattle.geometry.proofs.Lengths.{longer_by_quarter}
use Rattle.geometry.specs.Spheres.{orient_of, centre_of, distance_of, coplanar, strictly_inside, on_sphere}
use Rattle.geometry.specs.Lifting.{position_of}

abbrev p0 : GridPoint
p0 = point (pos 0) (pos 0) (pos 0)

abbrev p1 : GridPoint
p1 = point (pos 8) (pos 0) (pos 0)

abbrev p2 : GridPoint
p2 = point (pos 8) (pos 8) (pos 6)

abbrev p3 : GridPoint
p3 = point (pos 0) (pos 8) (pos 0)

abbrev vector : ℕ → ℕ → ℕ → Vector
vector x y z = record { x = pos x; y = pos y; z = pos z }

length_012 : length_of (normal_of p0 p1 p2) ≡ 320
unfolding length_of root_digits
length_012 = refl

length_013 : length_of (normal_of p0 p1 p3) ≡ 256
unfolding length_of root_digits
length_013 = refl

length_023 : length_of (normal_of p0 p2 p3) ≡ 320
unfolding length_of root_digits
length_023 = refl

length_123 : length_of (normal_of p1 p2 p3) ≡ 373
unfolding length_of root_digits
length_123 = refl

bend_1_3 : bend_between (normal_of p0 p1 p3) (normal_of p1 p2 p3) ≡ 314
unfolding length_of root_digits bend_of ratio_of
bend_1_3 = refl

bend_2_0 : bend_between (normal_of p0 p2 p3) (normal_of p0 p1 p2) ≡ 360
unfolding length_of root_digits bend_of ratio_of
bend_2_0 = refl

-- ---- lengths and ratios by numbers

scales : (square_scale ≡ 16) × (dividend_scale ≡ 16000) × (max_ratio_dividend ≡ 3072000000000000000)
scales = (refl, refl, refl)

-- the shortest normals outside
unit : length_of (vector 0 0 1) ≡ 4
unfolding length_of root_digits
unit = refl

diagonal : length_of (vector 0 1 1) ≡ 5
unfolding length_of root_digits
diagonal = refl

-- two normals whose roots have the same whole part, 5, though they differ by more than a quarter: their lengths tell them apart
same_whole_root : (floor_root (nat_abs (square_of (vector 3 4 0))) ≡ 5) × (floor_root (nat_abs (square_of (vector 5 2 0))) ≡ 5)
unfolding root_digits
same_whole_root = (refl, refl)

longer : LongerByQuarter (vector 3 4 0) (vector 5 2 0)
longer = longer_by_quarter (vector 3 4 0) (vector 5 2 0) 63 (lit≤ tt) (lit≤ tt)

other_length : (length_of (vector 3 4 0) ≡ 20) × (length_of (vector 5 2 0) ≡ 21)
unfolding length_of root_digits
other_length = (refl, refl)

proper : coplanar p0 p1 p2 p3 ≡ false
unfolding orient_of
proper = refl

-- the largest whole root that is asked for
root_of_all : floor_root (square_scale * max_dot) ≡ max_length
unfolding root_digits
root_of_all = refl

-- a fifth point on the sphere of the four, one inside and one outside
fifth_on : on_sphere p0 p1 p2 p3 (point (pos 8) (pos 8) (pos 0)) ≡ true
unfolding orient_of centre_of distance_of
fifth_on = refl

fifth_inside : position_of p0 p1 p2 p3 (point (pos 4) (pos 4) (pos 3)) ≡ Inside
unfolding orient_of centre_of distance_of position_of
fifth_inside = refl

fifth_outside : position_of p0 p1 p2 p3 (point (pos 9) (pos 8) (pos 0)) ≡ Outside
unfolding orient_of centre_of distance_of position_of
fifth_outside = refl

-- a point inside the sphere on the fourth corner's own side refutes nothing: its own sphere through the triangle has neither inside
abbrev apex : GridPoint
apex = point (pos 0) (pos 0) (pos 16)

abbrev below : GridPoint
below = point (pos 2) (pos 2) (pos 4)

own_side : (strictly_inside p0 p1 p3 apex below ≡ true) × (coplanar p0 p1 p3 below ≡ false)
    × (strictly_inside p0 p1 p3 below apex ≡ false) × (strictly_inside p0 p1 p3 below below ≡ false)
unfolding orient_of centre_of distance_of
own_side = (refl, refl, refl, refl)
