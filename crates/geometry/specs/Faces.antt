-- Normals of triangles, their lengths, and the weights that come of them. Definitions only.
use Rattle.std.specs.Prelude.{ℕ, ◌*◌, ℤ, pos, neg_ℤ, nat_abs, ◌-ℤ◌, ◌*ℤ◌}
use Rattle.grid.specs.declared.GridPoint.{GridPoint}
use Rattle.geometry.specs.declared.Vector.{Vector}
use Rattle.integers.specs.Rounding.{floor_root, floor_div, clamped}
use Rattle.geometry.specs.Vectors.{difference_of, dot_of, cross_of, square_of}

-- the normal of (a, b, c) (rule 2.6)
abbrev pub normal_of : GridPoint → GridPoint → GridPoint → Vector
normal_of a b c = cross_of (difference_of b a) (difference_of c a)

-- lengths count quarters: so many to the unit (rule 2.7)
abbrev pub length_scale : ℕ
length_scale = 4

-- so squares of lengths, and products of two, count sixteenths (rules 2.7, 2.10)
abbrev pub square_scale : ℕ
square_scale = length_scale * length_scale

-- the length m of a normal: the whole part of length_scale times the root of its square (rule 2.7)
unfoldable pub length_of : Vector → ℕ
length_of n = floor_root (square_scale * nat_abs (square_of n))

-- the area weight, from the area factor and m (rule 2.8)
abbrev pub area_weight_of : ℕ → ℕ → ℕ
area_weight_of factor m = factor * m

-- ratios and bends count thousandths (rules 2.10, 2.11)
abbrev pub ratio_scale : ℕ
ratio_scale = 1000

-- what the dot product of two normals is multiplied by, to be divided by their lengths (rule 2.10)
abbrev pub dividend_scale : ℕ
dividend_scale = ratio_scale * square_scale

-- the ratio q of two normals, from their dot product d and their lengths (rule 2.10); a candidate's length is above 0
unfoldable pub ratio_of : ℤ → ℕ → ℕ → ℤ
ratio_of d m k = clamped (neg_ℤ (pos ratio_scale)) (pos ratio_scale) (floor_div (pos dividend_scale *ℤ d) (m * k))

-- the bend (rule 2.11)
unfoldable pub bend_of : ℤ → ℕ → ℕ → ℕ
bend_of d m k = nat_abs (pos ratio_scale -ℤ ratio_of d m k)

-- the bend between two normals (rule 2.11)
abbrev pub bend_between : Vector → Vector → ℕ
bend_between n k = bend_of (dot_of n k) (length_of n) (length_of k)

-- the bend weight, from the bend factor and the bend (rule 2.12)
abbrev pub bend_weight_of : ℕ → ℕ → ℕ
bend_weight_of factor bend = factor * bend
