-- How large the numbers of the geometry can be, so that they fit i64. What functions say to each other; nobody has to believe it.
use Rattle.std.specs.Prelude.{ℕ, ◌+◌, ◌*◌, ◌/◌, ℤ, ◌*ℤ◌}
use Rattle.integers.specs.Bounds.{AtMost, largest}
use Rattle.geometry.specs.declared.Vector.{Vector}
use Rattle.geometry.specs.declared.sphere.Lifted.{Lifted}
use Rattle.geometry.specs.declared.sphere.Pencil.{Pencil}
use Rattle.geometry.specs.declared.sphere.Sphere.{Sphere}
use Rattle.geometry.specs.Vectors.{scaled_by, plus, minus}
use Rattle.geometry.specs.Faces.{ratio_scale, dividend_scale}

-- a coordinate of a difference of two grid points, from -1000 to 1000 each (rule 1.11)
abbrev pub max_difference : ℕ
max_difference = 2000

-- a squared distance: three squares
abbrev pub max_square : ℕ
max_square = 3 * (max_difference * max_difference)

-- a coordinate of a normal: two products of differences
abbrev pub max_normal : ℕ
max_normal = 2 * (max_difference * max_difference)

-- a dot product of two normals
abbrev pub max_dot : ℕ
max_dot = 3 * (max_normal * max_normal)

-- the length of a normal: the whole root of max_dot in the scale of squares (`root_of_all` of proofs/Cases.antt)
abbrev pub max_length : ℕ
max_length = 55425625

-- what a ratio divides (rule 2.10)
abbrev pub max_ratio_dividend : ℕ
max_ratio_dividend = dividend_scale * max_dot

-- a bend (rule 2.11)
abbrev pub max_bend : ℕ
max_bend = 2 * ratio_scale

-- an orientation: the dot product of a normal and a difference
abbrev pub max_orient : ℕ
max_orient = 3 * (max_normal * max_difference)

-- a coordinate of |u|² v - |v|² u
abbrev pub max_weighted : ℕ
max_weighted = 2 * (max_square * max_difference)

-- a coordinate of its cross product with a difference
abbrev pub max_crossed : ℕ
max_crossed = 2 * (max_weighted * max_difference)

-- a coordinate of a centre: that, and a squared distance times a normal
abbrev pub max_centre : ℕ
max_centre = max_crossed + max_square * max_normal

-- each coordinate is at most n away from 0
pub record Within (n : ℕ) (v : Vector) : Type 0 where
  pub in_x : AtMost n v.x
  pub in_y : AtMost n v.y
  pub in_z : AtMost n v.z

pub record LiftedBounds (p : Lifted) : Type 0 where
  pub vector_in : Within max_difference p.vector
  pub square_in : AtMost max_square p.square

pub record PencilBounds (k : Pencil) : Type 0 where
  pub normal_in : Within max_normal k.normal
  pub weighted_in : Within max_weighted k.weighted

pub record SphereBounds (s : Sphere) : Type 0 where
  pub orient_in : AtMost max_orient s.orient
  pub centre_in : Within max_centre s.centre

-- the sum, the difference and the multiple of vectors can be computed in i64
pub record SumFits (u v : Vector) : Type 0 where
  pub left : Within largest u
  pub right : Within largest v
  pub sum_in : Within largest (plus u v)

pub record DifferenceFits (u v : Vector) : Type 0 where
  pub left : Within largest u
  pub right : Within largest v
  pub difference_in : Within largest (minus u v)

pub record ScaleFits (k : ℤ) (v : Vector) : Type 0 where
  pub factor_in : AtMost largest k
  pub vector_in : Within largest v
  pub product_in : Within largest (scaled_by k v)

-- three products of this size add up to an i64
abbrev pub third : ℕ
third = largest / 3

-- the dot product and the cross product can be computed in i64
pub record ProductsFit (u v : Vector) : Type 0 where
  pub left : Within largest u
  pub right : Within largest v
  pub xx : AtMost third (u.x *ℤ v.x)
  pub yy : AtMost third (u.y *ℤ v.y)
  pub zz : AtMost third (u.z *ℤ v.z)
  pub yz : AtMost third (u.y *ℤ v.z)
  pub zy : AtMost third (u.z *ℤ v.y)
  pub zx : AtMost third (u.z *ℤ v.x)
  pub xz : AtMost third (u.x *ℤ v.z)
  pub xy : AtMost third (u.x *ℤ v.y)
  pub yx : AtMost third (u.y *ℤ v.x)
