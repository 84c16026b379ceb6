-- The sphere as it is computed: points are seen from the first corner, the base. What functions say to each other; nobody has to believe it.
-- The laws of `proofs/Spheres.antt` tie it to the definitions.
use Rattle.std.specs.Prelude.{cond, ℤ, pos, ◌-ℤ◌, ◌*ℤ◌}
use Rattle.std.specs.Int.Signed.{lt_z}
use Rattle.grid.specs.declared.GridPoint.{GridPoint}
use Rattle.geometry.specs.declared.Vector.{Vector}
use Rattle.geometry.specs.declared.sphere.Lifted.{Lifted}
use Rattle.geometry.specs.declared.sphere.Pencil.{Pencil}
use Rattle.geometry.specs.declared.sphere.Sphere.{Sphere}
use Rattle.geometry.specs.declared.sphere.Position.{Position}
use Rattle.geometry.specs.declared.sphere.Position.TheVariants.{Inside, On, Outside}
use Rattle.integers.specs.Order.{equal}
use Rattle.geometry.specs.Vectors.{difference_of, dot_of, cross_of, square_of, scaled_by, plus, minus, opposite}
use Rattle.geometry.specs.Spheres.{strictly_inside, on_sphere}

-- where w lies, by the definitions
unfoldable pub position_of : GridPoint → GridPoint → GridPoint → GridPoint → GridPoint → Position
position_of p q r s w = cond (strictly_inside p q r s w) Inside (cond (on_sphere p q r s w) On Outside)

-- p as seen from the base, with its squared distance: the lifting map
abbrev pub lift_of : GridPoint → GridPoint → Lifted
lift_of base p = record { vector = difference_of p base; square = square_of (difference_of p base) }

-- of the spheres through the base, u and v
abbrev pub pencil_of : Lifted → Lifted → Pencil
pencil_of u v = record { normal = cross_of u.vector v.vector; weighted = minus (scaled_by u.square v.vector) (scaled_by v.square u.vector) }

-- turned so that the orientation is not negative
abbrev pub turned : ℤ → Vector → Sphere
turned o c = cond (lt_z o (pos 0)) (record { orient = pos 0 -ℤ o; centre = opposite c }) (record { orient = o; centre = c })

-- what stands for the sphere of four points in one plane
abbrev pub no_sphere : Sphere
no_sphere = record { orient = pos 0; centre = record { x = pos 0; y = pos 0; z = pos 0 } }

-- the sphere of a pencil that goes through t, where t is not in one plane with the rest
abbrev pub sphere_of : Pencil → Lifted → Sphere
sphere_of k t =
    cond (equal (dot_of k.normal t.vector) (pos 0)) no_sphere
    (turned (dot_of k.normal t.vector) (plus (cross_of k.weighted t.vector) (scaled_by t.square k.normal)))

-- orientation times (the squared distance from the centre, less the squared radius)
abbrev pub power_of : Sphere → Lifted → ℤ
power_of s w = s.orient *ℤ w.square -ℤ dot_of s.centre w.vector

-- where w lies, by the sign of its power
abbrev pub position_by : Sphere → Lifted → Position
position_by s w = cond (lt_z (power_of s w) (pos 0)) Inside (cond (equal (power_of s w) (pos 0)) On Outside)
