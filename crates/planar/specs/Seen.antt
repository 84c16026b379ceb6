-- The circle as it is computed: seen from the first corner, the base, along an axis. What functions say to each other; nobody has to believe it.
-- The laws of `proofs/Seen.antt` tie it to the definitions.
use Rattle.std.specs.Prelude.{◌≡◌, ◌⊎◌, cond, ℤ, pos}
use Rattle.grid.specs.declared.GridPoint.{GridPoint}
use Rattle.geometry.specs.declared.Vector.{Vector}
use Rattle.geometry.specs.declared.sphere.Lifted.{Lifted}
use Rattle.geometry.specs.declared.sphere.Sphere.{Sphere}
use Rattle.geometry.specs.declared.sphere.Position.{Position}
use Rattle.geometry.specs.declared.sphere.Position.TheVariants.{Inside, On, Outside}
use Rattle.integers.specs.Order.{equal}
use Rattle.geometry.specs.Vectors.{dot_of, cross_of, square_of}
use Rattle.geometry.specs.Lifting.{pencil_of, sphere_of}
use Rattle.planar.specs.Circles.{strictly_inside_circle, on_circle}

-- where w, a point of the plane of p, q and r, lies by the definitions
unfoldable pub position_in_plane : GridPoint → GridPoint → GridPoint → GridPoint → Position
position_in_plane p q r w = cond (strictly_inside_circle p q r w) Inside (cond (on_circle p q r w) On Outside)

abbrev pub vector : ℤ → ℤ → ℤ → Vector
vector x y z = record { x = x; y = y; z = z }

-- the directions of the three axes
abbrev pub axis_x : Vector
axis_x = vector (pos 1) (pos 0) (pos 0)

abbrev pub axis_y : Vector
axis_y = vector (pos 0) (pos 1) (pos 0)

abbrev pub axis_z : Vector
axis_z = vector (pos 0) (pos 0) (pos 1)

-- e is the direction of an axis along which n does not vanish, unless n is 0; along the axes before it n vanishes
pub record Across (n e : Vector) : Type 0 where
  pub along : dot_of n e ≡ pos 0 → square_of n ≡ pos 0
  pub first : (e ≡ axis_x) ⊎ (((n.x ≡ pos 0) × (e ≡ axis_y)) ⊎ ((n.x ≡ pos 0) × (n.y ≡ pos 0) × (e ≡ axis_z)))

-- such an axis
abbrev pub axis_across : Vector → Vector
axis_across n = cond (equal n.x (pos 0)) (cond (equal n.y (pos 0)) axis_z axis_y) axis_x

-- the circle through the base, u and v, as a sphere whose fourth corner is the direction of that axis: a direction has no square
abbrev pub circle_of : Lifted → Lifted → Sphere
circle_of u v = sphere_of (pencil_of u v) (record { vector = axis_across (cross_of u.vector v.vector); square = pos 0 })
