-- What contracts see of a lifted point, a pencil and a sphere: all their numbers, as integers. Definitions only.
use Rattle.std.specs.Prelude.{ℤ}
use Rattle.geometry.specs.declared.Vector.{Vector}

-- a point as seen from the base, with its squared distance (rule 2.2)
pub record LiftedValue : Type 0 where
  pub vector : Vector
  pub square : ℤ

-- what all spheres through the base and two more points share (rule 2.2)
pub record PencilValue : Type 0 where
  pub normal : Vector
  pub weighted : Vector

-- a sphere through the base and three more points (rule 2.2)
pub record SphereValue : Type 0 where
  pub orient : ℤ
  pub centre : Vector
