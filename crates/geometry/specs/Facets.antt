-- A triangle between two points: when it is a face of no empty sphere. What functions say to each other; nobody has to believe it.
use Rattle.std.specs.Prelude.{Bool, true, false, cond, ℤ, pos}
use Rattle.std.specs.Int.Signed.{lt_z, le_z}
use Rattle.grid.specs.declared.GridPoint.{GridPoint}
use Rattle.geometry.specs.declared.sphere.Lifted.{Lifted}
use Rattle.geometry.specs.declared.sphere.Pencil.{Pencil}
use Rattle.geometry.specs.declared.sphere.Position.{Position}
use Rattle.geometry.specs.declared.sphere.Position.TheVariants.{Inside, On, Outside}
use Rattle.geometry.specs.Vectors.{dot_of}
use Rattle.geometry.specs.Spheres.{orient_of}
use Rattle.geometry.specs.Lifting.{sphere_of, position_by}

-- i is not 0, and j is 0 or has the other sign
abbrev pub opposed : ℤ → ℤ → Bool
opposed i j = cond (lt_z i (pos 0)) (le_z (pos 0) j) (cond (lt_z (pos 0) i) (le_z j (pos 0)) false)

-- the plane of p, q and r separates w from s: s is off it, and w is in it or on its other side
abbrev pub separates : GridPoint → GridPoint → GridPoint → GridPoint → GridPoint → Bool
separates p q r s w = opposed (orient_of p q r s) (orient_of p q r w)

-- the same, as computed
abbrev pub separates_by : Pencil → Lifted → Lifted → Bool
separates_by k s w = opposed (dot_of k.normal s.vector) (dot_of k.normal w.vector)

abbrev pub is_inside : Position → Bool
is_inside Inside = true
is_inside On = false
is_inside Outside = false

-- the plane separates w from s, and w is strictly inside the sphere through s: the triangle is not locally Delaunay between the two
abbrev pub refuted_by : Pencil → Lifted → Lifted → Bool
refuted_by k s w = cond (separates_by k s w) (is_inside (position_by (sphere_of k s) w)) false
