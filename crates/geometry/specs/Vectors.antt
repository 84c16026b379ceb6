-- Vectors over ℤ and their products. Definitions only.
use Rattle.std.specs.Prelude.{ℤ, pos, ◌+ℤ◌, ◌-ℤ◌, ◌*ℤ◌}
use Rattle.grid.specs.declared.GridPoint.{GridPoint}
use Rattle.geometry.specs.declared.Vector.{Vector}

-- from the point q to the point p (rule 2.6)
abbrev pub difference_of : GridPoint → GridPoint → Vector
difference_of p q = record { x = p.x -ℤ q.x; y = p.y -ℤ q.y; z = p.z -ℤ q.z }

-- the dot product (rule 2.10)
abbrev pub dot_of : Vector → Vector → ℤ
dot_of u v = u.x *ℤ v.x +ℤ u.y *ℤ v.y +ℤ u.z *ℤ v.z

-- the cross product (rule 2.6)
abbrev pub cross_of : Vector → Vector → Vector
cross_of u v = record { x = u.y *ℤ v.z -ℤ u.z *ℤ v.y; y = u.z *ℤ v.x -ℤ u.x *ℤ v.z; z = u.x *ℤ v.y -ℤ u.y *ℤ v.x }

-- the square of the Euclidean length (rule 2.7)
abbrev pub square_of : Vector → ℤ
square_of v = dot_of v v

-- (rules 2.11, 2.17)
abbrev pub zero_vector : Vector
zero_vector = record { x = pos 0; y = pos 0; z = pos 0 }

abbrev pub scaled_by : ℤ → Vector → Vector
scaled_by k v = record { x = k *ℤ v.x; y = k *ℤ v.y; z = k *ℤ v.z }

abbrev pub plus : Vector → Vector → Vector
plus u v = record { x = u.x +ℤ v.x; y = u.y +ℤ v.y; z = u.z +ℤ v.z }

abbrev pub minus : Vector → Vector → Vector
minus u v = record { x = u.x -ℤ v.x; y = u.y -ℤ v.y; z = u.z -ℤ v.z }

abbrev pub opposite : Vector → Vector
opposite v = record { x = pos 0 -ℤ v.x; y = pos 0 -ℤ v.y; z = pos 0 -ℤ v.z }
