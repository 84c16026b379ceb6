-- Vectors of terms, for the ring solver: each operation as that of `specs/Vectors.antt`. Assumes nothing.
use Prim.Native.Nat.{ℕ, ◌+◌}
use mathlib.Core.List.{List, [], ◌∷◌}
use lib.IntN.{ℤ, pos}
use Rattle.grid.specs.declared.GridPoint.{GridPoint}
use Rattle.geometry.specs.declared.Vector.{Vector}
use Rattle.integers.proofs.Ring.{E, var, con, ◌:+◌, ◌:-◌, ◌:*◌}

pub record VectorE : Type 0 where
  pub X : E
  pub Y : E
  pub Z : E

-- three variables in a row
abbrev pub vec : ℕ → VectorE
vec i = record { X = var i; Y = var (i + 1); Z = var (i + 2) }

abbrev pub dot_e : VectorE → VectorE → E
dot_e u v = u.X :* v.X :+ u.Y :* v.Y :+ u.Z :* v.Z

abbrev pub cross_e : VectorE → VectorE → VectorE
cross_e u v = record { X = u.Y :* v.Z :- u.Z :* v.Y; Y = u.Z :* v.X :- u.X :* v.Z; Z = u.X :* v.Y :- u.Y :* v.X }

abbrev pub scaled_e : E → VectorE → VectorE
scaled_e k v = record { X = k :* v.X; Y = k :* v.Y; Z = k :* v.Z }

abbrev pub plus_e : VectorE → VectorE → VectorE
plus_e u v = record { X = u.X :+ v.X; Y = u.Y :+ v.Y; Z = u.Z :+ v.Z }

abbrev pub minus_e : VectorE → VectorE → VectorE
minus_e u v = record { X = u.X :- v.X; Y = u.Y :- v.Y; Z = u.Z :- v.Z }

abbrev pub opposite_e : VectorE → VectorE
opposite_e v = record { X = con (pos 0) :- v.X; Y = con (pos 0) :- v.Y; Z = con (pos 0) :- v.Z }

-- of four points, the first at 0: orientation, and centre times twice that
abbrev pub orient_e : VectorE → VectorE → VectorE → E
orient_e u v t = dot_e u (cross_e v t)

abbrev pub centre_e : VectorE → VectorE → VectorE → VectorE
centre_e u v t = plus_e (plus_e (scaled_e (dot_e u u) (cross_e v t)) (scaled_e (dot_e v v) (cross_e t u))) (scaled_e (dot_e t t) (cross_e u v))

-- the squared distance of v from a centre, times the factors of `distance_of`
abbrev pub distance_e : E → VectorE → VectorE → E
distance_e o c v = let w = minus_e (scaled_e (con (pos 2) :* o) v) c in dot_e w w

-- ---- the values of the variables

abbrev pub of_vectors : Vector → Vector → Vector → List ℤ
of_vectors u v t = u.x ∷ u.y ∷ u.z ∷ v.x ∷ v.y ∷ v.z ∷ t.x ∷ t.y ∷ t.z ∷ []

abbrev pub of_points : GridPoint → GridPoint → GridPoint → GridPoint → List ℤ
of_points p q r s = p.x ∷ p.y ∷ p.z ∷ q.x ∷ q.y ∷ q.z ∷ r.x ∷ r.y ∷ r.z ∷ s.x ∷ s.y ∷ s.z ∷ []
