-- The Delaunay tetrahedra of a polygon that is not flat: the fours that count, and their faces. Definitions only.
use Rattle.std.specs.Prelude.{Bool, not, ℕ, eqb}
use Rattle.polygon.specs.declared.Polygon.{Polygon}
use Rattle.polygon.specs.Polygon.{vertex}
use Rattle.geometry.specs.Spheres.{coplanar, strictly_inside, on_sphere}
use Rattle.lists.specs.Lists.{both, either, every, some}
use Rattle.faces.specs.Faces.{is_one_of, is_face, some_four}

-- vertex v is strictly inside the sphere through the four (a, b, c, d) (rule 2.2)
abbrev pub inside_four : Polygon → ℕ → ℕ → ℕ → ℕ → ℕ → Bool
inside_four p a b c d v = strictly_inside (vertex p a) (vertex p b) (vertex p c) (vertex p d) (vertex p v)

-- it is on that sphere (rule 2.2)
abbrev pub on_four : Polygon → ℕ → ℕ → ℕ → ℕ → ℕ → Bool
on_four p a b c d v = on_sphere (vertex p a) (vertex p b) (vertex p c) (vertex p d) (vertex p v)

-- the four counts (rule 2.3)
unfoldable pub counts : Polygon → ℕ → ℕ → ℕ → ℕ → Bool
counts p a b c d = both (not (coplanar (vertex p a) (vertex p b) (vertex p c) (vertex p d))) (every 0 p.n (λ v. not (inside_four p a b c d v)))

-- (x, y, z) is a face of a four that counts (rule 2.4)
unfoldable pub is_face_of_four : Polygon → ℕ → ℕ → ℕ → Bool
is_face_of_four p x y z = some_four p.n (λ a b c d. both (is_face a b c d x y z) (counts p a b c d))

-- vertex v is a fifth on the sphere of the four (rule 4.12)
abbrev pub is_fifth : Polygon → ℕ → ℕ → ℕ → ℕ → ℕ → Bool
is_fifth p a b c d v = both (not (either (is_one_of a b c v) (eqb v d))) (on_four p a b c d v)

-- some four that counts has a fifth vertex on its sphere (rule 4.12)
unfoldable pub cospherical : Polygon → Bool
cospherical p = some_four p.n (λ a b c d. both (counts p a b c d) (some 0 p.n (is_fifth p a b c d)))
