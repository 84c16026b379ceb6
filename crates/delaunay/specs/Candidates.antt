-- The candidates of a polygon: the faces of its Delaunay tetrahedra or, where it is flat, its Delaunay triangles. Definitions only.
use Rattle.std.specs.Prelude.{Bool, not, cond, List, ℕ}
use Rattle.polygon.specs.declared.Polygon.{Polygon}
use Rattle.polygon.specs.Polygon.{vertex}
use Rattle.geometry.specs.Spheres.{coplanar}
use Rattle.faces.specs.Faces.{some_four, triples_of}
use Rattle.delaunay_tetrahedra.specs.Tetrahedra.{is_face_of_four, cospherical}
use Rattle.delaunay_triangles.specs.Triangles.{is_counted_three, cocircular}

-- the rim is flat (rule 2.5): each four of its vertices is in one plane. That is so exactly when some plane holds them all: proofs/Flat.antt
unfoldable pub is_flat : Polygon → Bool
is_flat p = not (some_four p.n (λ a b c d. not (coplanar (vertex p a) (vertex p b) (vertex p c) (vertex p d))))

-- (x, y, z) is a candidate (rule 2.4)
unfoldable pub is_candidate : Polygon → ℕ → ℕ → ℕ → Bool
is_candidate p x y z = cond (is_flat p) (is_counted_three p x y z) (is_face_of_four p x y z)

-- the candidates, in order (rule 2.4)
abbrev pub candidates_of : Polygon → List (List ℕ)
candidates_of p = triples_of p.n (is_candidate p)

-- 12 is due (rule 4.12)
unfoldable pub degenerate : Polygon → Bool
degenerate p = cond (is_flat p) (cocircular p) (cospherical p)
