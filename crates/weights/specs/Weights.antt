-- The own weights of a polygon's candidates: their area, and their bends against the surface outside the rim, summed along the rim. Definitions only.
use Rattle.std.specs.Prelude.{Bool, cond, List, map, ℕ, ◌+◌, eqb}
use Rattle.lists.specs.Sums.{sum_below}
use Rattle.lists.specs.Lists.{both, either}
use Rattle.polygon.specs.declared.Polygon.{Polygon}
use Rattle.polygon.specs.declared.normal.Normal.{Normal}
use Rattle.polygon.specs.Normal.{is_none, normal_at}
use Rattle.geometry.specs.declared.Vector.{Vector}
use Rattle.geometry.specs.Faces.{length_of, area_weight_of, bend_between, bend_weight_of}
use Rattle.terms.specs.Entries.{vertex_a, vertex_b, vertex_c}
use Rattle.dihedrals.specs.Dihedrals.{face_normal}

-- the area weight of candidate t (rule 2.8)
abbrev pub area_weight : Polygon → List ℕ → ℕ
area_weight p t = area_weight_of p.area_factor (length_of (face_normal p t))

-- a normal of the rim as a vector (rule 1.13)
abbrev pub vector_of : Normal → Vector
vector_of k = record { x = k.x; y = k.y; z = k.z }

-- the vertex after i on a rim of n vertices: vertex 0 after the last (rule 1.14)
abbrev pub next_vertex : ℕ → ℕ → ℕ
next_vertex n i = cond (eqb (i + 1) n) 0 (i + 1)

-- v is a corner of candidate t (rule 2.14)
abbrev pub is_corner : List ℕ → ℕ → Bool
is_corner t v = either (eqb v (vertex_a t)) (either (eqb v (vertex_b t)) (eqb v (vertex_c t)))

-- the rim edge from vertex i to the next is an edge of candidate t (rule 2.14)
abbrev pub has_rim_edge : ℕ → List ℕ → ℕ → Bool
has_rim_edge n t i = both (is_corner t i) (is_corner t (next_vertex n i))

-- the bend factor times the bend between candidate t and the surface outside the rim edge from vertex i on, 0 where there is none (rule 2.15)
abbrev pub rim_bend : Polygon → List ℕ → ℕ → ℕ
rim_bend p t i =
    cond (is_none (normal_at p.normals i)) 0 (bend_weight_of p.bend_factor (bend_between (face_normal p t) (vector_of (normal_at p.normals i))))

-- the sum over the rim edges of candidate t (rule 2.15)
abbrev pub rim_bends : Polygon → List ℕ → ℕ
rim_bends p t = sum_below p.n (λ i. cond (has_rim_edge p.n t i) (rim_bend p t i) 0)

-- the own weight of candidate t: its area weight, and its bends along the rim (rule 2.15)
abbrev pub own_weight : Polygon → List ℕ → ℕ
own_weight p t = area_weight p t + rim_bends p t

-- the weights, one for each candidate (rule 2.15)
abbrev pub weights_of : Polygon → List (List ℕ) → List ℕ
weights_of p candidates = map (own_weight p) candidates
