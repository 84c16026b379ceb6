-- The own weight by a candidate's three edges, and what weights are written from. What functions say to each other; nobody has to believe it.
use Rattle.std.specs.Prelude.{◌≡◌, Bool, cond, List, ℕ, ◌+◌, ◌*◌, ◌≤◌, eqb, length, take}
use Rattle.lists.specs.Lists.{both}
use Rattle.polygon.specs.declared.Polygon.{Polygon}
use Rattle.polygon.specs.declared.normal.Normal.{Normal}
use Rattle.polygon.specs.Normal.{no_normal, is_none, normal_at}
use Rattle.geometry.specs.declared.Vector.{Vector}
use Rattle.terms.specs.Limits.{max_area_factor, max_bend_factor}
use Rattle.geometry.specs.Bounds.{max_length, max_bend}
use Rattle.geometry.specs.Faces.{length_of, area_weight_of, bend_between, bend_weight_of}
use Rattle.terms.specs.Entries.{vertex_a, vertex_b, vertex_c}
use Rattle.dihedrals.specs.Dihedrals.{lengths_of}
use Rattle.dihedrals.specs.Lists.{ProperCandidates}
use Rattle.weights.specs.declared.outside.EdgeNormals.{EdgeNormals}
use Rattle.weights.specs.Weights.{vector_of}

-- the normal outside the edge of vertices x < y on a rim of n vertices, of whose normals two are at hand (rules 1.14, 2.14): the edge from x to the next
-- vertex has that of x, the edge from the last vertex to vertex 0 has that of the last, and an edge that is not on the rim has none
unfoldable pub edge_normal : ℕ → ℕ → ℕ → Normal → Normal → Normal
edge_normal n x y ofX ofY = cond (eqb y (x + 1)) ofX (cond (both (eqb x 0) (eqb (y + 1) n)) ofY no_normal)

-- the normals outside the edges of (a, b, c)
abbrev pub edge_normals : ℕ → ℕ → ℕ → ℕ → Normal → Normal → Normal → EdgeNormals
edge_normals n a b c ofA ofB ofC = record { ab = edge_normal n a b ofA ofB; bc = edge_normal n b c ofB ofC; ac = edge_normal n a c ofA ofC }

-- those of a candidate
abbrev pub edges_at : Polygon → ℕ → ℕ → ℕ → EdgeNormals
edges_at p a b c = edge_normals p.n a b c (normal_at p.normals a) (normal_at p.normals b) (normal_at p.normals c)

abbrev pub edges_of : Polygon → List ℕ → EdgeNormals
edges_of p t = edges_at p (vertex_a t) (vertex_b t) (vertex_c t)

abbrev pub all_none : EdgeNormals → Bool
all_none e = both (is_none e.ab) (both (is_none e.bc) (is_none e.ac))

-- the bend weight between a triangle, by its normal, and the surface outside one of its edges: 0 where there is none (rule 2.15)
unfoldable pub outside_weight_of : ℕ → Vector → Normal → ℕ
outside_weight_of factor normal outside = cond (is_none outside) 0 (bend_weight_of factor (bend_between normal (vector_of outside)))

-- the own weight of a triangle with these edges
abbrev pub own_weight_of : ℕ → ℕ → Vector → EdgeNormals → ℕ
own_weight_of area bend normal e =
    area_weight_of area (length_of normal) + outside_weight_of bend normal e.ab + outside_weight_of bend normal e.bc + outside_weight_of bend normal e.ac

-- no own weight is larger: the longest normal at the largest area factor, and a bend at each of three edges (rules 2.8, 2.15)
abbrev pub max_own_weight : ℕ
max_own_weight = max_area_factor * max_length + 3 * (max_bend_factor * max_bend)

-- the candidates, and the lengths of their normals in the first places of the table
abbrev pub WeightsFrom : Polygon → List (List ℕ) → List ℕ → Type 0
WeightsFrom p candidates weights =
    (ProperCandidates p candidates) × (length candidates ≤ length weights) × (take (length candidates) weights ≡ lengths_of p candidates)
