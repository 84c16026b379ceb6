-- Polygons on the grid, and the number due on one that a host built by hand. Definitions only.
use Rattle.std.specs.Prelude.{◌≡◌, Bool, cond, List, ℕ, zero, suc, ◌≤◌, ◌<◌, get_or, replicate, pos, ltb}
use Rattle.terms.specs.Numbers.{first_due}
use Rattle.terms.specs.Limits.{min_vertices, max_vertices, max_area_factor, max_bend_factor}
use Rattle.integers.specs.Order.{equal}
use Rattle.grid.specs.declared.GridPoint.{GridPoint}
use Rattle.grid.specs.Point.{point, PointOnGrid, point_on_grid}
use Rattle.lists.specs.Lists.{both, some}
use Rattle.polygon.specs.declared.Polygon.{Polygon}
use Rattle.polygon.specs.declared.normal.Normal.{Normal}
use Rattle.polygon.specs.Normal.{no_normal, normal_at, normal_code, NormalInRange}

abbrev pub origin : GridPoint
origin = point (pos 0) (pos 0) (pos 0)

-- vertex i, of a list and of a polygon (rule 1.8); past the last it belongs to no vertex
abbrev pub vertex_at : List GridPoint → ℕ → GridPoint
vertex_at vertices i = get_or vertices i origin

abbrev pub vertex : Polygon → ℕ → GridPoint
vertex p i = vertex_at p.vertices i

-- what stands for a polygon in a refusal: no vertex, the origin and no normal at each place (rule 4.30)
abbrev pub empty_polygon : Polygon
empty_polygon =
    record { n = 0; area_factor = 0; bend_factor = 0; vertices = replicate max_vertices origin; normals = replicate max_vertices no_normal }

-- two grid points are one (rule 4.11)
abbrev pub same_point : GridPoint → GridPoint → Bool
same_point p q = both (equal p.x q.x) (both (equal p.y q.y) (equal p.z q.z))

-- two of the first n vertices, i and j with i < j, are at one grid point (rule 4.11)
unfoldable pub repeated_vertex : List GridPoint → ℕ → Bool
repeated_vertex vertices n = some 0 n (λ j. some 0 j (λ i. same_point (vertex_at vertices i) (vertex_at vertices j)))

-- the first number due on vertex i and its normal, 0 for none (rule 4.34): 9, then 18
abbrev pub vertex_code : List GridPoint → List Normal → ℕ → ℕ
vertex_code vertices normals i = cond (point_on_grid (vertex_at vertices i)) (normal_code (normal_at normals i)) 9

-- the first number due on vertices i, i + 1 and so on, k of them (rule 4.34)
unfoldable pub vertices_code_from : List GridPoint → List Normal → ℕ → ℕ → ℕ
vertices_code_from vertices normals i zero = 0
vertices_code_from vertices normals i (suc k) = first_due (vertex_code vertices normals i) (vertices_code_from vertices normals (suc i) k)

-- the first number due on the first n vertices (rule 4.34)
abbrev pub vertices_code : List GridPoint → List Normal → ℕ → ℕ
vertices_code vertices normals n = vertices_code_from vertices normals 0 n

-- the first number due on a polygon, 0 for none (rule 4.34)
unfoldable pub code_of : Polygon → ℕ
unfolding repeated_vertex vertices_code_from
code_of p =
    cond (ltb max_area_factor p.area_factor) 2
    (cond (ltb max_bend_factor p.bend_factor) 2
    (cond (ltb max_vertices p.n) 5
    (first_due (vertices_code p.vertices p.normals p.n)
    (cond (ltb p.n min_vertices) 10
    (cond (repeated_vertex p.vertices p.n) 11 0)))))

-- a polygon on which no number is due (rule 4.34)
pub record ValidPolygon (p : Polygon) : Type 0 where
  pub area_factor : p.area_factor ≤ max_area_factor
  pub bend_factor : p.bend_factor ≤ max_bend_factor
  pub most : p.n ≤ max_vertices
  pub on_grid : (i : ℕ) → i < p.n → PointOnGrid (vertex_at p.vertices i)
  pub normals_in_range : (i : ℕ) → i < p.n → NormalInRange (normal_at p.normals i)
  pub least : min_vertices ≤ p.n
  pub distinct : (i j : ℕ) → i < j → j < p.n → vertex_at p.vertices i ≡ vertex_at p.vertices j → ⊥
