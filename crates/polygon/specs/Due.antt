-- The numbers due on a polygon that a host built by hand (rule 4.34), each by itself and at its place, and which of two comes first. Definitions only.
use Rattle.std.specs.Prelude.{◌≡◌, ℕ, ◌<◌}
use Rattle.terms.specs.Limits.{min_vertices, max_vertices, max_area_factor, max_bend_factor}
use Rattle.terms.specs.Order as order
use Rattle.grid.specs.Point.{PointOnGrid}
use Rattle.polygon.specs.declared.Polygon.{Polygon}
use Rattle.polygon.specs.Normal.{normal_at, NormalInRange}
use Rattle.polygon.specs.Polygon.{vertex_at}

-- a number is due on the factors and the count of vertices, on a vertex with its normal, or on the rim as a whole (rule 4.34)
pub data PolygonPlace : Type 0 where
  header : PolygonPlace
  vertex : ℕ → PolygonPlace
  rim : PolygonPlace

-- one place comes before another (rule 4.34): the factors and the count, each vertex in turn, the rim
pub data PolygonBefore : PolygonPlace → PolygonPlace → Type 0 where
  header_vertex : {i : ℕ} → PolygonBefore header (vertex i)
  header_rim : PolygonBefore header rim
  vertex_vertex : {h i : ℕ} → h < i → PolygonBefore (vertex h) (vertex i)
  vertex_rim : {i : ℕ} → PolygonBefore (vertex i) rim

-- k is the first of the numbers that are due (rule 4.34)
abbrev pub First : (PolygonPlace → ℕ → Type 0) → ℕ → Type 0
First = order.First PolygonBefore

-- number k is due on a polygon; constructor by constructor: 2 for the area factor and for a bend factor that no file can hold, 5, 9, 18, 10, 11 (rule 4.34)
pub data PolygonDue (p : Polygon) : PolygonPlace → ℕ → Type 0 where
  area_factor : max_area_factor < p.area_factor → PolygonDue p header 2
  bend_factor : max_bend_factor < p.bend_factor → PolygonDue p header 2
  too_many : max_vertices < p.n → PolygonDue p header 5
  off_grid : {i : ℕ} → i < p.n → (PointOnGrid (vertex_at p.vertices i) → ⊥) → PolygonDue p (vertex i) 9
  normal_out_of_range : {i : ℕ} → i < p.n → (NormalInRange (normal_at p.normals i) → ⊥) → PolygonDue p (vertex i) 18
  too_few : p.n < min_vertices → PolygonDue p rim 10
  vertex_repeated : {i j : ℕ} → i < j → j < p.n → vertex_at p.vertices i ≡ vertex_at p.vertices j → PolygonDue p rim 11
