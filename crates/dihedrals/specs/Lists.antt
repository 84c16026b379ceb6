-- What functions ask of a list of candidates and say to each other; nobody has to believe it.
use Rattle.std.specs.Prelude.{List, ◌≡◌, ℕ, ◌≤◌, ◌<◌, length}
use Rattle.polygon.specs.declared.Polygon.{Polygon}
use Rattle.polygon.specs.Polygon.{vertex_at, ValidPolygon}
use Rattle.grid.specs.declared.GridPoint.{GridPoint}
use Rattle.grid.specs.Point.{PointOnGrid}
use Rattle.terms.specs.Limits.{max_vertices}
use Rattle.geometry.specs.declared.Vector.{Vector}
use Rattle.geometry.specs.Bounds.{max_normal, Within}
use Rattle.geometry.specs.Faces.{length_of}
use Rattle.terms.specs.Entries.{entry_at, vertex_a, vertex_b, vertex_c}
use Rattle.blocks.specs.Blocks.{Starts}
use Rattle.hinges.specs.Hinges.{Sorted}
use Rattle.dihedrals.specs.Dihedrals.{face_normal, lengths_of, rows_of}

-- a triple of the polygon's vertices
pub record Corners (p : Polygon) (t : List ℕ) : Type 0 where
  pub a<n : vertex_a t < p.n
  pub b<n : vertex_b t < p.n
  pub c<n : vertex_c t < p.n

-- the corners of a triple have places, and are on the grid
pub record CornersOnGrid (vertices : List GridPoint) (t : List ℕ) : Type 0 where
  pub a_place : vertex_a t < max_vertices
  pub b_place : vertex_b t < max_vertices
  pub c_place : vertex_c t < max_vertices
  pub a_on_grid : PointOnGrid (vertex_at vertices (vertex_a t))
  pub b_on_grid : PointOnGrid (vertex_at vertices (vertex_b t))
  pub c_on_grid : PointOnGrid (vertex_at vertices (vertex_c t))

-- candidates of a valid polygon, none of them with its corners on one line
pub record ProperCandidates (p : Polygon) (candidates : List (List ℕ)) : Type 0 where
  pub valid : ValidPolygon p
  pub sorted : Sorted candidates
  pub corners : (i : ℕ) → i < length candidates → Corners p (entry_at candidates i)
  pub normals : (i : ℕ) → i < length candidates → 0 < length_of (face_normal p (entry_at candidates i))

-- a normal whose length m is not 0
pub record Measured (normal : Vector) (m : ℕ) : Type 0 where
  pub within : Within max_normal normal
  pub is : m ≡ length_of normal
  pub above_0 : 0 < m

-- what the rows are written from: the candidates, where their blocks start, the lengths of their normals, and room for the rows
abbrev pub RowsFrom : Polygon → List (List ℕ) → List ℕ → List ℕ → List (List ℕ) → Type 0
RowsFrom p candidates starts lengths out =
    (ProperCandidates p candidates) × (Starts candidates starts) × (lengths ≡ lengths_of p candidates) × (length (rows_of p candidates) ≤ length out)
