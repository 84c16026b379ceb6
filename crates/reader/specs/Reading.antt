-- The reader's answer: the polygon, or the first number due of 1 to 11, 14, 18 and 20. Definitions only.
use Rattle.std.specs.Prelude.{ℕ, cond, List, Result, Ok, Err, ltb}
use Rattle.codes.specs.Refusals.{or_refused}
use Rattle.codes.specs.declared.Refusal.{Refusal}
use Rattle.terms.specs.Limits.{min_vertices, max_area_factor, count_fits}
use Rattle.polygon.specs.Polygon.{empty_polygon, repeated_vertex}
use Rattle.terms.specs.Numbers.{first_due}
use Rattle.polygon.specs.declared.Polygon.{Polygon}
use Rattle.rim_file.specs.File.{area_factor_of, bend_factor_of, length_wrong}
use Rattle.reader.specs.Chain.{chain_code, vertex_count, vertices_of, normals_of}

-- the first number due on a file, 0 where none is (rule 4.31): of 1 to 11, 18 and 20
unfoldable pub file_code : ℕ → List ℕ → ℕ
file_code limit s =
    cond (length_wrong s) 1
    (cond (ltb max_area_factor (area_factor_of s)) 2
    (first_due (chain_code limit s)
    (cond (ltb (vertex_count s) min_vertices) 10
    (cond (repeated_vertex (vertices_of s (vertex_count s)) (vertex_count s)) 11
    0))))

-- with the limit that the caller asks for (rules 4.14, 4.31): first 14, where it is not from 3 to 64
unfoldable pub number_due : ℕ → List ℕ → ℕ
number_due limit s = cond (count_fits limit) (file_code limit s) 14

-- the polygon of a file on which no number is due (rules 1.8, 1.14)
abbrev pub polygon_of : List ℕ → Polygon
polygon_of s = record {
  n = vertex_count s;
  area_factor = area_factor_of s;
  bend_factor = bend_factor_of s;
  vertices = vertices_of s (vertex_count s);
  normals = normals_of s (vertex_count s);
}

-- what the reader answers (rules 4.30, 5.1): a polygon, or a refusal
abbrev pub Reading : Type 0
Reading = Result Polygon Refusal

-- the polygon where no number is due, else the refusal with the first number due (rule 4.31)
abbrev pub reading_of : ℕ → List ℕ → Reading
reading_of limit s = or_refused (number_due limit s) (polygon_of s)

-- the polygon of an answer (rule 4.30): with a refusal the empty one
abbrev pub polygon_in : Reading → Polygon
polygon_in (Ok p) = p
polygon_in (Err r) = empty_polygon
