-- The chain of records, by its positions from 0, and the numbers given along it. Definitions only.
use Rattle.std.specs.Prelude.{ℕ, zero, suc, Bool, false, cond, List, [], ◌∷◌, replicate, ltb, leb, eqb}
use Rattle.lists.specs.Lists.{either, over, filled}
use Rattle.grid.specs.Number.{round_eighths}
use Rattle.terms.specs.Limits.{max_vertices}
use Rattle.polygon.specs.Normal.{no_normal, normal_code}
use Rattle.polygon.specs.Polygon.{origin}
use Rattle.terms.specs.Numbers.{first_due}
use Rattle.polygon.specs.declared.normal.Normal.{Normal}
use Rattle.grid.specs.declared.GridPoint.{GridPoint}
use Rattle.rim_file.specs.File.{first_record, record_count, offset, next_record, kind, third_number}
use Rattle.rim_file.specs.Record.{Height, Vertex, known, height_of, record_at, vertex_of, number_of, point_of, normal_in}
use Rattle.std.specs.Prelude.{None, Some}

-- the link that leads to position i (rule 1.5): the header's first record, or the next record of the one before
unfoldable pub link : List ℕ → ℕ → ℕ
link s zero = first_record s
link s (suc i) = next_record s (offset s (link s i))

-- record k stands at a position before i (rule 4.4)
unfoldable pub met_before : List ℕ → ℕ → ℕ → Bool
met_before s zero k = false
met_before s (suc i) k = either (eqb (link s i) k) (met_before s i k)

-- the grid height of the last point before position i (rule 1.7)
unfoldable pub height_before : List ℕ → ℕ → Height
height_before s zero = None
height_before s (suc i) =
    cond (eqb (kind s (offset s (link s i))) 1) (Some (round_eighths (third_number s (offset s (link s i))))) (height_before s i)

-- the vertex at position i, or the first number due on its record (rule 1.8)
abbrev pub vertex_at_position : List ℕ → ℕ → Vertex
vertex_at_position s i = vertex_of (record_at s (offset s (link s i)) (known (height_before s i))) (height_of (height_before s i))

-- the normal of the record at position i (rule 1.13)
abbrev pub normal_at_position : List ℕ → ℕ → Normal
normal_at_position s i = normal_in s (offset s (link s i))

-- the number of a record that is one too many: 5 at the largest limit, 20 at any other (rules 4.5, 4.20)
abbrev pub over_limit : ℕ → ℕ
over_limit limit = cond (eqb limit max_vertices) 5 20

-- the first number due on the link that leads to position i, 0 where none is (rule 4.31): 3, 4, then 5 or 20
unfoldable pub link_code : ℕ → List ℕ → ℕ → ℕ
link_code limit s i =
    cond (ltb (record_count s) (link s i)) 3
    (cond (met_before s i (link s i)) 4
    (cond (leb limit i) (over_limit limit)
    0))

-- the first number due on the record at position i (rule 4.31): 6 to 9, then 18 on its normal
abbrev pub record_code : List ℕ → ℕ → ℕ
record_code s i = first_due (number_of (vertex_at_position s i)) (normal_code (normal_at_position s i))

-- the first number due at position i (rule 4.31): on the link that leads there, then on the record
unfoldable pub position_code : ℕ → List ℕ → ℕ → ℕ
position_code limit s i = first_due (link_code limit s i) (record_code s i)

-- the first number due from position i on, of k positions, 0 where the chain ends before (rule 4.31)
unfoldable pub code_from : ℕ → List ℕ → ℕ → ℕ → ℕ
code_from limit s i zero = 0
code_from limit s i (suc k) =
    let rest = code_from limit s (suc i) k in
    cond (eqb (link s i) 0) 0 (cond (eqb (position_code limit s i) 0) rest (position_code limit s i))

-- the first position from i on, of k positions, whose link is 0 and ends the chain (rule 1.5)
unfoldable pub end_from : List ℕ → ℕ → ℕ → ℕ
end_from s i zero = i
end_from s i (suc k) =
    let rest = end_from s (suc i) k in
    cond (eqb (link s i) 0) i rest

-- under every limit a link after the last vertex that may be is refused unless it is 0, so that one position more is all (rules 4.5, 4.20)
abbrev pub chain_code : ℕ → List ℕ → ℕ
chain_code limit s = code_from limit s 0 (suc max_vertices)

-- how many vertices the rim has (rule 1.8)
abbrev pub vertex_count : List ℕ → ℕ
vertex_count s = end_from s 0 (suc max_vertices)

-- the first n vertices in the chain's order (rule 1.8), and the origin in the places after them
abbrev pub vertices_of : List ℕ → ℕ → List GridPoint
vertices_of s n = filled (over 0 n (λ i. point_of (vertex_at_position s i) ∷ [])) (replicate max_vertices origin)

-- the normals of the first n vertices (rules 1.13, 1.14), and none in the places after them
abbrev pub normals_of : List ℕ → ℕ → List Normal
normals_of s n = filled (over 0 n (λ i. normal_at_position s i ∷ [])) (replicate max_vertices no_normal)
