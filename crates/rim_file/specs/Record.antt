-- One record: what it decodes to, its vertex or the first number due on it, and its normal. Definitions only.
use Rattle.std.specs.Prelude.{ℕ, ◌+◌, Bool, true, false, cond, List, [], ◌∷◌, ℤ, pos, eqb, Float, Option, Some, None, Result, Ok, Err}
use Rattle.lists.specs.Sums.{all_of}
use Rattle.grid.specs.Number.{finite, in_range, round_eighths}
use Rattle.grid.specs.Point.{point}
use Rattle.grid.specs.declared.GridPoint.{GridPoint}
use Rattle.polygon.specs.Normal.{normal, no_normal}
use Rattle.polygon.specs.Polygon.{origin}
use Rattle.polygon.specs.declared.normal.Normal.{Normal}
use Rattle.rim_file.specs.File.{i16_at, is_edition2, kind, first_number, second_number, third_number, tail_zero}
use Rattle.codes.specs.Refusals.{refusal, or_refused}
pub use Rattle.codes.specs.Refusals.{number_of}
use Rattle.rim_file.specs.declared.Record.{Record}
use Rattle.rim_file.specs.declared.Record.TheVariants.{Point, Level}
use Rattle.codes.specs.declared.Refusal.{Refusal}

-- the grid height of the last point before a record, where there is one (rule 1.7), and a record's vertex, or the number due on it (rule 4.31)
abbrev pub Height : Type 0
Height = Option ℤ

abbrev pub Vertex : Type 0
Vertex = Result GridPoint Refusal

-- is there a point before, whose height a level point takes? and that height (rule 1.7)
abbrev pub known : Height → Bool
known None = false
known (Some h) = true

abbrev pub height_of : Height → ℤ
height_of None = pos 0
height_of (Some h) = h

-- what the record that starts at i decodes to (rules 1.6, 1.7): a point, a level point, or 6, 7, or 8 for bytes that are not zero
unfoldable pub record_at : List ℕ → ℕ → Bool → Result Record Refusal
record_at s i heightKnown =
    cond (eqb (kind s i) 1)
    (Ok (Point (record { x = first_number s i; y = second_number s i; z = third_number s i })))
    (cond (eqb (kind s i) 2)
    (cond heightKnown
    (cond (tail_zero s i) (Ok (Level (first_number s i) (second_number s i))) (Err (refusal 8)))
    (Err (refusal 7)))
    (Err (refusal 6)))

-- the floats of the record that starts at i (rules 1.6, 1.7): a point has three, a level point two
abbrev pub floats_of : List ℕ → ℕ → List Float
floats_of s i =
    cond (eqb (kind s i) 1) (first_number s i ∷ second_number s i ∷ third_number s i ∷ [])
    (cond (eqb (kind s i) 2) (first_number s i ∷ second_number s i ∷ []) [])

-- the normal of the record that starts at i (rule 1.13): three numbers in edition 2; a record of edition 1 has none
abbrev pub held_normal : List ℕ → ℕ → Normal
held_normal s i = normal (i16_at s (i + 16)) (i16_at s (i + 18)) (i16_at s (i + 20))

unfoldable pub normal_in : List ℕ → ℕ → Normal
normal_in s i = cond (is_edition2 s) (held_normal s i) no_normal

-- the numbers of the normal of the record that starts at i (rule 1.13): three in edition 2, none in edition 1
abbrev pub normal_numbers_of : List ℕ → ℕ → List ℤ
normal_numbers_of s i = cond (is_edition2 s) ((held_normal s i).x ∷ (held_normal s i).y ∷ (held_normal s i).z ∷ []) []

-- 8 where a float of the record is not finite, before 9 where one is out of range (rules 4.8, 4.9, 4.31)
unfoldable pub numbers_code : List Float → ℕ
numbers_code vs = cond (all_of finite vs) (cond (all_of in_range vs) 0 9) 8

-- the vertex of a record (rules 1.6, 1.7, 1.10): a level point has the height h, that of the point before it
unfoldable pub vertex_of : Result Record Refusal → ℤ → Vertex
vertex_of (Ok (Point c)) h = or_refused (numbers_code (c.x ∷ c.y ∷ c.z ∷ [])) (point (round_eighths c.x) (round_eighths c.y) (round_eighths c.z))
vertex_of (Ok (Level x y)) h = or_refused (numbers_code (x ∷ y ∷ [])) (point (round_eighths x) (round_eighths y) h)
vertex_of (Err r) h = Err r

-- the grid point of a record, where no number is due on it (rule 1.8)
abbrev pub point_of : Vertex → GridPoint
point_of (Ok p) = p
point_of (Err r) = origin
