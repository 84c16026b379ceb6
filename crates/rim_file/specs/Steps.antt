-- What the functions of one record return. What functions say to each other; nobody has to believe it.
use Rattle.std.specs.Prelude.{Bool, true, false, cond, ℕ, eqb, ℤ, pos, Result, Ok, Err}
use Rattle.lists.specs.Lists.{both}
use Rattle.grid.specs.Point.{point}
use Rattle.grid.specs.Number.{GridNumber}
use Rattle.grid.specs.declared.OffGrid.TheVariants.{NotFinite, OutOfRange}
use Rattle.codes.specs.Refusals.{refusal}
use Rattle.codes.specs.declared.Refusal.{Refusal}
use Rattle.rim_file.specs.declared.Kind.{Kind}
use Rattle.rim_file.specs.declared.Kind.TheVariants.{Point, Level}
use Rattle.rim_file.specs.Record.{Vertex}

abbrev pub is_finite : GridNumber → Bool
is_finite (Ok g) = true
is_finite (Err NotFinite) = false
is_finite (Err OutOfRange) = true

abbrev pub is_value : GridNumber → Bool
is_value (Ok g) = true
is_value (Err NotFinite) = false
is_value (Err OutOfRange) = false

abbrev pub value_of : GridNumber → ℤ
value_of (Ok g) = g
value_of (Err NotFinite) = pos 0
value_of (Err OutOfRange) = pos 0

-- the vertex of three grid numbers, or 8, or 9
unfoldable pub placed : GridNumber → GridNumber → GridNumber → Vertex
placed x y z =
    cond (both (is_finite x) (both (is_finite y) (is_finite z)))
    (cond (both (is_value x) (both (is_value y) (is_value z)))
    (Ok (point (value_of x) (value_of y) (value_of z)))
    (Err (refusal 9)))
    (Err (refusal 8))

-- what a record's kind names (rules 1.6, 1.7), or 6 (rule 4.6)
abbrev pub kind_of : ℕ → Result Kind Refusal
kind_of k = cond (eqb k 1) (Ok Point) (cond (eqb k 2) (Ok Level) (Err (refusal 6)))
