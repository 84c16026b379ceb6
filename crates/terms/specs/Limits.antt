-- The limits, each written once. Definitions only.
use Rattle.std.specs.Prelude.{ℕ, Bool, leb}
use Rattle.lists.specs.Lists.{both}

-- the fewest vertices of a rim (rule 4.10) and of a direct job (rule 4.14)
abbrev pub min_vertices : ℕ
min_vertices = 3

-- the most vertices of a rim (rule 4.5) and of a direct job (rule 4.14), and the largest limit that a caller can ask for (rule 4.14)
abbrev pub max_vertices : ℕ
max_vertices = 64

-- the most vertices that the trim program takes (rule 5.9)
abbrev pub trim_vertices : ℕ
trim_vertices = 24

-- the n of a direct job, or a limit, is from 3 to 64 (rule 4.14)
abbrev pub count_fits : ℕ → Bool
count_fits n = both (leb min_vertices n) (leb n max_vertices)

-- the triples of 64 vertices, 64 * 63 * 62 / 6: there are no more candidates (rule 2.4)
abbrev pub max_triples : ℕ
max_triples = 41664

-- the largest area factor (rule 4.2)
abbrev pub max_area_factor : ℕ
max_area_factor = 16

-- the largest bend factor, which the 16 bits of rule 1.2 can hold (rule 4.34)
abbrev pub max_bend_factor : ℕ
max_bend_factor = 65535

-- the largest weight (rule 4.17)
abbrev pub max_weight : ℕ
max_weight = 2000000000
