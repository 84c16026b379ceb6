-- The lines of a patch (rule 5.4), from its triangles and a job's lists. Definitions only.
use Rattle.std.specs.Prelude.{cond, List, [], ◌∷◌, map, ℕ, ◌+◌, get_or, replicate, Some, None, Ok, Err}
use Rattle.lists.specs.Lists.{filled}
use Rattle.terms.specs.Entries.{entry_at, vertex_a, vertex_b, vertex_c, hangs}
use Rattle.triangulation.specs.Problems.{pair_weight}
use Rattle.triangulator.specs.Call.{Outcome}
use Rattle.patch_lines.specs.declared.Line.{Line}

-- the row weight of the pair that candidate t is the inner of: its outer is the triangle of the patch that t hangs on; 0 where t hangs on none of them,
-- as the first (rule 5.4)
abbrev pub row_under : List (List ℕ) → List (List ℕ) → List ℕ → ℕ → ℕ
row_under candidates rows [] t = 0
row_under candidates rows (o ∷ patch) t =
    cond (hangs (entry_at candidates t) (entry_at candidates o)) (pair_weight rows o t) (row_under candidates rows patch t)

-- the line of candidate t of a patch: a, b, c, its own weight, and that row weight (rule 5.4)
abbrev pub line_of : List (List ℕ) → List ℕ → List (List ℕ) → List ℕ → ℕ → Line
line_of candidates weights rows patch t = record {
  a = vertex_a (entry_at candidates t);
  b = vertex_b (entry_at candidates t);
  c = vertex_c (entry_at candidates t);
  weight = get_or weights t 0;
  row = row_under candidates rows patch t;
}

-- the lines of a patch, one for each of its triangles in walk order (rules 3.8, 5.4)
abbrev pub lines_of : List (List ℕ) → List ℕ → List (List ℕ) → List ℕ → List Line
lines_of candidates weights rows patch = map (line_of candidates weights rows patch) patch

-- a place that no line needs
abbrev pub no_line : Line
no_line = record { a = 0; b = 0; c = 0; weight = 0; row = 0 }

-- as many as a rim of 64 vertices has triangles (rule 5.3)
abbrev pub line_places : ℕ
line_places = 62

-- lines in the first places
abbrev pub in_places : List Line → List Line
in_places lines = filled lines (replicate line_places no_line)

-- the number of vertices on the first line: a patch has two triangles fewer (rules 5.2, 5.4)
abbrev pub vertices_of : Outcome → ℕ
vertices_of (Ok (Some p)) = p.triangles + 2
vertices_of (Ok None) = 0
vertices_of (Err r) = 0
