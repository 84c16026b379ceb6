-- The normals of a polygon's candidates, their lengths, and the rows of its hanging pairs. Definitions only.
use Rattle.std.specs.Prelude.{List, [], ◌∷◌, map, ℕ, length}
use Rattle.grid.specs.declared.GridPoint.{GridPoint}
use Rattle.polygon.specs.declared.Polygon.{Polygon}
use Rattle.polygon.specs.Polygon.{vertex_at}
use Rattle.geometry.specs.declared.Vector.{Vector}
use Rattle.geometry.specs.Faces.{normal_of, length_of, bend_between, bend_weight_of}
use Rattle.terms.specs.Entries.{entry_at, vertex_a, vertex_b, vertex_c, hangs}
use Rattle.lists.specs.Lists.{over, when}

-- the normal of candidate t (rule 2.6)
abbrev pub normal_in : List GridPoint → List ℕ → Vector
normal_in vertices t = normal_of (vertex_at vertices (vertex_a t)) (vertex_at vertices (vertex_b t)) (vertex_at vertices (vertex_c t))

abbrev pub face_normal : Polygon → List ℕ → Vector
face_normal p t = normal_in p.vertices t

-- their lengths, one for each candidate (rule 2.7)
abbrev pub lengths_of : Polygon → List (List ℕ) → List ℕ
lengths_of p candidates = map (λ t. length_of (face_normal p t)) candidates

-- the bend weight of inner t and outer u (rule 2.12)
abbrev pub hinge_weight : Polygon → List ℕ → List ℕ → ℕ
hinge_weight p t u = bend_weight_of p.bend_factor (bend_between (face_normal p t) (face_normal p u))

-- the row of outer o and inner i (rule 2.13)
abbrev pub row_at : Polygon → List (List ℕ) → ℕ → ℕ → List ℕ
row_at p candidates o i = o ∷ i ∷ hinge_weight p (entry_at candidates i) (entry_at candidates o) ∷ []

-- the rows of outer o, by rising inner (rule 2.13)
abbrev pub rows_on : Polygon → List (List ℕ) → ℕ → List (List ℕ)
rows_on p candidates o = over 0 (length candidates) (λ i. when (hangs (entry_at candidates i) (entry_at candidates o)) (row_at p candidates o i))

-- one row for each hanging pair, whatever its weight, by rising outer, then inner (rule 2.13)
abbrev pub rows_of : Polygon → List (List ℕ) → List (List ℕ)
rows_of p candidates = over 0 (length candidates) (rows_on p candidates)
