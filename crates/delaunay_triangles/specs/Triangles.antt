-- The Delaunay triangles of a flat polygon: the threes that count. Definitions only.
use Rattle.std.specs.Prelude.{Bool, not, ℕ}
use Rattle.polygon.specs.declared.Polygon.{Polygon}
use Rattle.polygon.specs.Polygon.{vertex}
use Rattle.planar.specs.Circles.{collinear, strictly_inside_circle, on_circle}
use Rattle.lists.specs.Lists.{both, every, some}
use Rattle.faces.specs.Faces.{same_triple, is_one_of, some_three}

-- vertex v is strictly inside the circle through the three (a, b, c) of a flat rim (rule 2.18)
abbrev pub inside_three : Polygon → ℕ → ℕ → ℕ → ℕ → Bool
inside_three p a b c v = strictly_inside_circle (vertex p a) (vertex p b) (vertex p c) (vertex p v)

-- it is on that circle (rule 2.18)
abbrev pub on_three : Polygon → ℕ → ℕ → ℕ → ℕ → Bool
on_three p a b c v = on_circle (vertex p a) (vertex p b) (vertex p c) (vertex p v)

-- the three of a flat rim counts (rule 2.19)
unfoldable pub counts_in_plane : Polygon → ℕ → ℕ → ℕ → Bool
counts_in_plane p a b c = both (not (collinear (vertex p a) (vertex p b) (vertex p c))) (every 0 p.n (λ v. not (inside_three p a b c v)))

-- (x, y, z) is a three that counts (rule 2.4)
unfoldable pub is_counted_three : Polygon → ℕ → ℕ → ℕ → Bool
is_counted_three p x y z = some_three p.n (λ a b c. both (same_triple a b c x y z) (counts_in_plane p a b c))

-- vertex v is a fourth on the circle of the three (rule 4.12)
abbrev pub is_fourth : Polygon → ℕ → ℕ → ℕ → ℕ → Bool
is_fourth p a b c v = both (not (is_one_of a b c v)) (on_three p a b c v)

-- some three that counts has a fourth vertex on its circle (rule 4.12)
unfoldable pub cocircular : Polygon → Bool
cocircular p = some_three p.n (λ a b c. both (counts_in_plane p a b c) (some 0 p.n (is_fourth p a b c)))
