-- What the steps of the solver say to each other; nobody has to believe it.
use Rattle.std.specs.Prelude.{ℕ, Bool, true, cond, Option, None, Some, List, eqb}
use Rattle.lists.specs.Lists.{filled}
use Rattle.triangulation.specs.Recursion.{cost_of, rest_of}

-- the triangles are listed at a least total: at the agreed one, or at any where none is agreed
abbrev pub lists : Option ℕ → ℕ → Bool
lists None total = true
lists (Some agreed) total = eqb agreed total

-- the triangle table once the totals are known
abbrev pub listed_by : Option ℕ → List ℕ → List ℕ → List ℕ
listed_by agreed key triangles = cond (lists agreed (cost_of key)) (filled (rest_of key) triangles) triangles
