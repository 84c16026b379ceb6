-- The recursion that the dynamic programme computes; that it gives the answer is proved. What functions say to each other; nobody has to believe it.
use Rattle.std.specs.Prelude.{ℕ, zero, suc, ◌+◌, ◌*◌, ◌^◌, cond, Option, None, Some, List, [], ◌∷◌, ◌++◌, map, eqb}
use Rattle.terms.specs.Limits.{max_vertices, max_weight}
use Rattle.lists.specs.Sums.{keep, numbers_from}
use Rattle.triangulation.specs.Triangulations.{Problem, least, long_edge}

-- a key whose total has a row's weight added
abbrev pub add_row : ℕ → List ℕ → List ℕ
add_row w [] = []
add_row w (x ∷ l) = (x + w) ∷ l

-- the key of triangle u of weight w over its two parts
abbrev pub join : ℕ → ℕ → List ℕ → List ℕ → List ℕ
join w u [] k = []
join w u (x ∷ l) [] = []
join w u (x ∷ l) (y ∷ r) = (w + x + y) ∷ u ∷ (l ++ r)

-- above every total: a triangle for each vertex, and a row for each, of the largest weight
abbrev pub max_total : ℕ
max_total = 2 * max_weight * max_vertices

-- stands for the total of 'none': above that
abbrev pub no_total : ℕ
no_total = 2 ^ 63

-- a key's total
abbrev pub cost_of : List ℕ → ℕ
cost_of [] = no_total
cost_of (x ∷ l) = x

-- the same as it is answered: none where there is no key
abbrev pub key_total : List ℕ → Option ℕ
key_total [] = None
key_total (x ∷ l) = Some x

-- a key's triangles
abbrev pub rest_of : List ℕ → List ℕ
rest_of [] = []
rest_of (x ∷ l) = l

module _ (job : Problem) where
  -- the key of triangle u over the best keys beneath its two edges, which the first argument gives
  abbrev pub key_over : (ℕ → ℕ → ℕ → List ℕ) → ℕ → List ℕ
  key_over under u = join (job.weight u) u (under u (job.a u) (job.b u)) (under u (job.b u) (job.c u))

  -- the best key beneath the edge (i, j) of triangle t, with the row to t; the first argument bounds the depth
  unfoldable pub best_under : ℕ → ℕ → ℕ → ℕ → List ℕ
  best_under zero t i j = []
  best_under (suc f) t i j = cond (eqb j (i + 1)) (0 ∷ [])
      (least (map (λ u. add_row (job.row t u) (key_over (best_under f) u)) (keep (long_edge job i j) (numbers_from 0 job.size))))

  -- the best key that starts with triangle u
  unfoldable pub best_from : ℕ → ℕ → List ℕ
  unfolding best_under
  best_from f u = key_over (best_under f) u
