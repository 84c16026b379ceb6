-- A direct job on whose patch as many parts wait at once as on any (rule 3.12). Definitions only.
use Rattle.std.specs.Prelude.{ℕ, ◌+◌, ◌*◌, List, [], ◌∷◌, ◌++◌, map, reverse, replicate}
use Rattle.terms.specs.Limits.{max_vertices}
use Rattle.terms.specs.Entries.{triple}
use Rattle.lists.specs.Sums.{numbers_from}
use Rattle.triangulation.specs.Triangulations.{Problem}
use Rattle.triangulation.specs.Problems.{problem_from}

-- (0, 1, 3); then (0, 3, 5), .. , (0, 61, 63); and on the right of each (1, 2, 3), .. , (61, 62, 63)
unfoldable pub comb : List (List ℕ)
comb =
    triple 0 1 3
    ∷ (map (λ k. triple 0 (2 * k + 1) (2 * k + 3)) (numbers_from 1 30) ++ map (λ k. triple (2 * k + 1) (2 * k + 2) (2 * k + 3)) (numbers_from 0 31))

-- each weighs 1
unfoldable pub ones : List ℕ
ones = replicate 62 1

-- there are no rows
abbrev pub comb_job : Problem
comb_job = problem_from max_vertices comb ones []

-- walk order: the long ones from the last to the first, then those on their right
unfoldable pub comb_walk : List ℕ
comb_walk = reverse (numbers_from 0 31) ++ numbers_from 31 31
