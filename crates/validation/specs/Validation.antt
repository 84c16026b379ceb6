-- A list of candidate numbers from elsewhere: what it names, when it is a tiling without repeats, and the number due on it. Definitions only.
use Rattle.std.specs.Prelude.{ℕ, Bool, true, List, [], ◌∷◌, eqb, ltb}
use Rattle.lists.specs.Lists.{both}
use Rattle.jobs.specs.Job.{unless}
use Rattle.lists.specs.Sums.{only, sum, keep, numbers_from}
use Rattle.triangulation.specs.Triangulations.{Problem, is_triangulation, total_weight}

-- how often k stands in a list (rule 3.13)
abbrev pub times : ℕ → List ℕ → ℕ
times k list = sum (λ x. only (eqb x k) 1) list

-- each number of the list is a candidate's, and none stands there twice (rule 3.13)
abbrev pub distinct_candidates : ℕ → List ℕ → Bool
distinct_candidates size [] = true
distinct_candidates size (k ∷ list) = both (ltb k size) (both (eqb (times k list) 0) (distinct_candidates size list))

module _ (job : Problem) where
  -- the set of the candidates that the list names, in whatever order it does (rule 3.13)
  unfoldable pub named : List ℕ → List ℕ
  named list = keep (λ k. ltb 0 (times k list)) (numbers_from 0 job.size)

  -- the list is a tiling without repeats (rule 3.13)
  unfoldable pub is_tiling : List ℕ → Bool
  is_tiling list = both (distinct_candidates job.size list) (is_triangulation job (named list))

  -- the list's total is that of the set (rules 3.4, 3.13)
  unfoldable pub list_total : List ℕ → ℕ
  list_total list = total_weight job (named list)

  -- 21 where it is no such tiling, then 22 where another total is stated, else 0 (rules 4.21, 4.22, 4.36)
  unfoldable pub list_code : List ℕ → ℕ → ℕ
  list_code list stated = unless (is_tiling list) 21 (unless (eqb stated (list_total list)) 22 0)
