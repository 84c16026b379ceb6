-- What a tiling is, and which one is the answer (rules 3.1 to 3.7). Definitions only.
-- A tiling is called a triangulation here, and walk order preorder.
use Rattle.std.specs.Prelude.{ℕ, zero, suc, ◌+◌, ◌-◌, ◌≤◌, ◌<◌, Bool, true, false, cond, List, [], ◌∷◌, ◌++◌, map, eqb}
use Rattle.lists.specs.Lists.{both, either, every}
use Rattle.terms.specs.Entries.{lexicographic}
use Rattle.lists.specs.Sums.{only, sum, keep, joined, numbers_from}

-- A problem has n vertices and `size` candidates, numbered from 0 (rule 3.1). Candidate k is the triangle (a k, b k, c k) and weighs `weight k`.
-- `row o i` is the weight of the row with outer o and inner i, and 0 where there is none (rule 3.4).
pub record Problem : Type 0 where
  pub n : ℕ
  pub size : ℕ
  pub a : ℕ → ℕ
  pub b : ℕ → ℕ
  pub c : ℕ → ℕ
  pub weight : ℕ → ℕ
  pub row : ℕ → ℕ → ℕ

-- what the theorems ask of a problem: at least three vertices, and a < b < c < n for each candidate; an accepted job and a rim's have it (rules 4.14, 4.15)
pub record ValidProblem (job : Problem) : Type 0 where
  pub n3 : 3 ≤ job.n
  pub ab : (k : ℕ) → k < job.size → job.a k < job.b k
  pub bc : (k : ℕ) → k < job.size → job.b k < job.c k
  pub cn : (k : ℕ) → k < job.size → job.c k < job.n

-- 'none', or a patch with its total and its triangles (candidate numbers) in preorder (rule 3.7)
pub data Answer : Type 0 where
  none : Answer
  patch : ℕ → List ℕ → Answer

-- the subsets of a list, each in the list's order (rule 3.3)
abbrev pub subsets : List ℕ → List (List ℕ)
subsets [] = [] ∷ []
subsets (x ∷ xs) = map (λ s. x ∷ s) (subsets xs) ++ subsets xs

-- whether xs is ys, or has the smaller number where the two first differ (rule 3.6); the empty list stands for 'none' and comes last
abbrev pub no_later : List ℕ → List ℕ → Bool
no_later xs [] = true
no_later [] (y ∷ ys) = false
no_later (x ∷ xs) (y ∷ ys) = lexicographic x y (no_later xs ys)

-- the first in that order, or [] of no list (rule 3.7)
abbrev pub least : List (List ℕ) → List ℕ
least [] = []
least (x ∷ xs) = cond (no_later x (least xs)) x (least xs)

-- an answer from its total and then its triangles (rule 3.7)
abbrev pub answer_of : List ℕ → Answer
answer_of [] = none
answer_of (x ∷ l) = patch x l

module _ (job : Problem) where
  -- (i, j) is an edge of candidate k, with the third vertex between i and j (rule 3.3)
  abbrev pub long_edge : ℕ → ℕ → ℕ → Bool
  long_edge i j k = both (eqb (job.a k) i) (eqb (job.c k) j)

  -- (i, j) is an edge of candidate k, with the third vertex outside i to j (rule 3.3)
  abbrev pub short_edge : ℕ → ℕ → ℕ → Bool
  short_edge i j k = either (both (eqb (job.a k) i) (eqb (job.b k) j)) (both (eqb (job.b k) i) (eqb (job.c k) j))

  -- how many candidates of s have the edge (i, j), with the third vertex between (rule 3.3)
  unfoldable pub count_between : List ℕ → ℕ → ℕ → ℕ
  count_between s i j = sum (λ k. only (long_edge i j k) 1) s

  -- how many candidates of s have the edge (i, j), with the third vertex outside (rule 3.3)
  unfoldable pub count_outside : List ℕ → ℕ → ℕ → ℕ
  count_outside s i j = sum (λ k. only (short_edge i j k) 1) s

  -- a rim edge (rule 3.2)
  abbrev pub is_boundary : ℕ → ℕ → Bool
  is_boundary i j = either (eqb j (i + 1)) (both (eqb i 0) (eqb j (job.n - 1)))

  -- an edge with x triangles on the one side and y on the other: a rim edge has one in all, any other has none, or one on each side (rule 3.3)
  abbrev pub edge_ok : Bool → ℕ → ℕ → Bool
  edge_ok true x y = eqb (x + y) 1
  edge_ok false x y = either (eqb (x + y) 0) (both (eqb x 1) (eqb y 1))

  -- a set s of candidates is a triangulation: so it is for every edge (i, j), i < j < n (rule 3.3)
  unfoldable pub is_triangulation : List ℕ → Bool
  is_triangulation s = every 0 job.n (λ j. every 0 j (λ i. edge_ok (is_boundary i j) (count_between s i j) (count_outside s i j)))

  -- the total: for each triangle o its weight, and the row weight of each triangle i of s that hangs on it (rules 2.9, 3.4)
  unfoldable pub total_weight : List ℕ → ℕ
  total_weight s = sum (λ o. job.weight o + sum (λ i. only (short_edge (job.a i) (job.c i) o) (job.row o i)) s) s

  -- the triangles of s from i to j in preorder: the triangle (i, b, j), then the part from i to b, then the part from b to j; no triangle is on
  -- a rim edge (rule 3.5). The first argument bounds the depth.
  unfoldable pub preorder_from : ℕ → List ℕ → ℕ → ℕ → List ℕ
  preorder_from zero s i j = []
  preorder_from (suc f) s i j = joined (λ k. k ∷ (preorder_from f s i (job.b k) ++ preorder_from f s (job.b k) j)) (keep (long_edge i j) s)

  -- walk order: the part from 0 to n - 1 (rule 3.5)
  abbrev pub preorder : List ℕ → List ℕ
  preorder s = preorder_from job.n s 0 (job.n - 1)

  -- the total and then the triangles: what triangulations are compared by (rule 3.7)
  unfoldable pub key : List ℕ → List ℕ
  unfolding total_weight preorder_from
  key s = total_weight s ∷ preorder s

  -- all sets of candidates that are triangulations (rule 3.3)
  abbrev pub triangulations : List (List ℕ)
  triangulations = keep is_triangulation (subsets (numbers_from 0 job.size))

  -- of all triangulations the least total, and of several the earliest in preorder; [] where there is none (rule 3.7)
  unfoldable pub best_key : List ℕ
  unfolding is_triangulation key
  best_key = least (map key triangulations)

  -- the answer (rule 3.7)
  abbrev pub best : Answer
  best = answer_of best_key
