-- What the dynamic programme computes from the tables of a job. What functions say to each other; nobody has to believe it.
use Rattle.std.specs.Prelude.{ℕ, zero, suc, ◌+◌, ◌≤◌, ◌<◌, ◌≡◌, ◌≢◌, ◌⊎◌, Bool, cond, List, [], ◌∷◌, get_or, length, drop, eqb, ltb, leb}
use Rattle.minimum_weight.specs.declared.choice.Pick.{Pick}
use Rattle.lists.specs.Lists.{over, both}
use Rattle.terms.specs.Limits.{max_triples}
use Rattle.terms.specs.Entries.{entry_at, vertex_a, vertex_b, long_edge_is}
use Rattle.rows.specs.Search.{RowsAscend}
use Rattle.blocks.specs.Blocks.{ByFirst}
use Rattle.triangulation.specs.Triangulations.{Problem, ValidProblem}
use Rattle.triangulation.specs.Problems.{Bounded, pair_weight, problem_from}
use Rattle.triangulation.specs.Recursion.{add_row, best_under, best_from, cost_of, no_total, max_total}

-- candidates ascend by a, then b
pub record Ascending (candidates : List (List ℕ)) : Type 0 where
  pub by_first : ByFirst candidates
  pub b_up : (k l : ℕ) → k < l → l < length candidates
      → vertex_a (entry_at candidates k) ≡ vertex_a (entry_at candidates l) → vertex_b (entry_at candidates k) ≤ vertex_b (entry_at candidates l)

-- p, or candidate u where it is on the edge and its total with the row's weight is lower: d is its own total, w the row's weight
unfoldable pub better_of : Pick → ℕ → Bool → ℕ → ℕ → Pick
better_of p u on d w = cond (both on (both (ltb d no_total) (ltb (d + w) p.cost))) (record { cost = d + w; at = u }) p

-- the best of the first k candidates that are `on` the edge, the first of equal ones: d is a candidate's own total, w its row's weight
abbrev pub pick_below : (ℕ → Bool) → (ℕ → ℕ) → (ℕ → ℕ) → ℕ → Pick
pick_below on d w zero = record { cost = no_total; at = 0 }
pick_below on d w (suc k) = better_of (pick_below on d w k) k (on k) (d k) (w k)

-- (i, j) is candidate k's edge (a, c)
abbrev pub hung_on_edge : List (List ℕ) → ℕ → ℕ → ℕ → Bool
hung_on_edge candidates i j k = long_edge_is (entry_at candidates k) i j

-- the best candidate (i, x, j) under t
unfoldable pub pick_under : List (List ℕ) → List ℕ → List (List ℕ) → ℕ → ℕ → ℕ → Pick
pick_under candidates work rows t i j = pick_below (hung_on_edge candidates i j) (λ k. get_or work k 0) (pair_weight rows t) (length candidates)

-- the same of any edge of t: nothing beneath a rim edge (i, i + 1)
abbrev pub pick_at_edge : List (List ℕ) → List ℕ → List (List ℕ) → ℕ → ℕ → ℕ → Pick
pick_at_edge candidates work rows t i j = cond (eqb j (i + 1)) (record { cost = 0; at = 0 }) (pick_under candidates work rows t i j)

-- a total, or the number that stands for 'none'
abbrev pub Cost : ℕ → Type 0
Cost x = (x ≡ no_total) ⊎ (x ≤ max_total)

-- the total of a triangle of weight w over parts of totals l and r
abbrev pub join_cost : ℕ → ℕ → ℕ → ℕ
join_cost w l r = cond (leb no_total l) no_total (cond (leb no_total r) no_total (w + l + r))

-- what the dynamic programme needs of a job and its weight table
pub record WellFormed (n : ℕ) (candidates : List (List ℕ)) (weights : List ℕ) (rows : List (List ℕ)) : Type 0 where
  pub valid : ValidProblem (problem_from n candidates weights rows)
  pub bounded : Bounded (problem_from n candidates weights rows)
  pub ascending : Ascending candidates
  pub weights_there : length candidates ≤ length weights
  pub few : length candidates ≤ max_triples
  pub rows_ascend : RowsAscend rows
  -- no row has the first number after the candidates for its outer
  pub no_row : (u : ℕ) → pair_weight rows (length candidates) u ≡ 0

-- what the work table is filled with: for each candidate the least total of a part that starts with it, or the number that stands for 'none'
abbrev pub part_totals : Problem → List ℕ
part_totals job = over 0 job.size (λ u. cost_of (best_from job job.n u) ∷ [])

-- candidate u's place of the work table has the least total of a part that starts with u
abbrev pub Ready : Problem → List ℕ → ℕ → Type 0
Ready job work u = get_or work u 0 ≡ cost_of (best_from job job.n u)

-- so it is for all candidates
abbrev pub AllReady : Problem → List ℕ → Type 0
AllReady job work = (u : ℕ) → u < job.size → Ready job work u

-- so it is for the candidates (i, x, j)
abbrev pub ReadyAt : Problem → List ℕ → ℕ → ℕ → Type 0
ReadyAt job work i j = (u : ℕ) → u < job.size → job.a u ≡ i → job.c u ≡ j → Ready job work u

-- so it is for the candidates beneath candidate t
abbrev pub ReadyBeneath : Problem → List ℕ → ℕ → Type 0
ReadyBeneath job work t = ReadyAt job work (job.a t) (job.b t) × ReadyAt job work (job.b t) (job.c t)

-- so it is for all candidates from `low` on; the places that are no candidate's are as in `before`
pub record Filled (job : Problem) (before : List ℕ) (low : ℕ) (work : List ℕ) : Type 0 where
  pub long : length work ≡ length before
  pub kept : drop job.size work ≡ drop job.size before
  pub ready : (u : ℕ) → u < job.size → low ≤ u → Ready job work u

-- triangle u is on the edge (i, j), and the best part beneath that edge of t starts with it
abbrev pub StartsBest : Problem → ℕ → ℕ → ℕ → ℕ → Type 0
StartsBest job t i j u = (u < job.size) × (job.a u ≡ i) × (job.c u ≡ j)
    × (best_under job job.n t i j ≡ add_row (job.row t u) (best_from job job.n u))

-- what is found for the edge (i, j) of t: the best total beneath it with the row to t, and the triangle that starts it
pub record Found (job : Problem) (t i j : ℕ) (p : Pick) : Type 0 where
  pub cost : p.cost ≡ cost_of (best_under job job.n t i j)
  pub at : j ≢ i + 1 → p.cost < no_total → StartsBest job t i j p.at
