-- The answer is what the recursion has beneath the edge (0, n − 1), under a number that no row names. Assumes nothing.
use Prim.Native.Nat.{ℕ, ◌-◌, ◌≤◌, ◌<◌}
use mathlib.Core.Path.{◌≡◌, refl, ap, ◌∙◌}
use mathlib.Core.Logic.{◌⊎◌, inl, inr, ⊎_elim}
use mathlib.Core.List.{List, [], ◌∷◌}
use native.Mathlib.Omega.{arith}
use lib.ListN.{length}
use Rattle.std.proofs.Common.{Some, None}
use Rattle.triangulation.specs.Triangulations.{Problem, best_key}
use Rattle.triangulation.specs.Problems.{problem_from}
use Rattle.triangulation.specs.Recursion.{best_under, cost_of, key_total, no_total, max_total}
use Rattle.triangulation.proofs.Recursion.{best_edge}
use Rattle.triangulation.proofs.Bounds.{edge_light}
use Rattle.minimum_weight.specs.Tables.{WellFormed}

-- what a total as it is answered says of a key
pub without_key : (k : List ℕ) → None ≡ key_total k → k ≡ []
without_key [] e = refl
without_key (x ∷ l) e = cc

pub with_key : (k : List ℕ) {x : ℕ} → Some x ≡ key_total k → x ≡ cost_of k
with_key [] e = cc
with_key (y ∷ l) e = cc

-- a total that is not the number for 'none' is answered
pub some_key : (k : List ℕ) {x : ℕ} → x ≡ cost_of k → x < no_total → Some x ≡ key_total k
some_key [] e h = absurd (omega arith)
some_key (y ∷ l) e h = ap Some e

module _ (n : ℕ) (candidates : List (List ℕ)) (weights : List ℕ) (rows : List (List ℕ)) (ok : WellFormed n candidates weights rows) where
  abbrev job_here : Problem
  job_here = problem_from n candidates weights rows

  pub answer_whole : best_key job_here ≡ best_under job_here n (length candidates) 0 (n - 1)
  answer_whole = best_edge job_here ok.valid (length candidates) ok.no_row n (omega arith)

  -- a total is far below 2^63
  pub answer_light : (best_key job_here ≡ []) ⊎ (cost_of (best_key job_here) < no_total)
  answer_light =
      ⊎_elim (λ e. inl (answer_whole ∙ e))
      (λ (q : cost_of (best_under job_here n (length candidates) 0 (n - 1)) ≤ max_total). inr (omega (arith, ap cost_of answer_whole)))
      (edge_light job_here ok.valid ok.bounded (length candidates) 0 (n - 1) (omega (arith, ok.valid.n3)) (omega (arith, ok.valid.n3)))

  pub key_light : {x : ℕ} → Some x ≡ key_total (best_key job_here) → cost_of (best_key job_here) < no_total
  key_light {x} e = ⊎_elim (λ (z : best_key job_here ≡ []). let f : Some x ≡ None = e ∙ ap key_total z in cc) (λ h. h) answer_light

  pub no_key : no_total ≤ cost_of (best_key job_here) → best_key job_here ≡ []
  no_key h = ⊎_elim (λ e. e) (λ (q : cost_of (best_key job_here) < no_total). absurd (omega arith)) answer_light
