-- What is picked beneath an edge of a triangle depends on the run of its rows alone. Assumes nothing.
use Prim.Native.Nat.{ℕ, zero, suc, ◌+◌}
use mathlib.Core.Path.{◌≡◌, refl, ap, ◌∙◌}
use mathlib.Core.Bool.{cond}
use mathlib.Core.List.{List}
use lib.ListN.{length, get_or}
use lib.Dec.{eqb}
use Rattle.triangulation.specs.Problems.{pair_weight, problem_from}
use Rattle.rows.specs.Search.{Run}
use Rattle.minimum_weight.specs.Tables.{WellFormed, ReadyAt, Found, pick_at_edge, pick_under, pick_below, hung_on_edge}
use Rattle.minimum_weight.specs.declared.choice.Pick.{Pick}
use Rattle.minimum_weight.proofs.Edges.{found_edge}

module _ {rows run : List (List ℕ)} {t : ℕ} (r : Run rows t run) (candidates : List (List ℕ)) (work : List ℕ) (i j : ℕ) where
  pick_same : (k : ℕ) → pick_below (hung_on_edge candidates i j) (λ k. get_or work k 0) (pair_weight run t) k
      ≡ pick_below (hung_on_edge candidates i j) (λ k. get_or work k 0) (pair_weight rows t) k
  pick_same zero = refl
  pick_same (suc k) = rw (pick_same k, r.same k) refl

  pick_run : pick_at_edge candidates work run t i j ≡ pick_at_edge candidates work rows t i j
  unfolding pick_under
  pick_run = ap (cond (eqb j (i + 1)) (record { cost = 0; at = 0 })) (pick_same (length candidates))

-- so the run of t serves for its edges
pub found_in_run : (n : ℕ) (candidates : List (List ℕ)) (weights : List ℕ) (rows : List (List ℕ)) → WellFormed n candidates weights rows
    → (work : List ℕ) (t i j : ℕ) {run : List (List ℕ)} → Run rows t run
    → ReadyAt (problem_from n candidates weights rows) work i j → (p : Pick) → p ≡ pick_at_edge candidates work run t i j
    → Found (problem_from n candidates weights rows) t i j p
found_in_run n candidates weights rows ok work t i j r h p e = found_edge n candidates weights rows ok work t i j h p (e ∙ pick_run r candidates work i j)
