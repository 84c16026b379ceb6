-- A pair hangs by the test of a job's rows exactly when its row counts in a tiling's total (rules 2.9, 3.4). Assumes nothing.
use mathlib.Core.Path.{◌≡◌, refl, sym, ap, ◌∙◌}
use mathlib.Core.Bool.{Bool, true, false}
use mathlib.Core.List.{List, []}
use Prim.Native.Nat.{ℕ}
use Rattle.terms.specs.Entries.{entry_at, vertex_a, vertex_b, vertex_c, hangs}
use Rattle.lists.specs.Sums.{only}
use Rattle.validation.specs.Totals.{hanging_row}
use Rattle.triangulation.specs.Triangulations.{short_edge}
use Rattle.triangulation.specs.Problems.{problem_from, pair_weight}
use Rattle.triangulation.proofs.SetParts.{eqb_sym}

pub hangs_is : (n : ℕ) (candidates : List (List ℕ)) (weights : List ℕ) (rows : List (List ℕ)) (i o : ℕ) →
    hangs (entry_at candidates i) (entry_at candidates o)
    ≡ short_edge (problem_from n candidates weights rows) (vertex_a (entry_at candidates i)) (vertex_c (entry_at candidates i)) o
unfolding hangs
hangs_is n candidates weights rows i o =
    let t = entry_at candidates i in
    let u = entry_at candidates o in
    rw (eqb_sym (vertex_a u) (vertex_a t), eqb_sym (vertex_b u) (vertex_c t), eqb_sym (vertex_b u) (vertex_a t), eqb_sym (vertex_c u) (vertex_c t)) refl

-- so the list's triangle i adds its row to a total where it hangs on o, and nothing where not
module _ (candidates rows : List (List ℕ)) (o i : ℕ) {b : Bool} (e : b ≡ hangs (entry_at candidates i) (entry_at candidates o)) where
  pub row_hangs : b ≡ true → hanging_row candidates rows o i ≡ pair_weight rows o i
  row_hangs t = ap (λ b. only b (pair_weight rows o i)) (sym (e ∙ hangs_is 0 candidates [] [] i o) ∙ t)

  pub row_apart : b ≡ false → hanging_row candidates rows o i ≡ 0
  row_apart t = ap (λ b. only b (pair_weight rows o i)) (sym (e ∙ hangs_is 0 candidates [] [] i o) ∙ t)
