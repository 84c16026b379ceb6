-- `minimum_weight::least_total` meets its contract: it finds what the recursion has beneath the edge (0, n − 1). Assumes nothing.
use Prim.Native.Nat.{ℕ, ◌-◌}
use mathlib.Core.Path.{◌≡◌, sym, ap, ◌∙◌}
use mathlib.Core.List.{List}
use native.Mathlib.Omega.{arith}
use lib.ListN.{length}
use Rattle.triangulation.specs.Triangulations.{Problem, best_key}
use Rattle.triangulation.specs.Problems.{problem_from}
use Rattle.minimum_weight.specs.declared.choice.Pick.{Pick}
use Rattle.minimum_weight.specs.Tables.{WellFormed, AllReady, pick_at_edge}
use Rattle.triangulation.specs.Recursion.{cost_of, key_total}
use Rattle.minimum_weight.proofs.Edges.{found_edge}
use Rattle.minimum_weight.proofs.Filling.{filled_ready}
use Rattle.minimum_weight.proofs.Answer.{answer_whole, some_key, no_key}
use Rattle.minimum_weight.proofs.least_total.Goals as goal

module _ (n : ℕ) (candidates : List (List ℕ)) (weights : List ℕ) (rows : List (List ℕ)) (ok : WellFormed n candidates weights rows) where
  abbrev job : Problem
  job = problem_from n candidates weights rows

  -- what is picked beneath the edge (0, n − 1) under no triangle
  whole_cost : (work : List ℕ) → AllReady job work → (p : Pick) → p ≡ pick_at_edge candidates work rows (length candidates) 0 (n - 1)
      → p.cost ≡ cost_of (best_key job)
  whole_cost work ready p e =
      (found_edge n _ _ _ ok work (length candidates) 0 (n - 1) (λ u l _ _. ready u l) p e).cost ∙ ap cost_of (sym (answer_whole n _ _ _ ok))

pub returns-then-whole-lt-NONE : goal.returns-then-whole-lt-NONE
returns-then-whole-lt-NONE c =
    let ok = c.args.instance.now.well_formed in
    let f = c.fill.ensures in
    let e = whole_cost c.args.instance.now.job.n _ _ _ ok _ (filled_ready _ _ c.requires f) c.best_under-whole.result
    (rw (c.blocked.ensures.0, c.rows.ensures) at c.best_under-whole.ensures) in
    record { total = some_key _ e c.if-whole-lt-NONE.true; work = f }

pub returns-else-whole-lt-NONE : goal.returns-else-whole-lt-NONE
returns-else-whole-lt-NONE c =
    let ok = c.args.instance.now.well_formed in
    let f = c.fill.ensures in
    let e = whole_cost c.args.instance.now.job.n _ _ _ ok _ (filled_ready _ _ c.requires f) c.best_under-whole.result
    (rw (c.blocked.ensures.0, c.rows.ensures) at c.best_under-whole.ensures) in
    record { total = ap key_total (sym (no_key c.args.instance.now.job.n _ _ _ ok (omega (arith, e, c.if-whole-lt-NONE.false)))); work = f }
