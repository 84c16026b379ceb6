-- `triangulator::best_triangulation` meets its contract. Assumes nothing.
use mathlib.Core.Path.{sym, ap, ◌∙◌}
use Rattle.triangulation.specs.Triangulations.{best_key, answer_of}
use Rattle.triangulation.specs.Problems.{problem_from}
use Rattle.triangulation.proofs.Demand3.{best_length}
use Rattle.triangulator.proofs.Settling.{settle_none, settle_patch}
use Rattle.triangulator.proofs.best_triangulation.Goals as goal

pub returns-in_default : goal.returns-in_default
returns-in_default c =
    let s = c in
    let J = problem_from s.args.n s.args.candidates.now s.args.weights.now s.args.rows.now in
    let e = c.solve-found.ensures in
    let p = settle_none J.n J.size _ _ (best_key J) (sym c.in_default.is ∙ e.total) e.triangles e.work in
    record { tables = p.0; values = p.1 }

pub returns : goal.returns
returns c =
    let s = c in
    let J = problem_from s.args.n s.args.candidates.now s.args.weights.now s.args.rows.now in
    let e = c.solve-found.ensures in
    let p = settle_patch J.n J.size _ _ (best_key J) _ (sym c.in-Some.is ∙ e.total)
    (λ x l q. best_length J s.requires.0.valid x l (ap answer_of q)) e.triangles e.work in
    record { tables = p.0; values = p.1 }
