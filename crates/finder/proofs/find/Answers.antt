-- `finder::find` meets its contract. Assumes nothing.
use mathlib.Core.Path.{◌∙◌, ap}
use Prim.Native.Nat.{ℕ}
use Rattle.finder.specs.Finding.{due_values, find_by}
use Rattle.finder.proofs.Answers.{beside_enough}
use Rattle.finder.proofs.find.Goals as goal

pub returns : goal.returns
returns c =
    let s = c in
    let n = beside_enough s.args.p s.args.candidates.now s.args.weights.now s.args.rows.now in
    let e = c.find_beside.ensures in record {
      tables = e.tables ∙ ap (λ (k : ℕ). find_by k s.args.p s.args.candidates.now s.args.weights.now s.args.rows.now) n;
      values = e.values ∙ ap (λ (k : ℕ). due_values k s.args.p) n;
    }
