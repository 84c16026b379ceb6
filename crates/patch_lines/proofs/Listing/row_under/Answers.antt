-- `patch_lines::Listing::row_under` meets its contract: the triangles before place k are not what t hangs on. Assumes nothing.
use mathlib.Core.Path.{sym, ◌∙◌}
use native.Mathlib.Omega.{arith}
use Rattle.patch_lines.proofs.Hanging.{hangs_same, under_found, under_next, under_end}
use Rattle.patch_lines.proofs.Listing.row_under.Goals as goal

pub returns-then-hangs_on : goal.returns-then-hangs_on
returns-then-hangs_on c =
    let s = c in
    let candidates = s.args.self.now.candidates.now in
    let t = s.args.t in
    let o = c.from-o.result in
    let e = sym (hangs_same candidates t o c.candidate-inner.ensures
    c.candidate-outer.ensures) ∙ sym c.hangs_on.ensures ∙ c.if-hangs_on.true in
    let next = under_found candidates s.args.self.now.rows.rows.now s.args.self.now.patch.now t
    c.loop-triangle.triangle-index (omega arith) c.from-o.ensures e in
    c.weight.ensures ∙ sym next ∙ c.loop-triangle.invariant

pub loop-triangle-preserved : goal.loop-triangle-preserved
loop-triangle-preserved c =
    let s = c in
    let candidates = s.args.self.now.candidates.now in
    let t = s.args.t in
    let o = c.from-o.result in
    let e = sym (hangs_same candidates t o c.candidate-inner.ensures
    c.candidate-outer.ensures) ∙ sym c.hangs_on.ensures ∙ c.if-hangs_on.false in
    let next = under_next candidates s.args.self.now.rows.rows.now s.args.self.now.patch.now t c.loop-triangle.triangle-index
    (omega arith) c.from-o.ensures e in
    sym next ∙ c.loop-triangle.invariant

pub returns : goal.returns
returns c =
    let s = c in
    sym (under_end s.args.self.now.candidates.now s.args.self.now.rows.rows.now s.args.self.now.patch.now s.args.t c.loop-triangle.triangle-index (omega arith))
    ∙ c.loop-triangle.invariant
