-- `patch_lines::Listing::lines` meets its contract: the lines of the first k triangles are written. Assumes nothing.
use Rattle.std.proofs.Common.{◌≡◌, rules}
use mathlib.Core.List.{map}
use native.Mathlib.Omega.{arith}
use lib.ListN.{length-map, replicate}
use Rattle.lists.proofs.Writing.{start, turn, push, all, rest_end}
use Rattle.patch_lines.specs.Lines.{line_of, no_line, line_places}
use Rattle.patch_lines.proofs.Hanging.{next_line}
use Rattle.patch_lines.proofs.Listing.lines.Goals as goal

pub loop-k-init : goal.loop-k-init
loop-k-init c =
    let s = c in
    let patch = s.args.self.now.patch.now in
    let f = (line_of s.args.self.now.candidates.now s.args.self.now.weights.now s.args.self.now.rows.rows.now s.args.self.now.patch.now) in
    let empty : c.default-lines.result ≡ no_line = search rules in
    rw empty (start (map f patch) (replicate line_places no_line) (omega (arith, length-map patch f, s.requires)))

pub offset_bounds-lines-k : goal.offset_bounds-lines-k
offset_bounds-lines-k c = omega (arith, c.requires)

pub bounds-lines-k : goal.bounds-lines-k
bounds-lines-k c = omega (arith, c.requires)

pub loop-k-preserved : goal.loop-k-preserved
loop-k-preserved c =
    let s = c in
    let f = line_of s.args.self.now.candidates.now s.args.self.now.weights.now s.args.self.now.rows.rows.now s.args.self.now.patch.now in
    push (turn (next_line f s.args.self.now.patch.now c.loop-k.k (omega arith)
    c.from.ensures c.line.ensures) c.loop-k.invariant)

pub returns : goal.returns
returns c =
    let s = c in
    let f = (line_of s.args.self.now.candidates.now s.args.self.now.weights.now s.args.self.now.rows.rows.now s.args.self.now.patch.now) in
    (all (turn (rest_end f s.args.self.now.patch.now c.loop-k.k (omega arith)) c.loop-k.invariant)).1
