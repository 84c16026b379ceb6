-- `rim_file::file::RimFile::length_wrong` meets its contract. Assumes nothing.
use mathlib.Core.Path.{sym, ap, ◌∙◌}
use mathlib.Core.Bool.{not}
use Prim.Native.Nat.{ℕ}
use native.Mathlib.Omega.{arith}
use borrow.Author.Tests.{lt-ltb}
use lib.Dec.{eqb}
use lib.ListN.{length}
use Rattle.rim_file.proofs.Layouts.{bounds, header_as, last_end}
use Rattle.rim_file.proofs.Lengths.{too_short, too_many, by_records}
use Rattle.rim_file.proofs.file.RimFile.length_wrong.Goals as goal

pub overflow_add-layout : goal.overflow_add-layout
overflow_add-layout c =
    let s = c.args.self.now.bytes.now in
    record { fits = omega (arith, header_as s c.layout.ensures, (bounds s).header) }

pub returns-then-self-layout : goal.returns-then-self-layout
returns-then-self-layout c =
    let s = c.args.self.now.bytes.now in
    sym (too_short s (omega (arith, header_as s c.layout.ensures, c.if-self-layout.true)))

pub returns-then-count-gt-MAX_RECORDS : goal.returns-then-count-gt-MAX_RECORDS
returns-then-count-gt-MAX_RECORDS c =
    let s = c.args.self.now.bytes.now in
    lt-ltb 256 c.record_count-count.result c.if-count-gt-MAX_RECORDS.true
    ∙ sym (too_many s (omega (arith, header_as s c.layout.ensures, c.if-self-layout.false))
    (omega (arith, c.record_count-count.ensures.0, c.if-count-gt-MAX_RECORDS.true)))

pub returns-else-count-gt-MAX_RECORDS : goal.returns-else-count-gt-MAX_RECORDS
returns-else-count-gt-MAX_RECORDS c =
    let s = c.args.self.now.bytes.now in
    ap (λ (k : ℕ). not (eqb (length s) k)) (c.record_start.ensures ∙ last_end s c.record_count-count.ensures.0)
    ∙ sym (by_records s (omega (arith, header_as s c.layout.ensures, c.if-self-layout.false))
    (omega (arith, c.record_count-count.ensures.0, c.if-count-gt-MAX_RECORDS.false)))
