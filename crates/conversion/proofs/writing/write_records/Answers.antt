-- `conversion::writing::write_records` meets its contract: the records before k are stored. Assumes nothing.
use mathlib.Core.Path.{◌≡◌, refl, sym, ap, ◌∙◌}
use mathlib.Core.List.{◌++◌}
use Prim.Native.Nat.{ℕ, suc, ◌+◌, ◌*◌, ◌-◌, ◌≤◌}
use native.Mathlib.Omega.{arith}
use lib.ListN.{length, length-replicate}
use lib.Seq.{sets, length-sets}
use Rattle.lists.specs.Lists.{up_from, over}
use Rattle.rim_file.specs.File.{header_size, record_size1, record_count}
use Rattle.rim_file.proofs.Lengths.{whole, held}
use Rattle.conversion.specs.Converted.{record_bytes}
use Rattle.conversion.specs.Steps.{ending_in}
use Rattle.conversion.proofs.Records.{piece_end, record_stored}
use Rattle.conversion.proofs.writing.write_records.Goals.{After-record_start-to, After-copy, After-fill}
use Rattle.conversion.proofs.writing.write_records.Goals as goal

-- record k ends within the table
room : (c : goal.After-record_start-to) → c.record_start-to.result + c.args.target.record_size ≤ length c.args.out.now
room c =
    omega (
      arith,
      c.record_start-to.ensures,
      c.requires.long,
      piece_end c.args.target.record_size c.loop-k.k (record_count c.args.file.now.bytes.now) c.loop-k.invariant.0
          (omega (arith, c.record_count-count.ensures.0)),
    )

copied_length : (c : goal.After-copy) → length c.copy.new.out ≡ length c.loop-k.out
copied_length c = simp length-sets at (ap length c.copy.ensures)

-- the records up to k are stored
stored : (c : goal.After-fill) → c.fill.new.out
    ≡ sets c.args.out.now (c.args.target.header + header_size)
    (over 1 (c.loop-k.k + 1) (λ k. record_bytes c.args.file.now.bytes.now k ++ ending_in c.args.target))
stored c =
    let s = c.args.file.now.bytes.now in
    let l = c.loop-k in
    let target = c.args.target in
    let size : record_size1 + length (ending_in target) ≡ target.record_size =
    omega (arith, c.requires.least, length-replicate {A = ℕ} (target.record_size - record_size1) 0) in
    record_stored s (whole _ c.requires.right) (ending_in target) c.args.out.now (target.header + header_size) l.k c.record_start-to.result
    l.invariant.0 (omega (arith, c.record_count-count.ensures.0)) l.invariant.3 c.record_start-from.ensures
    (c.record_start-to.ensures ∙ ap (λ (z : ℕ). target.header + header_size + z * (l.k - 1)) (sym size)) refl c.copy.ensures c.fill.ensures

pub record_count-count-requires : goal.record_count-count-requires
record_count-count-requires c = (whole _ c.requires.right).header

pub record_start-to-requires : goal.record_start-to-requires
record_start-to-requires c = (c.requires.header, c.requires.most, c.loop-k.invariant.0, omega (arith, c.record_count-count.ensures))

pub overflow_sub-target : goal.overflow_sub-target
overflow_sub-target c = c.requires.least

pub loop-k-init : goal.loop-k-init
unfolding up_from
loop-k-init c = (omega arith, omega arith, refl, refl)

pub copy-requires : goal.copy-requires
copy-requires c =
    let p = (goal.at.copy-requires c).After-record_start-to in
    let in_file : c.loop-k.k ≤ c.record_count-count.result = omega arith in (
      (held _ c.requires.right (λ z. omega (arith, z, c.loop-k.auto.k)) c.record_count-count.ensures.0 in_file c.record_start-from.ensures).start,
      omega (arith, room p, c.requires.least, c.loop-k.invariant.2),
    )

pub fill-requires : goal.fill-requires
fill-requires c =
    let p = (goal.at.fill-requires c).After-record_start-to in
    let q = (goal.at.fill-requires c).After-copy in
    omega (arith, room p, c.requires.least, c.loop-k.invariant.2, copied_length q)

pub loop-k-preserved : goal.loop-k-preserved
loop-k-preserved c =
    let q = (goal.at.loop-k-preserved c).After-copy in (
      omega arith,
      omega (arith, c.record_count-count.ensures.0),
      (simp length-sets at (ap length c.fill.ensures)) ∙ copied_length q ∙ c.loop-k.invariant.2,
      stored (goal.at.loop-k-preserved c).After-fill,
    )

-- past the last record
pub returns-2 : goal.returns-2
returns-2 c =
    let s = c.args.file.now.bytes.now in
    let target = c.args.target in
    let e : c.loop-k.k + 1 ≡ suc (record_count s) = omega (arith, c.record_count-count.ensures.0) in
    stored (goal.at.returns-2 c).After-fill
    ∙ ap (λ (k : ℕ). sets c.args.out.now (target.header + header_size) (over 1 k (λ k. record_bytes s k ++ ending_in target))) e
