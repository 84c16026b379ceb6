-- `converter::carry` meets its contract. Assumes nothing.
use mathlib.Core.Path.{◌≡◌, sym, ap, ◌∙◌}
use mathlib.Core.Bool.{Bool, false}
use mathlib.Core.List.{List}
use Prim.Native.Nat.{ℕ, ◌+◌, ◌-◌, ◌*◌, ◌≤◌}
use native.Mathlib.Omega.{arith}
use lib.ListN.{length}
use lib.Dec.{ltb}
use lib.Seq.{sets}
use borrow.Author.Tests.{ltb-false}
use Rattle.std.proofs.lemmas.Result.{err_from_is_err_and}
use Rattle.codes.proofs.Refusals.{none_answered}
use Rattle.rim_file.specs.File.{header_size, record_count, length_wrong, layout_of}
use Rattle.rim_file.proofs.Lengths.{whole}
use Rattle.conversion.specs.Converted.{converted, normal_lost}
use Rattle.conversion.specs.Steps.{target_of}
use Rattle.conversion.specs.declared.Target.{Target}
use Rattle.conversion.proofs.Storing.{stores_fill}
use Rattle.conversion.proofs.Targets.{carried, layout_length}
use Rattle.converter.specs.Call.{conversion_code, conversion_number, convert_by}
use Rattle.converter.proofs.Answers.{not_short, refused_by, taken_by}
use Rattle.converter.proofs.carry.Goals as goal

-- the length of the converted file, and the tests
module _ (file : List ℕ) (right : length_wrong file ≡ false) {target : Target} (target_is : target ≡ target_of (layout_of file)) where
  size_is : target.layout.header + header_size + target.layout.record_size * record_count file ≡ length (converted file)
  size_is =
      sym (layout_length file (whole file right) target.layout (carried file target_is).bounds) ∙ ap length (carried file target_is).bytes

  module _ {count : ℕ} (count_is : count ≡ record_count file)
      {size : ℕ} (start_is : size ≡ target.layout.header + header_size + target.layout.record_size * (count + 1 - 1)) where
    length_is : size ≡ length (converted file)
    length_is =
        let last : count + 1 - 1 ≡ record_count file = omega arith in
        start_is ∙ ap (λ (k : ℕ). target.layout.header + header_size + target.layout.record_size * k) last ∙ size_is

    code_is : (out : List ℕ) {lost : Bool} → lost ≡ normal_lost file → conversion_code (ltb (length out) size) lost ≡ conversion_number file out
    code_is out e = λ i. conversion_code (ltb (length out) (length_is i)) (e i)

fits : (file out : List ℕ) → conversion_number file out ≡ 0 → length (converted file) ≤ length out
fits file out e = ltb-false (length out) (length (converted file)) (not_short (ltb (length out) (length (converted file))) (normal_lost file) e)

pub record_count-requires : goal.record_count-requires
record_count-requires c = (whole _ c.requires).header

pub record_start-length-requires : goal.record_start-length-requires
record_start-length-requires c =
    let b = (carried c.args.file.now.bytes.now (c.target_of-target.ensures ∙ ap target_of c.layout.ensures)).bounds in
    (b.header, b.most, omega arith, omega (arith, c.record_count.ensures.1))

pub returns-in_err-check : goal.returns-in_err-check
returns-in_err-check c =
    let file = c.args.file.now.bytes.now in
    let out = c.args.out.now in
    let p = err_from_is_err_and c.from_residual.result c.from_residual.ensures.1 in
    rw (p.1, p.2)
    (refused_by file out _ c.in_err-check.ensures
    ∙ ap (λ (n : ℕ). convert_by n file out)
    (code_is file c.requires (c.target_of-target.ensures ∙ ap target_of c.layout.ensures) c.record_count.ensures.0
    c.record_start-length.ensures out c.has_normal-lost.ensures))

pub write_file-requires : goal.write_file-requires
write_file-requires c =
    let file = c.args.file.now.bytes.now in
    let out = c.args.out.now in
    let target_is = c.target_of-target.ensures ∙ ap target_of c.layout.ensures in
    let code = code_is file c.requires target_is c.record_count.ensures.0 c.record_start-length.ensures out c.has_normal-lost.ensures in
    let none : conversion_number file out ≡ 0 = sym code ∙ (none_answered _ c.in_ok-check.ensures).0 in
    let b = (carried file target_is).bounds in
    record {
      right = c.requires;
      header = b.header;
      least = b.least;
      most = b.most;
      long = omega (arith, size_is file c.requires target_is, fits file out none);
    }

pub returns : goal.returns
returns c =
    let file = c.args.file.now.bytes.now in
    let out = c.args.out.now in
    let target_is = c.target_of-target.ensures ∙ ap target_of c.layout.ensures in
    let code = code_is file c.requires target_is c.record_count.ensures.0 c.record_start-length.ensures out c.has_normal-lost.ensures in
    let none : conversion_number file out ≡ 0 = sym code ∙ (none_answered _ c.in_ok-check.ensures).0 in
    taken_by file out none (carried file target_is).edition (length_is file c.requires target_is c.record_count.ensures.0 c.record_start-length.ensures)
    (c.write_file.ensures ∙ ap (λ (l : List ℕ). sets out 0 l) (carried file target_is).bytes ∙ stores_fill (converted file) out (fits file out none))
