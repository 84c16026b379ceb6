-- `conversion::writing::copy` meets its contract. Assumes nothing.
use mathlib.Core.Path.{◌≡◌, ap, ◌∙◌}
use mathlib.Core.List.{List}
use Prim.Native.Nat.{ℕ, ◌+◌, ◌-◌}
use native.Mathlib.Omega.{arith}
use lib.ListN.{length, take, drop}
use lib.Seq.{sets}
use Rattle.conversion.proofs.Storing.{part_stored, bytes_length}
use Rattle.conversion.proofs.writing.copy.Goals as goal

pub returns : goal.returns
returns c =
    let a = c.args in
    let e : a.from + a.count - a.from ≡ a.count = omega arith in
    let same = c.copy_from_slice.ensures.after ∙ ap (λ (n : ℕ). take n (drop a.from a.file.now)) e in
    part_stored _ a.out.now a.to (omega (arith, ap length same, bytes_length a.file.now a.from a.count (omega arith))) (omega arith)
    ∙ ap (λ (l : List ℕ). sets a.out.now a.to l) same
