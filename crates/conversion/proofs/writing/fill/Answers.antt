-- `conversion::writing::fill` meets its contract. Assumes nothing.
use mathlib.Core.Path.{◌≡◌, sym, ap, ◌∙◌}
use mathlib.Core.List.{List}
use Prim.Native.Nat.{ℕ, ◌+◌, ◌-◌}
use native.Mathlib.Omega.{arith}
use lib.ListN.{length, take, drop, replicate}
use lib.Seq.{sets}
use Rattle.std.proofs.Common.{rules}
use Rattle.conversion.proofs.Storing.{part_stored, bytes_length}
use Rattle.conversion.proofs.writing.fill.Goals as goal

pub returns : goal.returns
returns c =
    let a = c.args in
    let e : a.to + a.count - a.to ≡ a.count = omega arith in
    let same = c.fill.ensures.after (λ y h. search rules) in
    let long = c.fill.ensures.len ∙ ap (λ (n : ℕ). length (take n (drop a.to a.out.now))) e in
    part_stored _ a.out.now a.to (omega (arith, long, bytes_length a.out.now a.to a.count (omega arith))) (omega arith)
    ∙ ap (λ (l : List ℕ). sets a.out.now a.to l)
    (same ∙ ap (λ (n : ℕ). replicate n a.byte) (sym c.fill.ensures.len ∙ long ∙ bytes_length a.out.now a.to a.count (omega arith)))
