use mathlib.Core.Path.{◌≡◌}
use mathlib.Core.List.{◌++◌}
use Prim.Native.Nat.{◌+◌, ◌≤◌, ◌<◌}
use lib.ListN.{length}
use lib.Seq.{sets}
use Rattle.lists.specs.Lists.{over}
use Rattle.rim_file.specs.File.{header_size, record_count}
use Rattle.conversion.specs.Converted.{record_bytes}
use Rattle.conversion.specs.Steps.{ending_in}
use Rattle.conversion.proofs.writing.write_records.Given as goal

abbrev pub invariant-loop-k : goal.invariant-loop-k
invariant-loop-k l =
    let s = l.file.bytes.now in
    (0 < l.k) × (l.k ≤ record_count s + 1) × (length l.out ≡ length l.initial.out)
    × (l.out ≡ sets l.initial.out (l.target.header + header_size) (over 1 l.k (λ k. record_bytes s k ++ ending_in l.target)))
