use mathlib.Core.Path.{◌≡◌}
use mathlib.Core.Bool.{not}
use Prim.Native.Nat.{suc, ◌<◌}
use Rattle.lists.specs.Lists.{some}
use Rattle.polygon.specs.Normal.{is_none}
use Rattle.rim_file.specs.File.{record_count, offset}
use Rattle.rim_file.specs.Record.{normal_in}
use Rattle.conversion.proofs.normals.has_normal.Given as goal

abbrev pub invariant-loop-k : goal.invariant-loop-k
invariant-loop-k l =
    let s = l.file.bytes.now in
    (0 < l.k) × (some l.k (suc (record_count s)) (λ k. not (is_none (normal_in s (offset s k)))) ≡ some 1 (suc (record_count s)) (λ k. not (is_none (normal_in s (offset s k)))))
