use Prim.Native.Nat.{◌-◌}
use lib.ListN.{length}
use Rattle.triangulation.specs.Recursion.{best_under, rest_of}
use Rattle.minimum_weight.specs.Instances.{problem_at}
use Rattle.preorder.specs.Preorder.{Listing}
use Rattle.preorder.proofs.write_preorder.Given as goal

abbrev pub invariant-loop-count : goal.invariant-loop-count
invariant-loop-count l =
    Listing (problem_at l.instance)
    (rest_of (best_under (problem_at l.instance) l.instance.job.n (length l.instance.job.candidates.now) 0 (l.instance.job.n - 1))) l.initial.triangles l.stack l.height
    l.count l.triangles
