-- `finder::count_places` meets its contract. Assumes nothing.
use Prim.Native.Nat.{◌-◌}
use Rattle.finder.proofs.count_places.Goals as goal

pub returns : goal.returns
returns c = λ i. record { triangles = c.args.rim.now.polygon.n - 2; candidates = c.count-candidates.ensures i; rows = c.count_rows-pairs.ensures i }
