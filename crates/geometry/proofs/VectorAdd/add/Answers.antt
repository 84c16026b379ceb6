-- `+` of vectors meets its contract: each sum fits.
use Rattle.geometry.proofs.Vectors.{sum_held}
use Rattle.geometry.proofs.VectorAdd.add.Goals as goal

pub returns : goal.returns
returns c =
    let r = c.requires in
    λ i. record {
      x = sum_held r.left.in_x r.right.in_x r.sum_in.in_x i;
      y = sum_held r.left.in_y r.right.in_y r.sum_in.in_y i;
      z = sum_held r.left.in_z r.right.in_z r.sum_in.in_z i;
    }
