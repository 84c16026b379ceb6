-- `-` of vectors meets its contract: each difference fits.
use Rattle.geometry.proofs.Vectors.{difference_held}
use Rattle.geometry.proofs.VectorSub.sub.Goals as goal

pub returns : goal.returns
returns c =
    let r = c.requires in
    λ i. record {
      x = difference_held r.left.in_x r.right.in_x r.difference_in.in_x i;
      y = difference_held r.left.in_y r.right.in_y r.difference_in.in_y i;
      z = difference_held r.left.in_z r.right.in_z r.difference_in.in_z i;
    }
