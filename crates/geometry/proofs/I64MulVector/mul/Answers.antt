-- `*` of a number and a vector meets its contract: each product fits.
use Rattle.integers.proofs.Bounds.{product_held}
use Rattle.geometry.proofs.I64MulVector.mul.Goals as goal

pub returns : goal.returns
returns c =
    let r = c.requires in
    λ i. record {
      x = (product_held tt r.factor_in r.vector_in.in_x r.product_in.in_x).value i;
      y = (product_held tt r.factor_in r.vector_in.in_y r.product_in.in_y).value i;
      z = (product_held tt r.factor_in r.vector_in.in_z r.product_in.in_z).value i;
    }
