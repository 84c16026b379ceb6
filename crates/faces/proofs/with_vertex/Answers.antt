-- `faces::with_vertex` meets its contract. Assumes nothing.
use mathlib.Core.Path.{ap}
use Prim.Native.Nat.{ℕ}
use lib.Bits.{bit_or}
use Rattle.faces.proofs.Masks.{one_shifted}
use Rattle.faces.proofs.with_vertex.Goals as goal

pub returns : goal.returns
returns c = ap (λ (n : ℕ). bit_or c.args.mask n) (one_shifted c.args.c c.requires)
