-- `geometry::cross` meets its contract: each coordinate is a difference of two products, each with its bound.
use Prim.Native.Nat.{◌+◌}
use lib.IntN.{◌-ℤ◌, ◌*ℤ◌}
use Rattle.geometry.specs.Vectors.{cross_of}
use Rattle.geometry.specs.Bounds.{third}
use Rattle.integers.proofs.Bounds.{Holds, bits, stored, fits, product_held, ◌-!◌}
use Rattle.geometry.proofs.cross.Goals.{Start}
use Rattle.geometry.proofs.cross.Goals as goal

module _ (s : goal.Start) where
  held_x : Holds (third + third) (cross_of s.args.u s.args.v).x
      (bits (bits s.args.u.y *ℤ bits s.args.v.z) -ℤ bits (bits s.args.u.z *ℤ bits s.args.v.y))
  held_x = product_held tt s.requires.left.in_y s.requires.right.in_z s.requires.yz -! product_held tt s.requires.left.in_z s.requires.right.in_y s.requires.zy

  held_y : Holds (third + third) (cross_of s.args.u s.args.v).y
      (bits (bits s.args.u.z *ℤ bits s.args.v.x) -ℤ bits (bits s.args.u.x *ℤ bits s.args.v.z))
  held_y = product_held tt s.requires.left.in_z s.requires.right.in_x s.requires.zx -! product_held tt s.requires.left.in_x s.requires.right.in_z s.requires.xz

  held_z : Holds (third + third) (cross_of s.args.u s.args.v).z
      (bits (bits s.args.u.x *ℤ bits s.args.v.y) -ℤ bits (bits s.args.u.y *ℤ bits s.args.v.x))
  held_z = product_held tt s.requires.left.in_x s.requires.right.in_y s.requires.xy -! product_held tt s.requires.left.in_y s.requires.right.in_x s.requires.yx

pub overflow_sub-result : goal.overflow_sub-result
overflow_sub-result c = fits tt (held_x (goal.at.overflow_sub-result c).Start)

pub overflow_sub-result-2 : goal.overflow_sub-result-2
overflow_sub-result-2 c = fits tt (held_y (goal.at.overflow_sub-result-2 c).Start)

pub overflow_sub-result-3 : goal.overflow_sub-result-3
overflow_sub-result-3 c = fits tt (held_z (goal.at.overflow_sub-result-3 c).Start)

pub returns : goal.returns
returns c =
    let s = (goal.at.returns c).Start in
    λ i. record { x = (stored tt (held_x s)).value i; y = (stored tt (held_y s)).value i; z = (stored tt (held_z s)).value i }
