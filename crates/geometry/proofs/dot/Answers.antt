-- `geometry::dot` meets its contract: three products, each with its bound, and their sums.
use lib.IntN.{◌*ℤ◌}
use Rattle.geometry.specs.Bounds.{third}
use Rattle.integers.proofs.Bounds.{Holds, bits, stored, fits, product_held, ◌+!◌}
use Rattle.geometry.proofs.dot.Goals.{Start}
use Rattle.geometry.proofs.dot.Goals as goal

module _ (s : goal.Start) where
  held_x : Holds third (s.args.u.x *ℤ s.args.v.x) (bits (bits s.args.u.x *ℤ bits s.args.v.x))
  held_x = product_held tt s.requires.left.in_x s.requires.right.in_x s.requires.xx

  held_y : Holds third (s.args.u.y *ℤ s.args.v.y) (bits (bits s.args.u.y *ℤ bits s.args.v.y))
  held_y = product_held tt s.requires.left.in_y s.requires.right.in_y s.requires.yy

  held_z : Holds third (s.args.u.z *ℤ s.args.v.z) (bits (bits s.args.u.z *ℤ bits s.args.v.z))
  held_z = product_held tt s.requires.left.in_z s.requires.right.in_z s.requires.zz

pub overflow_add-result : goal.overflow_add-result
overflow_add-result c = let s = (goal.at.overflow_add-result c).Start in fits tt (held_x s +! held_y s)

pub overflow_add-result-2 : goal.overflow_add-result-2
overflow_add-result-2 c = let s = (goal.at.overflow_add-result-2 c).Start in fits tt (stored tt (held_x s +! held_y s) +! held_z s)

pub returns : goal.returns
returns c = let s = (goal.at.returns c).Start in (stored tt (stored tt (held_x s +! held_y s) +! held_z s)).value
