-- `geometry::difference` meets its contract: each coordinate is a difference of two grid coordinates.
use lib.IntN.{◌-ℤ◌}
use Rattle.geometry.specs.Bounds.{max_difference}
use Rattle.integers.proofs.Bounds.{Holds, bits, given, stored, ◌-!◌}
use Rattle.geometry.proofs.Vectors.{coordinate}
use Rattle.geometry.proofs.difference.Goals.{Start}
use Rattle.geometry.proofs.difference.Goals as goal

module _ (s : goal.Start) where
  held_x : Holds max_difference (s.args.p.x -ℤ s.args.q.x) (bits s.args.p.x -ℤ bits s.args.q.x)
  held_x = given tt (coordinate s.requires.0.x) -! given tt (coordinate s.requires.1.x)

  held_y : Holds max_difference (s.args.p.y -ℤ s.args.q.y) (bits s.args.p.y -ℤ bits s.args.q.y)
  held_y = given tt (coordinate s.requires.0.y) -! given tt (coordinate s.requires.1.y)

  held_z : Holds max_difference (s.args.p.z -ℤ s.args.q.z) (bits s.args.p.z -ℤ bits s.args.q.z)
  held_z = given tt (coordinate s.requires.0.z) -! given tt (coordinate s.requires.1.z)

pub returns : goal.returns
returns c =
    let s = (goal.at.returns c).Start in
    λ i. record { x = (stored tt (held_x s)).value i; y = (stored tt (held_y s)).value i; z = (stored tt (held_z s)).value i }
