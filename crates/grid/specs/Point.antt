-- Grid points, in steps of the grid. Definitions only.
use Rattle.std.specs.Prelude.{◌≤◌, Bool, ℤ, pos, negsuc, nat_abs}
use Rattle.std.specs.Int.Signed.{le_z}
use Rattle.lists.specs.Lists.{both}
use Rattle.grid.specs.declared.GridPoint.{GridPoint}

-- rule 1.11: a grid point by its three coordinates
abbrev pub point : ℤ → ℤ → ℤ → GridPoint
point x y z = record { x = x; y = y; z = z }

-- rule 1.11: the two ends of the grid
abbrev pub lowest : ℤ
lowest = negsuc 999

abbrev pub highest : ℤ
highest = pos 1000

-- rule 1.11: c is from -1000 to 1000, as a fact and as a test (that they agree: `on_grid` and `on_grid_test` of proofs/Points.antt)
pub record OnGrid (c : ℤ) : Type 0 where
  pub size : nat_abs c ≤ 1000

abbrev pub coordinate_on_grid : ℤ → Bool
coordinate_on_grid c = both (le_z lowest c) (le_z c highest)

-- rule 1.11: each coordinate of a point is, as a fact and as a test
pub record PointOnGrid (p : GridPoint) : Type 0 where
  pub x : OnGrid p.x
  pub y : OnGrid p.y
  pub z : OnGrid p.z

abbrev pub point_on_grid : GridPoint → Bool
point_on_grid p = both (coordinate_on_grid p.x) (both (coordinate_on_grid p.y) (coordinate_on_grid p.z))
