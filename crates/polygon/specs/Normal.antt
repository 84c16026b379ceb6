-- Normals of the surface that adjoins the rim, edge by edge. Definitions only.
use Rattle.std.specs.Prelude.{Bool, cond, List, ℕ, get_or, ℤ, pos}
use Rattle.integers.specs.Order.{equal}
use Rattle.lists.specs.Lists.{both}
use Rattle.grid.specs.Point.{OnGrid, coordinate_on_grid}
use Rattle.polygon.specs.declared.normal.Normal.{Normal}

-- a normal by its three numbers (rule 1.13)
abbrev pub normal : ℤ → ℤ → ℤ → Normal
normal x y z = record { x = x; y = y; z = z }

-- three zeros, where there is no surface (rule 1.13), and the test for them
abbrev pub no_normal : Normal
no_normal = normal (pos 0) (pos 0) (pos 0)

abbrev pub is_none : Normal → Bool
is_none n = both (equal n.x (pos 0)) (both (equal n.y (pos 0)) (equal n.z (pos 0)))

-- normal i (rule 1.14); past the last it belongs to no edge
abbrev pub normal_at : List Normal → ℕ → Normal
normal_at normals i = get_or normals i no_normal

-- each number is from -1000 to 1000, the range of the grid (rules 1.11, 4.18), as a fact and as a test (that they agree: `normal_in_range_lem` and
-- `normal_in_range_test` of proofs/Normals.antt)
pub record NormalInRange (n : Normal) : Type 0 where
  pub x : OnGrid n.x
  pub y : OnGrid n.y
  pub z : OnGrid n.z

abbrev pub normal_in_range : Normal → Bool
normal_in_range n = both (coordinate_on_grid n.x) (both (coordinate_on_grid n.y) (coordinate_on_grid n.z))

-- the number due on a normal, 0 for none (rule 4.18)
abbrev pub normal_code : Normal → ℕ
normal_code n = cond (normal_in_range n) 0 18
