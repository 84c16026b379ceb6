-- The tests of a normal: three zeros, and the range. Assumes nothing.
use mathlib.Core.Path.{◌≡◌, ◌∙◌}
use mathlib.Core.Bool.{true, ◌&&◌}
use Rattle.std.specs.Ordering.{int_eq}
use lib.IntN.{ℤ, pos}
use mir.Syntax.{w16, w64}
use mir.Val.{SFits, to_z, of_z}
use mir.Facts.{to_z-of_z, Fits-of_z, sfits_to_z, sfits_widen}
use Rattle.grid.specs.Point.{point}
use Rattle.grid.proofs.Points.{point_on_grid_lem, point_on_grid_test}
use Rattle.lists.specs.Lists.{both}
use Rattle.integers.specs.Order.{equal}
use Rattle.integers.proofs.Order.{equal_yes}
use Rattle.lists.proofs.Choice.{both_left, both_right}
use Rattle.polygon.specs.declared.normal.Normal.{Normal}
use Rattle.polygon.specs.Normal.{no_normal, is_none, NormalInRange, normal_in_range}
use Rattle.polygon.specs.contracts.normal.NormalPartialEq.TheImpl.{ghosts}
use Rattle.polygon.proofs.Points.{int_same, and_both}

-- ---- the range: the fact holds exactly where the test does
pub normal_in_range_lem : (n : Normal) → normal_in_range n ≡ true → NormalInRange n
normal_in_range_lem n h = let p = point_on_grid_lem (point n.x n.y n.z) h in record { x = p.x; y = p.y; z = p.z }

pub normal_in_range_test : (n : Normal) → NormalInRange n → normal_in_range n ≡ true
normal_in_range_test n r = point_on_grid_test (point n.x n.y n.z) (record { x = r.x; y = r.y; z = r.z })

-- ---- a number of a normal, read at a greater width
pub widened_fits : (c : ℤ) → SFits w16 c → SFits w64 (to_z w16 (of_z w16 c))
widened_fits c f = sfits_widen tt (sfits_to_z (Fits-of_z f))

pub widened : (c : ℤ) → SFits w16 c → to_z w64 (of_z w64 (to_z w16 (of_z w16 c))) ≡ c
widened c f = to_z-of_z (widened_fits c f) ∙ to_z-of_z f

-- ---- three zeros
pub none_is : (n : Normal) → is_none n ≡ true → n ≡ no_normal
none_is n h =
    let r = both_right (equal n.x (pos 0)) (both (equal n.y (pos 0)) (equal n.z (pos 0))) h in
    let x = equal_yes n.x (pos 0) (both_left (equal n.x (pos 0)) (both (equal n.y (pos 0)) (equal n.z (pos 0))) h) in
    let y = equal_yes n.y (pos 0) (both_left (equal n.y (pos 0)) (equal n.z (pos 0)) r) in
    let z = equal_yes n.z (pos 0) (both_right (equal n.y (pos 0)) (equal n.z (pos 0)) r) in
    λ i. record { x = x i; y = y i; z = z i }

-- as `==` of std tests it
pub none_test : (n : Normal) → ghosts.eq n no_normal ≡ is_none n
none_test n =
    and_both (int_eq n.x (pos 0)) (int_eq n.y (pos 0) && int_eq n.z (pos 0))
    ∙ (λ i. both (int_same n.x (pos 0) i) (and_both (int_eq n.y (pos 0)) (int_eq n.z (pos 0)) i))
    ∙ (λ i. both (equal n.x (pos 0)) (both (int_same n.y (pos 0) i) (int_same n.z (pos 0) i)))
