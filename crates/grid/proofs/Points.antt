-- The test of a grid coordinate, and what it says of the coordinate. Assumes nothing.
use mathlib.Core.Path.{◌≡◌, refl, sym, ap, ◌∙◌}
use mathlib.Core.Bool.{Bool, true}
use Prim.Native.Nat.{ℕ, suc, ◌≤◌}
use native.Mathlib.Omega.{arith}
use borrow.Author.Tests.{le-leb, leb-true}
use lib.Dec.{leb}
use lib.IntN.{ℤ, pos, negsuc}
use Rattle.lists.specs.Lists.{both}
use Rattle.lists.proofs.Bools.{both_yes}
use Rattle.lists.proofs.Choice.{both_left, both_right}
use Rattle.grid.specs.declared.GridPoint.{GridPoint}
use Rattle.grid.specs.Point.{OnGrid, PointOnGrid, coordinate_on_grid, point_on_grid}

-- ---- the test holds exactly where the fact does
pub on_grid : (c : ℤ) → coordinate_on_grid c ≡ true → OnGrid c
on_grid (pos n) h = record { size = leb-true n 1000 h }
on_grid (negsuc n) h = record { size = next n (leb-true n 999 (sym (both_yes (leb n 999) refl) ∙ h)) }
  where
    next : (n : ℕ) → n ≤ 999 → suc n ≤ 1000
    next n k = omega arith

pub on_grid_test : (c : ℤ) → OnGrid c → coordinate_on_grid c ≡ true
on_grid_test (pos n) g = le-leb n 1000 g.size
on_grid_test (negsuc n) g = both_yes (leb n 999) refl ∙ le-leb n 999 (back n g.size)
  where
    back : (n : ℕ) → suc n ≤ 1000 → n ≤ 999
    back n k = omega arith

pub point_on_grid_lem : (p : GridPoint) → point_on_grid p ≡ true → PointOnGrid p
point_on_grid_lem p h =
    let r = both_right (coordinate_on_grid p.x) (both (coordinate_on_grid p.y) (coordinate_on_grid p.z)) h in
    record {
      x = on_grid p.x (both_left (coordinate_on_grid p.x) (both (coordinate_on_grid p.y) (coordinate_on_grid p.z)) h);
      y = on_grid p.y (both_left (coordinate_on_grid p.y) (coordinate_on_grid p.z) r);
      z = on_grid p.z (both_right (coordinate_on_grid p.y) (coordinate_on_grid p.z) r);
    }

pub point_on_grid_test : (p : GridPoint) → PointOnGrid p → point_on_grid p ≡ true
point_on_grid_test p g =
    ap (λ (t : Bool). both t (both (coordinate_on_grid p.y) (coordinate_on_grid p.z))) (on_grid_test p.x g.x)
    ∙ ap (λ (t : Bool). both t (coordinate_on_grid p.z)) (on_grid_test p.y g.y)
    ∙ on_grid_test p.z g.z
