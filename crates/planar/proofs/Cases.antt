-- Circles in a tilted plane, z = x, computed over the definitions, and the answer of a wrong program. Assumes nothing.
use mathlib.Core.Path.{◌≡◌, refl, sym, ◌∙◌, ap}
use mathlib.Core.Bool.{true, false}
use lib.IntN.{pos}
use Rattle.grid.specs.declared.GridPoint.{GridPoint}
use Rattle.grid.specs.Point.{point}
use Rattle.integers.proofs.Order.{true≢false}
use Rattle.geometry.specs.declared.sphere.Lifted.{Lifted}
use Rattle.geometry.specs.declared.sphere.Position.TheVariants.{Inside, Outside}
use Rattle.geometry.specs.Lifting.{lift_of, position_by}
use Rattle.geometry.specs.Facets.{is_inside}
use Rattle.planar.specs.Circles.{collinear, circumcentre_of, distance_in_plane, on_circle}
use Rattle.planar.specs.Seen.{position_in_plane, circle_of}

abbrev p : GridPoint
p = point (pos 0) (pos 0) (pos 0)

abbrev q : GridPoint
q = point (pos 4) (pos 0) (pos 4)

abbrev r : GridPoint
r = point (pos 0) (pos 4) (pos 0)

proper : collinear p q r ≡ false
proper = refl

line : collinear p (point (pos 1) (pos 2) (pos 3)) (point (pos 2) (pos 4) (pos 6)) ≡ true
line = refl

-- the fourth corner of a rectangle
fourth_on : on_circle p q r (point (pos 4) (pos 4) (pos 4)) ≡ true
unfolding circumcentre_of distance_in_plane
fourth_on = refl

-- a point of the plane that is inside
abbrev w : GridPoint
w = point (pos 2) (pos 5) (pos 2)

fourth_inside : position_in_plane p q r w ≡ Inside
unfolding circumcentre_of distance_in_plane position_in_plane
fourth_inside = refl

fourth_outside : position_in_plane p q r (point (pos 5) (pos 2) (pos 5)) ≡ Outside
unfolding circumcentre_of distance_in_plane position_in_plane
fourth_outside = refl

-- ---- a wrong program: the circle through the points as seen along z, with the lengths that they have there
abbrev seen_lift : GridPoint → Lifted
seen_lift a = lift_of (point p.x p.y (pos 0)) (point a.x a.y (pos 0))

-- it calls that point outside
pub projection_wrong : position_by (circle_of (seen_lift q) (seen_lift r)) (seen_lift w) ≡ position_in_plane p q r w → ⊥
projection_wrong e = let z : is_inside Outside ≡ true = ap is_inside (e ∙ fourth_inside) in true≢false (sym z)
