-- Grid numbers of a record's floats. Assumes nothing.
use mathlib.Core.Path.{◌≡◌, refl, ◌∙◌}
use mathlib.Core.Bool.{Bool, true, false, cond}
use mathlib.Core.List.{[], ◌∷◌}
use Prim.Native.Nat.{ℕ}
use lib.IntN.{ℤ}
use lib.Ieee.{Float}
use Rattle.lists.specs.Lists.{both}
use Rattle.grid.specs.declared.OffGrid.TheVariants.{NotFinite, OutOfRange}
use Rattle.grid.specs.Number.{GridNumber, finite, in_range, round_eighths, grid_number_of}
use Rattle.grid.specs.Point.{point}
use Rattle.rim_file.specs.Record.{numbers_code}
use Rattle.codes.specs.Refusals.{or_refused}
use Rattle.rim_file.specs.Steps.{is_finite, is_value, placed}
use Rattle.std.proofs.Common.{Ok, Err}

-- a grid number by its tests
number : Bool → Bool → ℤ → GridNumber
number f r g = cond f (cond r (Ok g) (Err OutOfRange)) (Err NotFinite)

number_finite : (f r : Bool) (g : ℤ) → is_finite (number f r g) ≡ f
unfolding number
number_finite false r g = refl
number_finite true false g = refl
number_finite true true g = refl

number_value : (f r : Bool) (g : ℤ) → is_value (number f r g) ≡ both f r
unfolding number
number_value false r g = refl
number_value true false g = refl
number_value true true g = refl

both_self : (b : Bool) → both b true ≡ b
both_self true = refl
both_self false = refl

code : Bool → Bool → ℕ
code f r = cond f (cond r 0 9) 8

-- three grid numbers are placed as the vertex of their values, unless a number is due
numbers_placed : (fx fy fz rx ry rz : Bool) (gx gy gz : ℤ) →
    placed (number fx rx gx) (number fy ry gy) (number fz rz gz) ≡ or_refused (code (both fx (both fy fz)) (both rx (both ry rz))) (point gx gy gz)
unfolding placed number code
numbers_placed false fy fz rx ry rz gx gy gz = refl
numbers_placed true false fz false ry rz gx gy gz = refl
numbers_placed true false fz true ry rz gx gy gz = refl
numbers_placed true true false rx ry rz gx gy gz = rw (number_finite true rx gx, number_finite true ry gy)
numbers_placed true true true false ry rz gx gy gz = rw (number_finite true ry gy, number_finite true rz gz)
numbers_placed true true true true false rz gx gy gz = rw (number_finite true rz gz)
numbers_placed true true true true true false gx gy gz = refl
numbers_placed true true true true true true gx gy gz = refl

pub point_placed : (x y z : Float) →
    placed (grid_number_of x) (grid_number_of y) (grid_number_of z)
    ≡ or_refused (numbers_code (x ∷ y ∷ z ∷ [])) (point (round_eighths x) (round_eighths y) (round_eighths z))
unfolding grid_number_of numbers_code number code
point_placed x y z =
    numbers_placed (finite x) (finite y) (finite z) (in_range x) (in_range y) (in_range z) (round_eighths x) (round_eighths y) (round_eighths z)
    ∙ rw (both_self (finite z), both_self (in_range z))

pub level_placed : (x y : Float) (h : ℤ) →
    placed (grid_number_of x) (grid_number_of y) (Ok h) ≡ or_refused (numbers_code (x ∷ y ∷ [])) (point (round_eighths x) (round_eighths y) h)
unfolding grid_number_of numbers_code number code
level_placed x y h = numbers_placed (finite x) (finite y) true (in_range x) (in_range y) true (round_eighths x) (round_eighths y) h
