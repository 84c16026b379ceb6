-- The grid number of a float, from its exact value v. A finite float is ± m * 2 ^ e, and 2 ^ e is the fraction up e / down e (`lib.Ieee`). Definitions only.
use Rattle.std.specs.Prelude.{◌≡◌, ℕ, ◌+◌, ◌*◌, ◌/◌, ◌%◌, ◌≤◌, Bool, true, false, cond, ℤ, pos, neg_ℤ, nat_abs, ◌-ℤ◌, ◌*ℤ◌, leb, ltb, eqb, Float, Result, Ok, Err}
use Rattle.std.specs.Float.{nan, inf, fin}
use Rattle.std.specs.Float.Ieee.{up, down}
use Rattle.grid.specs.declared.OffGrid.{OffGrid}
use Rattle.grid.specs.declared.OffGrid.TheVariants.{NotFinite, OutOfRange}

-- rule 4.8: neither an infinity nor a NaN
unfoldable pub finite : Float → Bool
finite nan = false
finite (inf s) = false
finite (fin s m e) = true

-- 8 |v| as a fraction, numerator v / denominator v; v is below zero, or minus zero, where negative v (rule 1.9)
unfoldable pub numerator : Float → ℕ
numerator nan = 0
numerator (inf s) = 0
numerator (fin s m e) = 8 * (m * up e)

unfoldable pub denominator : Float → ℕ
denominator nan = 1
denominator (inf s) = 1
denominator (fin s m e) = down e

unfoldable pub negative : Float → Bool
negative nan = false
negative (inf s) = s
negative (fin s m e) = s

-- a whole number with a sign; minus zero is 0 (rule 1.10)
abbrev pub signed : Bool → ℕ → ℤ
signed true n = neg_ℤ (pos n)
signed false n = pos n

-- rule 1.9: 8v, before it is rounded, is from -1000 to 1000
unfoldable pub in_range : Float → Bool
unfolding numerator denominator
in_range v = leb (numerator v) (1000 * denominator v)

-- rule 1.10: of a whole number and the next, the even one
abbrev pub even_of : ℕ → ℕ
even_of whole = cond (eqb (whole % 2) 0) whole (whole + 1)

-- rule 1.10: the whole number nearest to a / b: its whole part where less than half is left, the next number where more, at a half the even one of the two
abbrev pub nearest_even : ℕ → ℕ → ℕ
nearest_even a b =
    let whole = a / b in
    let twice = a % b * 2 in
    cond (ltb twice b) whole (cond (ltb b twice) (whole + 1) (even_of whole))

-- rule 1.10: the whole number nearest to 8v, at a half the even one, above and below zero alike
unfoldable pub round_eighths : Float → ℤ
unfolding numerator denominator negative
round_eighths v = signed (negative v) (nearest_even (numerator v) (denominator v))

-- a grid number (rule 1.10), or why there is none (rules 4.8 and 4.9)
abbrev pub GridNumber : Type 0
GridNumber = Result ℤ OffGrid

-- rules 4.8 and 4.9, in this order; where neither is due, the grid number
unfoldable pub grid_number_of : Float → GridNumber
unfolding finite in_range round_eighths
grid_number_of v = cond (finite v) (cond (in_range v) (Ok (round_eighths v)) (Err OutOfRange)) (Err NotFinite)

-- How far a whole number g is from 8v: | g - 8v | times the denominator, which is a whole number (rule 1.10).
abbrev pub distance : ℤ → Float → ℕ
distance g v = nat_abs ((g *ℤ pos (denominator v)) -ℤ signed (negative v) (numerator v))

-- rule 1.10: g is at most half a step from 8v
pub record HalfStep (v : Float) (g : ℤ) : Type 0 where
  pub near : 2 * distance g v ≤ denominator v

-- rule 1.10: where g is exactly half a step from 8v, it is even
pub record EvenHalf (v : Float) (g : ℤ) : Type 0 where
  pub even : 2 * distance g v ≡ denominator v → nat_abs g % 2 ≡ 0
