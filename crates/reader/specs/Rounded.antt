-- What the coordinates of a vertex are to the floats of the file. Definitions only.
use Rattle.std.specs.Prelude.{◌≡◌, true, List, ℕ, ◌≤◌, ◌<◌, ℤ, Float}
use Rattle.grid.specs.Number.{finite, in_range, HalfStep, EvenHalf}
use Rattle.grid.specs.declared.GridPoint.{GridPoint}
use Rattle.rim_file.specs.File.{kind, first_number, second_number, third_number}
use Rattle.reader.specs.Due.{record_start}

-- rules 1.9 and 1.10: the float v is in range, and g is the whole number nearest to 8v, at a half the even one
pub record RoundsTo (v : Float) (g : ℤ) : Type 0 where
  pub finite : finite v ≡ true
  pub ranged : in_range v ≡ true
  pub half_step : HalfStep v g
  pub even_half : EvenHalf v g

-- rules 1.6 and 1.7: p, at position i of the chain, has its x and y from its own record, and its height from the last point up to i
pub record Rounded (s : List ℕ) (i : ℕ) (p : GridPoint) : Type 0 where
  pub x : RoundsTo (first_number s (record_start s i)) p.x
  pub y : RoundsTo (second_number s (record_start s i)) p.y
  -- the position of that point: i itself where the record at i is a point
  pub from : ℕ
  pub up_to : from ≤ i
  pub point : kind s (record_start s from) ≡ 1
  pub last : (j : ℕ) → from < j → j ≤ i → kind s (record_start s j) ≡ 1 → ⊥
  pub z : RoundsTo (third_number s (record_start s from)) p.z
