-- What a check makes of a polygon that a host built by hand. Definitions only.
use Rattle.std.specs.Prelude.{Result, Ok, Err}
use Rattle.codes.specs.declared.Refusal.{Refusal}
use Rattle.polygon.specs.declared.Polygon.{Polygon}
use Rattle.polygon.specs.declared.rim.Rim.{Rim}

-- the polygon itself, or the refusal (rule 4.34)
abbrev pub as_polygon : Result Rim Refusal → Result Polygon Refusal
as_polygon (Ok rim) = Ok rim.polygon
as_polygon (Err r) = Err r
