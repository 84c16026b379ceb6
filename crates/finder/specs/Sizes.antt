-- The places that a polygon needs in the lent tables. Definitions only.
use Rattle.std.specs.Prelude.{false, ℕ, zero, suc, ◌-◌, length, Result, Ok, Err}
use Rattle.codes.specs.declared.Refusal.{Refusal}
use Rattle.codes.specs.Refusals.{or_refused}
use Rattle.polygon.specs.declared.Polygon.{Polygon}
use Rattle.delaunay.specs.Candidates.{candidates_of}
use Rattle.dihedrals.specs.Dihedrals.{rows_of}
use Rattle.finder.specs.declared.Places.{Places}
use Rattle.finder.specs.Finding.{number_due}

-- triangles n - 2; one place for each candidate, which is for the candidate, weight and work tables; one for each row (rule 4.13)
abbrev pub places_of : Polygon → Places
places_of p = record { triangles = p.n - 2; candidates = length (candidates_of p); rows = length (rows_of p (candidates_of p)) }

-- the places, or a refusal (rule 5.5)
abbrev pub Sizes : Type 0
Sizes = Result Places Refusal

-- the places of each case of an answer (rules 5.2, 5.5)
abbrev pub no_places : Places
no_places = record { triangles = 0; candidates = 0; rows = 0 }

abbrev pub places_in : Sizes → Places
places_in (Ok places) = places
places_in (Err r) = no_places

-- what the places are by the first number due (rule 5.5)
abbrev pub due_places : ℕ → Polygon → Places
due_places zero p = places_of p
due_places (suc k) p = no_places

-- the places, or the first number due on the polygon itself, before any table is looked at (rule 5.5)
abbrev pub sizes_by : ℕ → Polygon → Sizes
sizes_by k p = or_refused k (places_of p)

abbrev pub sizes_of : Polygon → Sizes
sizes_of p = sizes_by (number_due false p) p
