-- What the private functions say to each other; nobody has to believe it.
use Rattle.std.specs.Prelude.{◌≡◌, cond, false, List, ℕ, ◌-◌, ◌≤◌, length, Result, Ok, Err}
use Rattle.codes.specs.declared.Refusal.{Refusal}
use Rattle.codes.specs.Refusals.{refusal, or_refused}
use Rattle.polygon.specs.declared.Polygon.{Polygon}
use Rattle.polygon.specs.declared.rim.Rim.{Rim}
use Rattle.polygon.specs.Rim.{as_polygon}
use Rattle.faces.specs.Faces.{triples_of}
use Rattle.faces.specs.Masks.{has}
use Rattle.delaunay.specs.Candidates.{candidates_of}
use Rattle.hinges.specs.Hinges.{inners_of}
use Rattle.dihedrals.specs.Dihedrals.{rows_of}
use Rattle.weights.specs.Weights.{weights_of}
use Rattle.lists.specs.Lists.{either, filled}
use Rattle.finder.specs.declared.Places.{Places}
use Rattle.finder.specs.Finding.{counts, Finding, finding, short, number_due}

-- the triangles of a set on the polygon's vertices
abbrev pub faces_of : Polygon → List ℕ → List (List ℕ)
faces_of p masks = triples_of p.n (has masks)

-- the number due before the tables are looked at; where none is, the polygon is a rim, and the set has the candidates
pub record Searched (p : Polygon) (answer : Result Rim Refusal) (masks : List ℕ) : Type 0 where
  pub is_due : as_polygon answer ≡ or_refused (number_due false p) p
  pub listed : number_due false p ≡ 0 → faces_of p masks ≡ candidates_of p

-- the places for the triangles of a set, the rows counted as hanging pairs
abbrev pub places_for : ℕ → List (List ℕ) → Places
places_for n found = record { triangles = n - 2; candidates = length found; rows = length (inners_of found) }

-- the tables have a place for each candidate, weight and row
pub record Room (p : Polygon) (found candidates : List (List ℕ)) (weights : List ℕ) (rows : List (List ℕ)) : Type 0 where
  pub for_candidates : length found ≤ length candidates
  pub for_weights : length found ≤ length weights
  pub for_rows : length (rows_of p found) ≤ length rows

-- what the tables hold then: the lists in their first places
pub record Written (p : Polygon) (found candidates : List (List ℕ)) (weights : List ℕ) (rows : List (List ℕ))
    (candidates' : List (List ℕ)) (weights' : List ℕ) (rows' : List (List ℕ)) : Type 0 where
  pub the_candidates : candidates' ≡ filled found candidates
  pub the_weights : weights' ≡ filled (weights_of p found) weights
  pub the_rows : rows' ≡ filled (rows_of p found) rows

-- 13 where one of the five tables is too short, else the lists
unfoldable pub fill_or13 : Polygon → List (List ℕ) → ℕ → ℕ → List (List ℕ) → List ℕ → List (List ℕ) → Finding
fill_or13 p found trianglePlaces workPlaces candidates weights rows =
    cond
    (either
    (either (short trianglePlaces (p.n - 2)) (short workPlaces (length found)))
    (either (short (length candidates) (length found))
    (either (short (length weights) (length found)) (short (length rows) (length (rows_of p found))))))
    (finding (Err (refusal 13)) candidates weights rows)
    (finding (Ok (counts (length found) (length (rows_of p found)))) (filled found candidates) (filled (weights_of p found) weights)
    (filled (rows_of p found) rows))
