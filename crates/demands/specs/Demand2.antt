-- Demand 2 as a statement about lists of candidates, weights and rows, and about the tables after a call. Definitions only.
use Rattle.std.specs.Prelude.{◌≡◌, true, ℕ, ◌≤◌, ◌<◌, length, take, drop, get_or}
use mathlib.Core.List.{List, Memᴰ}
use Rattle.polygon.specs.declared.Polygon.{Polygon}
use Rattle.geometry.specs.Faces.{bend_between, bend_weight_of}
use Rattle.terms.specs.Limits.{max_weight}
use Rattle.terms.specs.Entries.{triple, entry_at, outer, inner, row_weight, before, row_before, hangs}
use Rattle.dihedrals.specs.Dihedrals.{face_normal}
use Rattle.weights.specs.Weights.{own_weight}
use Rattle.demands.specs.Candidates.{Candidate}

-- row k is that of outer o and inner i (rule 2.13)
pub record IsRow (rows : List (List ℕ)) (k o i : ℕ) : Type 0 where
  pub below : k < length rows
  pub outer_is : outer (entry_at rows k) ≡ o
  pub inner_is : inner (entry_at rows k) ≡ i

-- the lists are those of the polygon, all of it and nothing else (rules 2.3 to 2.15 and 2.19)
pub record Demand2 (p : Polygon) (candidates : List (List ℕ)) (weights : List ℕ) (rows : List (List ℕ)) : Type 0 where
  -- (a, b, c) stands in the list exactly when it is a candidate, and nothing else does (rule 2.4)
  pub listed : (a b c : ℕ) → Candidate p a b c → Memᴰ (triple a b c) candidates
  pub only_listed : (t : List ℕ) → Memᴰ t candidates → (a : ℕ) × (b : ℕ) × (c : ℕ) × (t ≡ triple a b c) × Candidate p a b c
  -- the list is strictly ascending, so each candidate stands in it once (rule 2.4)
  pub ascending : (i j : ℕ) → i < j → j < length candidates → before (entry_at candidates i) (entry_at candidates j) ≡ true
  -- each weight is the candidate's own: the area factor times the length of its normal, and besides, summed over its rim edges that have a surface
  -- outside, the bend factor times the bend against that surface (rules 2.8, 2.14, 2.15)
  pub weight_count : length weights ≡ length candidates
  pub weight : (i : ℕ) → i < length candidates → get_or weights i 0 ≡ own_weight p (entry_at candidates i)
  -- every row is that of a hanging pair, and carries the bend factor times the bend (rules 2.9, 2.12, 2.13)
  pub hinge : (k : ℕ) → k < length rows → hangs (entry_at candidates (inner (entry_at rows k))) (entry_at candidates (outer (entry_at rows k))) ≡ true
  pub hinge_outer : (k : ℕ) → k < length rows → outer (entry_at rows k) < length candidates
  pub hinge_inner : (k : ℕ) → k < length rows → inner (entry_at rows k) < length candidates
  pub hinge_weights : (k : ℕ) → k < length rows →
      row_weight (entry_at rows k)
      ≡ bend_weight_of p.bend_factor
      (bend_between (face_normal p (entry_at candidates (inner (entry_at rows k)))) (face_normal p (entry_at candidates (outer (entry_at rows k)))))
  -- every hanging pair has exactly one row, whatever its weight (rule 2.13)
  pub row : (o i : ℕ) → o < length candidates → i < length candidates → hangs (entry_at candidates i) (entry_at candidates o) ≡ true → (k : ℕ)
      × IsRow rows k o i
  pub one_row : (o i j k : ℕ) → IsRow rows j o i → IsRow rows k o i → j ≡ k
  -- rows rise by outer, then by inner (rule 2.13)
  pub rows_ascending : (j k : ℕ) → j < k → k < length rows → row_before (entry_at rows j) (entry_at rows k) ≡ true
  -- no weight is over what 17 allows (rule 4.17)
  pub light : (i : ℕ) → i < length candidates → get_or weights i 0 ≤ max_weight
  pub row_light : (k : ℕ) → k < length rows → row_weight (entry_at rows k) ≤ max_weight

-- what the tables hold after a call with so many candidates and rows (rule 3.9): the lists in the first places, and each further place what it held
pub record TablesHold (p : Polygon) (count row_count : ℕ)
    (candidates : List (List ℕ)) (weights : List ℕ) (rows : List (List ℕ))
    (candidates' : List (List ℕ)) (weights' : List ℕ) (rows' : List (List ℕ)) : Type 0 where
  pub lists : Demand2 p (take count candidates') (take count weights') (take row_count rows')
  pub counted : length (take count candidates') ≡ count
  pub rows_counted : length (take row_count rows') ≡ row_count
  pub further_candidates : drop count candidates' ≡ drop count candidates
  pub further_weights : drop count weights' ≡ drop count weights
  pub further_rows : drop row_count rows' ≡ drop row_count rows
