-- What is promised of rims, built by hand or in rim files: the finder's call, the one call, their sizes, flat rims, lengths, what is printed. A part of the
-- page (Promises.antt). Definitions only.
use Rattle.triangulator.specs.Call.{patch_with}
use Rattle.std.specs.Prelude.{◌≡◌, ◌≢◌, false, List, ℕ, suc, ◌+◌, ◌*◌, ◌≤◌, ◌<◌, pos, nat_abs, take, Ok, Err, Some, None}
use Rattle.codes.specs.Refusals.{refusal, number_of}
use Rattle.terms.specs.Entries.{triple}
use Rattle.terms.specs.Order.{NoneDue}
use Rattle.terms.specs.Order as order
use Rattle.integers.specs.Rounding.{IsFloorRoot}
use Rattle.geometry.specs.declared.Vector.{Vector}
use Rattle.geometry.specs.Vectors.{dot_of, square_of, zero_vector}
use Rattle.geometry.specs.Vectors as vectors
use Rattle.geometry.specs.Quarters.{IsLength, IsBendBetween, LongerByQuarter}
use Rattle.polygon.specs.declared.Polygon.{Polygon}
use Rattle.polygon.specs.Due as polygon-due
use Rattle.rim_file.specs.File.{Bytes}
use Rattle.reader.specs.Due.{FileDue}
use Rattle.planar.specs.Planes.{OnOneLine}
use Rattle.planar.specs.Circles.{collinear}
use Rattle.polygon.specs.Polygon.{vertex}
use Rattle.weights.specs.Weights.{own_weight}
use Rattle.finder.specs.declared.Places.{Places}
use Rattle.finder.specs.Finding.{counts, Finding, finding}
use Rattle.codes.specs.Refusals as codes
use Rattle.finder.specs.Sizes.{places_of, sizes_of}
use Rattle.triangulation.specs.Triangulations.{ValidProblem}
use Rattle.triangulator.specs.Demands.{Taken}
use Rattle.pipeline.specs.Patching.{Tables, Patching, refused, patch_file}
use Rattle.pipeline.specs.Sizes.{sizes_file}
use Rattle.demands.specs.Candidates.{Face, Flat, CountsInPlane, Candidate, Cocircular}
use Rattle.demands.specs.Demand1.{polygon_in, TooShort, CallDue}
use Rattle.demands.specs.Demand2.{TablesHold}
use Rattle.demands.specs.Quarters.{IsNormal, InQuarters}
use Rattle.demands.specs.Demand3.{ListsLeft, QuartersLeft, problem_left, RightOfTables, HandedOfTables, RestOfTables}
use Rattle.demands.specs.Polygons.{SizesDue}
use Rattle.patch_program.specs.Run.{empty_tables}
use Rattle.patch_program.specs.Printing.{printout_after, printout_of}
use Rattle.patch_program.specs.Demands.{LinesHold}

-- ---- candidates, weights and rows, of a call of the finder: by the numbers due on it, the polygon, the tables that are lent, and what it found
pub record Finds {Place : Type 0} (Before : Place → Place → Type 0) (Due : Place → ℕ → Type 0) (p : Polygon)
    (candidates : List (List ℕ)) (weights : List ℕ) (rows : List (List ℕ)) (f : Finding) : Type 0 where
  -- the lists are found exactly when no number is due (rules 4.31, 4.33, 4.34)
  pub found_when : NoneDue Due → f.answer ≡ Ok (counts (places_of p).candidates (places_of p).rows)
  pub found_only_when : (count row_count : ℕ) → f.answer ≡ Ok (counts count row_count) → NoneDue Due
  -- every other call gets the first number due, and no table is changed (rules 4.30, 4.31, 4.34)
  pub refused_first : (k : ℕ) → order.First Before Due k → f ≡ finding (Err (refusal k)) candidates weights rows
  pub given_first : (k : ℕ) → codes.number_of f.answer ≡ suc k → order.First Before Due (suc k)
  -- demand 2: a triangle is listed exactly when it is a candidate, every weight is the defined one, no pair lacks its row (rules 2.3 to 2.19)
  pub lists : NoneDue Due → TablesHold p (places_of p).candidates (places_of p).rows candidates weights rows f.candidates f.weights f.rows
  -- the lengths in these weights and rows, those of normals outside too, are whole parts of four times the root (rules 2.7, 2.8, 2.10 to 2.15)
  pub quarters : NoneDue Due →
      InQuarters p (take (places_of p).candidates f.candidates) (take (places_of p).candidates f.weights) (take (places_of p).rows f.rows)

-- the places that the tables of a polygon need are told in the same way, before any is lent (rule 5.5)
pub record TellsSizes (p : Polygon) : Type 0 where
  pub known_when : NoneDue (SizesDue p) → sizes_of p ≡ Ok (places_of p)
  pub refused_first : (k : ℕ) → polygon-due.First (SizesDue p) k → sizes_of p ≡ Err (refusal k)
  pub given_first : (k : ℕ) → sizes_of p ≡ Err (refusal k) → polygon-due.First (SizesDue p) k

-- ---- patches, of a call that takes a polygon through finding and tiling: by the numbers due on it, the polygon, the tables, and what it answered and left
pub record Closes {Place : Type 0} (Before : Place → Place → Type 0) (Due : Place → ℕ → Type 0)
    (p : Polygon) (t : Tables) (x : Patching) : Type 0 where
  -- demand 1: the call ends in a patch or 'none' exactly when no number is due (rules 4.31, 4.33, 4.34)
  pub taken_when : NoneDue Due → Taken x.outcome
  pub taken_only_when : Taken x.outcome → NoneDue Due
  -- every other call gets the first number due, and every lent table holds what it held (rules 4.30, 4.31, 4.34)
  pub refused_first : (k : ℕ) → order.First Before Due k → x ≡ refused k t
  pub given_first : (k : ℕ) → number_of x.outcome ≡ suc k → order.First Before Due (suc k)
  -- no total was agreed, so never 23 (rules 4.23, 5.1)
  pub never_23 : x.outcome ≡ Err (refusal 23) → ⊥
  -- demand 2, of the lists in the first places of the tables (rules 2.3 to 2.19, 3.9)
  pub lists : NoneDue Due → ListsLeft p t x.left
  -- with lengths that are whole parts of four times the root (rules 2.7, 2.8, 2.10 to 2.15)
  pub quarters : NoneDue Due → QuartersLeft p x.left
  -- demand 3, over these lists: a patch exactly when they hold a tiling, in walk order with its own total; every other tiling costs at least as much, and
  -- each that costs the same comes later; 'none' exactly when they hold none (rules 3.3 to 3.7)
  pub right : NoneDue Due → RightOfTables p x
  -- what the caller is handed: after a patch its n - 2 triangles in walk order, each once; after 'none' nothing (rule 3.8)
  pub handed : NoneDue Due → HandedOfTables p x
  -- beside it the work table has 0 for each candidate, and every further place of both tables what it held (rules 3.8, 3.9)
  pub rest : NoneDue Due → RestOfTables p t x
  -- what tilings are (`Tilings` of Jobs.antt) is said of these lists
  pub valid : NoneDue Due → ValidProblem (problem_left p x.left)

-- the sizing call on a rim file: the one call gives its number, and 13 exactly where a table has fewer places than it says (rules 4.13, 5.5)
pub record TellsFileSizes (limit : ℕ) (file : List ℕ) (t : Tables) : Type 0 where
  pub sizes_refused : (k : ℕ) → sizes_file limit file ≡ Err (refusal k) → patch_file limit file t ≡ refused k t
  pub shorter_13 : {needed : Places} → sizes_file limit file ≡ Ok needed → TooShort needed t → patch_file limit file t ≡ refused 13 t
  pub enough_taken : {needed : Places} → sizes_file limit file ≡ Ok needed → (TooShort needed t → ⊥) →
      Taken (patch_file limit file t).outcome

-- ---- flat rims
pub record FlatRims : Type 0 where
  -- where some plane holds every vertex the candidates are the threes that count, in any other rim the faces of the fours that do (rules 2.4, 2.5, 2.19)
  pub flat_candidate : (p : Polygon) → Flat p → (a b c : ℕ) → Candidate p a b c → CountsInPlane p a b c
  pub solid_candidate : (p : Polygon) → (Flat p → ⊥) → (a b c : ℕ) → Candidate p a b c → Face p a b c
  -- 12 exactly where the circle of a three that counts has a fourth vertex on it (rule 4.12)
  pub circle_gets_12 : (limit : ℕ) (file : List ℕ) → Bytes file → (t : Tables) → NoneDue (FileDue limit file) →
      Cocircular (polygon_in limit file) → patch_file limit file t ≡ refused 12 t
  pub twelve_by_circle : (limit : ℕ) (file : List ℕ) → Bytes file → (t : Tables) → number_of (patch_file limit file t).outcome ≡ 12 →
      Flat (polygon_in limit file) → Cocircular (polygon_in limit file)
  -- a rim with all vertices on one line gets 'none', and every other triangle itself (rule 2.19)
  pub line_gets_none : (limit : ℕ) (file : List ℕ) → Bytes file → (t : Tables) → NoneDue (CallDue limit file t) →
      OnOneLine (vertex (polygon_in limit file)) (polygon_in limit file).n → (patch_file limit file t).outcome ≡ Ok None
  pub triangle_gets_patch : (limit : ℕ) (file : List ℕ) → Bytes file → (t : Tables) → NoneDue (CallDue limit file t) →
      (polygon_in limit file).n ≡ 3 →
      collinear (vertex (polygon_in limit file) 0) (vertex (polygon_in limit file) 1) (vertex (polygon_in limit file) 2) ≡ false →
      (patch_file limit file t).outcome ≡ Ok (Some (patch_with 1 (own_weight (polygon_in limit file) (triple 0 1 2))))

-- ---- lengths in quarters, of every normal of a triangle and of a surface outside
pub record Lengths : Type 0 where
  -- m / 4 is at most the Euclidean length, and less than a quarter below it; there is one such m, and it is above 0 unless the normal is zero (rule 2.7)
  pub one_length : (n : Vector) → IsNormal n → (m : ℕ) × IsLength n m × ((l : ℕ) → IsLength n l → l ≡ m)
  pub above_0 : (n : Vector) → IsNormal n → n ≢ zero_vector → (m : ℕ) → IsLength n m → 0 < m
  -- so it is about four times the whole part r of the root (rule 2.7)
  pub about_four_times : (n : Vector) (m r : ℕ) → IsLength n m → IsFloorRoot (nat_abs (square_of n)) r → (4 * r ≤ m) × (m < 4 * (r + 1))
  -- of two normals whose Euclidean lengths differ by a quarter or more the longer has the larger m (rule 2.7)
  pub longer_is_more : (n k : Vector) → LongerByQuarter n k → (l m : ℕ) → IsLength n l → IsLength k m → l < m
  -- two normals that are not zero have one bend, from 0 to 2000 (rules 2.10, 2.11)
  pub one_bend : (n k : Vector) → IsNormal n → IsNormal k → n ≢ zero_vector → k ≢ zero_vector →
      (b : ℕ) × (b ≤ 2000) × IsBendBetween n k b × ((c : ℕ) → IsBendBetween n k c → c ≡ b)
  -- 0 where they are equal, 1000 where they are perpendicular, 2000 where they are opposite (rules 2.11, 6.5)
  pub equal : (n : Vector) → IsNormal n → n ≢ zero_vector → IsBendBetween n n 0
  pub perpendicular : (n k : Vector) → IsNormal n → IsNormal k → n ≢ zero_vector → k ≢ zero_vector → dot_of n k ≡ pos 0 → IsBendBetween n k 1000
  pub opposite : (n : Vector) → IsNormal n → n ≢ zero_vector → IsBendBetween n (vectors.opposite n) 2000

-- ---- what a run of the bench or trim program is given to print, of `printout_of` (rules 5.3, 5.4)
pub record Printing (limit : ℕ) (file : List ℕ) : Type 0 where
  -- the outcome of the one call over the program's own tables, the number of vertices, and a line for each triangle
  pub printed : printout_of limit file ≡ printout_after (patch_file limit file empty_tables)
  -- each line has the triangle's vertices, its whole own weight, and the row weight of the one triangle that it hangs on; all add up to the total
  pub lines : LinesHold file (patch_file limit file empty_tables)
