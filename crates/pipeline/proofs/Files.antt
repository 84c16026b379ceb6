-- The reader's answer and those of the calls on a file. Assumes nothing.
use mathlib.Core.Path.{◌≡◌, refl, sym, ap, ◌∙◌}
use mathlib.Core.Bool.{false}
use mathlib.Core.List.{List}
use Prim.Native.Nat.{ℕ, zero, suc, ◌<◌}
use native.Mathlib.Omega.{arith}
use Rattle.codes.specs.declared.Refusal.{Refusal}
use Rattle.codes.specs.Refusals.{refusal, number_of, or_refused}
use Rattle.codes.proofs.Refusals.{none_answered, refused_answered}
use Rattle.polygon.specs.declared.Polygon.{Polygon}
use Rattle.terms.specs.Numbers.{first_due}
use Rattle.reader.specs.Reading.{Reading, polygon_of, reading_of}
use Rattle.reader.specs.Reading as reader
use Rattle.std.specs.Prelude.{Ok, Err}
use Rattle.finder.specs.Finding.{values, values_of, due_values, Finding, finding, number_due, find_by, find_number, find_call}
use Rattle.finder.specs.Sizes.{Sizes, no_places, places_in, due_places, sizes_by, sizes_of}
use Rattle.finder.proofs.Answers.{sizes_values}
use Rattle.pipeline.specs.Finding.{find_file_number, find_file_values, find_file}
use Rattle.pipeline.specs.Patching.{Tables, Patching, patching, patch_by, polygon_number, patch_polygon, patch_file}
use Rattle.pipeline.specs.Sizes.{sizes_number, sizes_file}

-- what the reader's answer says of the first number due: on a refusal, and on a file that is read
module _ (limit : ℕ) (s : List ℕ) {A : Type 0} (call : ℕ → Polygon → A) (f : Polygon → ℕ) where
  abbrev called : A
  called = call (first_due (reader.number_due limit s) (f (polygon_of s))) (polygon_of s)

  by_refusal : (refuse : Refusal → A) → ((k : ℕ) → call (suc k) (polygon_of s) ≡ refuse (refusal (suc k))) → {r : Refusal} →
      Err r ≡ reading_of limit s → refuse r ≡ called
  by_refusal refuse refuses {r} e = by (reader.number_due limit s) (refused_answered (reader.number_due limit s) (polygon_of s) e)
    where
      by : (k : ℕ) → (0 < k) × (r ≡ refusal k) → refuse r ≡ call (first_due k (f (polygon_of s))) (polygon_of s)
      by zero d = absurd (omega arith)
      by (suc k) d = ap refuse d.1 ∙ sym (refuses k)

  by_polygon : {p : Polygon} → Ok p ≡ reading_of limit s → call (f p) p ≡ called
  by_polygon e =
      let d = none_answered (reader.number_due limit s) e in
      ap (λ (q : Polygon). call (f q) q) d.1 ∙ sym (ap (λ (k : ℕ). call (first_due k (f (polygon_of s))) (polygon_of s)) d.0)

module _ (limit : ℕ) (s : List ℕ) (t : Tables) where
  pub file_refused : {r : Refusal} → Err r ≡ reading_of limit s → patching (Err r) t ≡ patch_file limit s t
  unfolding patch_file
  file_refused e =
      by_refusal limit s (λ (k : ℕ) (p : Polygon). patch_by k p t) (λ (p : Polygon). polygon_number p t) (λ (r : Refusal). patching (Err r) t) (λ k. refl) e

  pub file_read : {x : Patching} {p : Polygon} → Ok p ≡ reading_of limit s → x ≡ patch_polygon p t → x ≡ patch_file limit s t
  unfolding patch_file patch_polygon
  file_read e f = f ∙ by_polygon limit s (λ (k : ℕ) (p : Polygon). patch_by k p t) (λ (p : Polygon). polygon_number p t) e

-- the equation of the sizing call gives its number and places
sized_values : (limit : ℕ) (s : List ℕ) {x : Sizes} → x ≡ sizes_file limit s →
    (x ≡ sizes_file limit s) × ((number_of x ≡ sizes_number limit s) × (places_in x ≡ due_places (sizes_number limit s) (polygon_of s)))
unfolding sizes_file
sized_values limit s e = sizes_values (polygon_of s) (sizes_number limit s) e

module _ (limit : ℕ) (s : List ℕ) where
  pub sizes_refused : {r : Refusal} → Err r ≡ reading_of limit s →
      (Err r ≡ sizes_file limit s) × ((r.number ≡ sizes_number limit s) × (no_places ≡ due_places (sizes_number limit s) (polygon_of s)))
  unfolding sizes_file
  sizes_refused e =
      sized_values limit s (by_refusal limit s sizes_by (λ (p : Polygon). number_due false p) (λ (r : Refusal). Err r) (λ k. refl) e)

  pub sizes_read : {x : Sizes} {p : Polygon} → Ok p ≡ reading_of limit s → x ≡ sizes_of p →
      (x ≡ sizes_file limit s) × ((number_of x ≡ sizes_number limit s) × (places_in x ≡ due_places (sizes_number limit s) (polygon_of s)))
  unfolding sizes_file
  sizes_read e f = sized_values limit s (f ∙ by_polygon limit s sizes_by (λ (p : Polygon). number_due false p) e)

-- ---- the finder's call, by the answer of the reader
abbrev find_after : Reading → List (List ℕ) → List ℕ → List (List ℕ) → Finding
find_after (Err r) candidates weights rows = finding (Err r) candidates weights rows
find_after (Ok p) candidates weights rows = find_call p candidates weights rows

module _ (limit : ℕ) (s : List ℕ) (candidates : List (List ℕ)) (weights : List ℕ) (rows : List (List ℕ)) where
  after_reading : find_file limit s candidates weights rows ≡ find_after (reading_of limit s) candidates weights rows
  unfolding find_file
  after_reading = by (reader.number_due limit s)
    where
      by : (k : ℕ) → find_by (first_due k (find_number (polygon_of s) candidates weights rows)) (polygon_of s) candidates weights rows
          ≡ find_after (or_refused k (polygon_of s)) candidates weights rows
      by zero = refl
      by (suc k) = refl

  -- the equation of the call gives its number and counts
  found_values : {x : Finding} → x ≡ find_file limit s candidates weights rows →
      (x ≡ find_file limit s candidates weights rows) × (values_of x.answer ≡ find_file_values limit s candidates weights rows)
  unfolding find_file
  found_values e = (e, ap (λ (x : Finding). values_of x.answer) e ∙ by (find_file_number limit s candidates weights rows))
    where
      by : (k : ℕ) → values_of (find_by k (polygon_of s) candidates weights rows).answer ≡ due_values k (polygon_of s)
      by zero = refl
      by (suc k) = refl

  after : {r : Reading} → r ≡ reading_of limit s → find_after r candidates weights rows ≡ find_file limit s candidates weights rows
  after e = ap (λ (x : Reading). find_after x candidates weights rows) e ∙ sym after_reading

  pub lists_refused : {r : Refusal} → Err r ≡ reading_of limit s →
      (finding (Err r) candidates weights rows ≡ find_file limit s candidates weights rows)
      × (values r.number 0 0 ≡ find_file_values limit s candidates weights rows)
  lists_refused e = found_values (after e)

  pub lists_read : {x : Finding} {p : Polygon} → Ok p ≡ reading_of limit s → x ≡ find_call p candidates weights rows →
      (x ≡ find_file limit s candidates weights rows) × (values_of x.answer ≡ find_file_values limit s candidates weights rows)
  lists_read e f = found_values (f ∙ after e)

-- the finder's call goes by the reading alone: two files, each under a limit, that are read alike are answered alike (rules 1.16, 3.11)
pub lists_alike : (small large : ℕ) (s t : List ℕ) → reading_of small s ≡ reading_of large t →
    (candidates : List (List ℕ)) (weights : List ℕ) (rows : List (List ℕ)) → find_file small s candidates weights rows
    ≡ find_file large t candidates weights rows
lists_alike small large s t e candidates weights rows =
    after_reading small s candidates weights rows
    ∙ ap (λ (x : Reading). find_after x candidates weights rows) e
    ∙ sym (after_reading large t candidates weights rows)
