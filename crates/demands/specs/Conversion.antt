-- Two files that all calls with a limit answer alike. Definitions only.
use Rattle.std.specs.Prelude.{◌≡◌, List, ℕ}
use Rattle.reader.specs.Reading.{reading_of}
use Rattle.delaunay.specs.Candidates.{candidates_of}
use Rattle.pipeline.specs.Finding.{find_file}
use Rattle.pipeline.specs.Patching.{Tables, weights_in, rows_in, patch_file}
use Rattle.pipeline.specs.Sizes.{sizes_file}
use Rattle.demands.specs.Demand1.{polygon_in}

-- the same reading, candidates, own weights and rows, the same places needed, and over any tables the same lists found, the same answer and the same
-- places left, of the finder's call and of the one call (rule 1.16)
pub record SameAnswers (limit : ℕ) (s t : List ℕ) : Type 0 where
  pub reading : reading_of limit s ≡ reading_of limit t
  pub candidates : candidates_of (polygon_in limit s) ≡ candidates_of (polygon_in limit t)
  pub weights : weights_in (polygon_in limit s) ≡ weights_in (polygon_in limit t)
  pub rows : rows_in (polygon_in limit s) ≡ rows_in (polygon_in limit t)
  pub sizes : sizes_file limit s ≡ sizes_file limit t
  pub lists : (candidates : List (List ℕ)) (weights : List ℕ) (rows : List (List ℕ)) →
      find_file limit s candidates weights rows ≡ find_file limit t candidates weights rows
  pub patch : (lent : Tables) → patch_file limit s lent ≡ patch_file limit t lent
