-- One rim file under two limits. Definitions only.
use Rattle.std.specs.Prelude.{◌≡◌, List, ℕ}
use Rattle.reader.specs.Reading.{reading_of}
use Rattle.pipeline.specs.Finding.{find_file}
use Rattle.pipeline.specs.Patching.{Tables, patch_file}
use Rattle.pipeline.specs.Sizes.{sizes_file}

-- the calls with one limit answer as those with the other (rule 3.11): the same reading, the same places needed, and over any tables the same lists
-- found and the same outcome, with the same in every place
pub record OneAnswer (small large : ℕ) (file : List ℕ) : Type 0 where
  pub reading : reading_of small file ≡ reading_of large file
  pub sizes : sizes_file small file ≡ sizes_file large file
  pub lists : (candidates : List (List ℕ)) (weights : List ℕ) (rows : List (List ℕ)) →
      find_file small file candidates weights rows ≡ find_file large file candidates weights rows
  pub patch : (lent : Tables) → patch_file small file lent ≡ patch_file large file lent
