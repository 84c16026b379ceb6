-- What two answers to one rim file have in common. Definitions only.
use Rattle.std.specs.Prelude.{◌≡◌, ℕ, get_or}
use mathlib.Core.List.{List, Memᴰ}
use Rattle.terms.specs.Entries.{entry_at}
use Rattle.finder.specs.Sizes.{places_of}
use Rattle.triangulator.specs.Call.{total_of}
use Rattle.pipeline.specs.Patching.{Tables, Patching, handed_back}
use Rattle.demands.specs.Demand1.{polygon_in, TooShort}

-- no table is too short for the rim of the file (rule 4.13); for a file that the reader refuses, which has no rim, any tables will do
abbrev pub LongEnough : ℕ → List ℕ → Tables → Type 0
LongEnough limit file t = TooShort (places_of (polygon_in limit file)) t → ⊥

-- one outcome with one total, and the same triangles in the same order; each has the same three vertices and the same own weight in both sets of tables
-- (rule 3.10)
pub record SamePatch (x y : Patching) : Type 0 where
  pub outcome : x.outcome ≡ y.outcome
  pub total : total_of x.outcome ≡ total_of y.outcome
  pub triangles : handed_back x ≡ handed_back y
  pub vertices : (k : ℕ) → Memᴰ k (handed_back x) → entry_at x.left.candidates k ≡ entry_at y.left.candidates k
  pub weights : (k : ℕ) → Memᴰ k (handed_back x) → get_or x.left.weights k 0 ≡ get_or y.left.weights k 0
