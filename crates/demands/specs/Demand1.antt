-- The numbers due on a limit, a rim file and the tables lent with it, each by itself and at its place. Definitions only.
use Rattle.std.specs.Prelude.{List, ℕ, ◌<◌, length}
use Rattle.polygon.specs.declared.Polygon.{Polygon}
use Rattle.reader.specs.Order.{FilePlace, rim}
use Rattle.reader.specs.Due.{FileDue}
use Rattle.reader.specs.Reading.{reading_of}
use Rattle.reader.specs.Reading as reader
use Rattle.finder.specs.declared.Places.{Places}
use Rattle.finder.specs.Sizes.{places_of}
use Rattle.pipeline.specs.Patching.{Tables}
use Rattle.demands.specs.Candidates.{Degenerate}

-- the polygon of a file read with a limit: its vertices are what the records give (`read_vertices` of reader/proofs/Accepted.antt), and none where the
-- reader refuses the file, so that 12 and 13 are asked only of what there is (rule 4.31)
abbrev pub polygon_in : ℕ → List ℕ → Polygon
polygon_in limit file = reader.polygon_in (reading_of limit file)

-- one of the tables has fewer places than these (rule 4.13)
pub data TooShort (needed : Places) (t : Tables) : Type 0 where
  triangles : length t.triangles < needed.triangles → TooShort needed t
  candidates : length t.candidates < needed.candidates → TooShort needed t
  weights : length t.weights < needed.candidates → TooShort needed t
  rows : length t.rows < needed.rows → TooShort needed t
  work : length t.work < needed.candidates → TooShort needed t

-- number k is due on a call with a limit and a file, at its place (rules 4.1 to 4.14, 4.18 and 4.20); 12 on the rim as a whole, and 13 where the tables of
-- the call are too short
pub data FileCallDue (limit : ℕ) (file : List ℕ) (Short : Type 0) : FilePlace → ℕ → Type 0 where
  by_reader : {p : FilePlace} {k : ℕ} → FileDue limit file p k → FileCallDue limit file Short p k
  twelve : Degenerate (polygon_in limit file) → FileCallDue limit file Short rim 12
  thirteen : Short → FileCallDue limit file Short rim 13

-- on the one call (rules 4.13, 4.31)
abbrev pub CallDue : ℕ → List ℕ → Tables → FilePlace → ℕ → Type 0
CallDue limit file t = FileCallDue limit file (TooShort (places_of (polygon_in limit file)) t)
