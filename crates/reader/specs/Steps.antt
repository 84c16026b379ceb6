-- What the reader's private functions return, in terms of the definitions beside this file. What functions say to each other; nobody has to believe it.
use Rattle.std.specs.Prelude.{◌≡◌, ℕ, ◌+◌, ◌≤◌, ◌<◌, false, List, length, get_or}
use Rattle.codes.specs.declared.Refusal.{Refusal}
use Rattle.grid.specs.Point.{OnGrid}
use Rattle.rim_file.specs.File.{record_numbers}
use Rattle.rim_file.specs.Record.{height_of}
use Rattle.std.specs.Prelude.{Ok}
use Rattle.reader.specs.Chain.{link, met_before, height_before, vertex_at_position, normal_at_position}
use Rattle.reader.specs.Chain.{position_code, vertex_count, vertices_of, normals_of}
use Rattle.reader.specs.declared.Chain.{Chain}
use Rattle.reader.specs.declared.Progress.{Progress}

-- no number is due before position n of the chain, and the walk w is there: its marks, its height and its link are those of the positions before n
pub record Walking (limit : ℕ) (s : List ℕ) (w : Progress) : Type 0 where
  pub here : w.link ≡ link s w.n
  pub marks : length w.met ≡ record_numbers
  pub marked : (k : ℕ) → k < record_numbers → get_or w.met k false ≡ met_before s w.n k
  pub level : w.height ≡ height_before s w.n
  pub on_grid : OnGrid (height_of w.height)
  pub within : w.n ≤ limit

-- the walk after one position, on which no number is due: past its vertex and its normal
pub record Stepped (limit : ℕ) (s : List ℕ) (w r : Progress) : Type 0 where
  pub none : position_code limit s w.n ≡ 0
  pub walking : Walking limit s r
  pub next : r.n ≡ w.n + 1
  pub vertex_is : vertex_at_position s w.n ≡ Ok r.vertex
  pub normal_is : r.normal ≡ normal_at_position s w.n

-- the walk is stopped by the number due at a position
pub record Stopped (limit : ℕ) (s : List ℕ) (w : Progress) (r : Refusal) : Type 0 where
  pub some : 0 < r.number
  pub number : r.number ≡ position_code limit s w.n

-- what the loop over the steps returns where no number is due
abbrev pub chain_of : List ℕ → Chain
chain_of s = record { n = vertex_count s; vertices = vertices_of s (vertex_count s); normals = normals_of s (vertex_count s) }
