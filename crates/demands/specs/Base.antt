-- The answer where no surface adjoins the rim: areas and rows alone, as for files without normals. Definitions only.
use Rattle.std.specs.Prelude.{◌≡◌, List, map, ℕ, zero, suc, ◌≤◌, ◌<◌}
use Rattle.polygon.specs.declared.Polygon.{Polygon}
use Rattle.polygon.specs.Normal.{no_normal, normal_at}
use Rattle.rim_file.specs.File.{record_count, offset}
use Rattle.rim_file.specs.Record.{normal_in}
use Rattle.reader.specs.Reading.{polygon_of}
use Rattle.delaunay.specs.Candidates.{candidates_of}
use Rattle.weights.specs.Weights.{area_weight}
use Rattle.pipeline.specs.Patching.{Tables, Patching, refused, patched_with, file_number}

-- no edge of the rim has a surface outside (rules 1.13, 1.14, 2.16)
pub record NoSurface (p : Polygon) : Type 0 where
  pub none : (i : ℕ) → i < p.n → normal_at p.normals i ≡ no_normal

-- all records of a file have three zeros for their normal (rule 1.13), as those of edition 1 have
pub record ZeroNormals (file : List ℕ) : Type 0 where
  pub zero : (k : ℕ) → 0 < k → k ≤ record_count file → normal_in file (offset file k) ≡ no_normal

-- the weights then: the area weights (rules 2.8, 2.16)
abbrev pub area_weights : Polygon → List ℕ
area_weights p = map (area_weight p) (candidates_of p)

-- the answer by the first number due, with the area weights (rules 4.30, 4.33)
abbrev pub base_by : ℕ → Polygon → Tables → Patching
base_by zero p t = patched_with (area_weights p) p t
base_by (suc k) p t = refused (suc k) t

-- the answer to a file by areas and rows alone (rule 2.16)
abbrev pub base_file : ℕ → List ℕ → Tables → Patching
base_file limit file t = base_by (file_number limit file t) (polygon_of file) t
