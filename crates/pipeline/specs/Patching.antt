-- The one call over the three stages: what it answers and what it leaves in every place of its five tables. Definitions only.
use Rattle.std.specs.Prelude.{Bool, List, ℕ, zero, suc, ◌-◌, length, Err}
use Rattle.jobs.specs.Job.{Job, job_of}
use Rattle.codes.specs.Refusals.{refusal}
use Rattle.lists.specs.Lists.{either, filled}
use Rattle.polygon.specs.declared.Polygon.{Polygon}
use Rattle.terms.specs.Numbers.{first_due}
use Rattle.reader.specs.Reading.{polygon_of}
use Rattle.reader.specs.Reading as reader
use Rattle.delaunay.specs.Candidates.{candidates_of}
use Rattle.dihedrals.specs.Dihedrals.{rows_of}
use Rattle.weights.specs.Weights.{weights_of}
use Rattle.finder.specs.Finding.{short, number_due}
use Rattle.triangulation.specs.Triangulations.{Problem, best}
use Rattle.triangulation.specs.Problems.{problem_of}
use Rattle.triangulator.specs.Call.{Outcome, Values, due_values, part_of, Result, settled}

-- the five lent tables (rule 5.1)
pub record Tables : Type 0 where
  pub triangles : List ℕ
  pub candidates : List (List ℕ)
  pub weights : List ℕ
  pub rows : List (List ℕ)
  pub work : List ℕ

abbrev pub tables : List ℕ → List (List ℕ) → List ℕ → List (List ℕ) → List ℕ → Tables
tables triangles candidates weights rows work =
    record { triangles = triangles; candidates = candidates; weights = weights; rows = rows; work = work }

-- an outcome, and what the tables hold after the call
pub record Patching : Type 0 where
  pub outcome : Outcome
  pub left : Tables

abbrev pub patching : Outcome → Tables → Patching
patching o t = record { outcome = o; left = t }

-- the triangles that a call hands back, as candidate numbers in walk order (rule 3.8)
abbrev pub handed_back : Patching → List ℕ
handed_back x = part_of x.outcome x.left.triangles

-- a number changes no table (rule 4.30)
abbrev pub refused : ℕ → Tables → Patching
refused k t = patching (Err (refusal k)) t

-- the lists of a polygon, and the job that they state (rule 3.1)
abbrev pub weights_in : Polygon → List ℕ
weights_in p = weights_of p (candidates_of p)

abbrev pub rows_in : Polygon → List (List ℕ)
rows_in p = rows_of p (candidates_of p)

abbrev pub job_with : List ℕ → Polygon → Job
job_with weights p = job_of p.n (candidates_of p) weights (rows_in p)

abbrev pub job_in : Polygon → Job
job_in p = job_with (weights_in p) p

abbrev pub problem_in : Polygon → Problem
problem_in p = problem_of (job_in p)

-- one of the five tables has too few places (rule 4.13)
unfoldable pub tables_short : Polygon → Tables → Bool
tables_short p t =
    either (short (length t.triangles) (p.n - 2))
    (either (short (length t.work) (length (candidates_of p)))
    (either (short (length t.candidates) (length (candidates_of p)))
    (either (short (length t.weights) (length (candidates_of p)))
    (short (length t.rows) (length (rows_in p))))))

-- the tables after a patch or 'none' (rules 3.8, 3.9), the candidates having these weights: the lists in the first places of three, in the triangle and
-- work tables what the tiler leaves, and every further place as it was
abbrev pub patched_by : Result → List ℕ → Polygon → Tables → Patching
patched_by r weights p t =
    patching r.outcome
    (tables r.triangles (filled (candidates_of p) t.candidates) (filled weights t.weights) (filled (rows_in p) t.rows) r.work)

abbrev pub patched_with : List ℕ → Polygon → Tables → Patching
patched_with weights p t = patched_by (settled (best (problem_of (job_with weights p))) (length (candidates_of p)) t.triangles t.work) weights p t

-- with the own weights (rule 2.15)
abbrev pub patched : Polygon → Tables → Patching
patched p t = patched_with (weights_in p) p t

-- by the first number due: the answer where none is (rules 4.30, 4.33)
abbrev pub patch_by : ℕ → Polygon → Tables → Patching
patch_by zero p t = patched p t
patch_by (suc k) p t = refused (suc k) t

-- a polygon that a host built by hand, with its first number due and its values (rules 4.34, 5.2)
abbrev pub polygon_number : Polygon → Tables → ℕ
polygon_number p t = number_due (tables_short p t) p

abbrev pub polygon_values : Polygon → Tables → Values
polygon_values p t = due_values (polygon_number p t) p.n (best (problem_in p))

unfoldable pub patch_polygon : Polygon → Tables → Patching
patch_polygon p t = patch_by (polygon_number p t) p t

-- a rim file read with a limit, its first number due and its values (rules 4.31, 5.2): the reader's in their order, then those of its polygon
abbrev pub file_number : ℕ → List ℕ → Tables → ℕ
file_number limit file t = first_due (reader.number_due limit file) (polygon_number (polygon_of file) t)

abbrev pub file_values : ℕ → List ℕ → Tables → Values
file_values limit file t = due_values (file_number limit file t) (polygon_of file).n (best (problem_in (polygon_of file)))

unfoldable pub patch_file : ℕ → List ℕ → Tables → Patching
patch_file limit file t = patch_by (file_number limit file t) (polygon_of file) t
