-- The page of promises; its parts are Files, Rims and Jobs, beside this file. Each field is a statement about a call, in the users' words, with its rule in
-- docs/SPECIFICATION.md; `promises` of proofs/Promises.antt proves them all. A call is named by the definition that its contract equates it with, on every
-- path and for every place of every lent table. On rim files: `read_polygon` is `reading_of`, `find_file` is `find_file`, `patch_file` is `patch_file`,
-- `pipeline::table_sizes` is `sizes_file`, `convert` is `convert_call`. On polygons: `find` is `find_call`, `finder::table_sizes` is `sizes_of`,
-- `patch_polygon` is `patch_polygon`. On direct jobs: `price` is `priced`, `patch` is `patched_at`, `judge` is `judged`; `triangulated` is the single call
-- that the first two replace, and nothing makes it. `Bytes file` says that the places of a file are bytes, as those of every `&[u8]` are. What the
-- statements rest on stands at the end.
use Rattle.std.specs.Prelude.{◌≡◌, List, ℕ, None, Ok, Err}
use Rattle.codes.specs.Refusals.{refusal}
use Rattle.polygon.specs.declared.Polygon.{Polygon}
use Rattle.polygon.specs.Due.{PolygonBefore}
use Rattle.rim_file.specs.File.{Bytes}
use Rattle.reader.specs.Order.{FileBefore}
use Rattle.finder.specs.Finding.{find_call}
use Rattle.jobs.specs.Job.{Job}
use Rattle.triangulation.specs.Triangulations.{Problem}
use Rattle.triangulator.specs.Call.{values, values_of}
use Rattle.pricing.specs.Quote.{priced}
use Rattle.pricing.specs.Patch.{patched_at}
use Rattle.pipeline.specs.Finding.{find_file}
use Rattle.pipeline.specs.Patching.{Tables, patch_polygon, patch_file}
use Rattle.demands.specs.Demand1.{polygon_in, CallDue}
use Rattle.demands.specs.Finding.{FindFileDue}
use Rattle.demands.specs.Polygons.{FindDue, PatchDue}
use Rattle.promises.specs.Files.{ReaderCall, Editions, ConverterCall, HalfSteps, Limits}
use Rattle.promises.specs.Rims.{Finds, TellsSizes, Closes, TellsFileSizes, FlatRims, Lengths, Printing}
use Rattle.promises.specs.Jobs.{Prices, Patches, InTurn, Tilings, Turns, Judging, OwnPatches}

-- ---- the page
pub record Promises : Type 0 where
  pub reading : (limit : ℕ) (file : List ℕ) → ReaderCall limit file
  -- the finder's call and the one call, each on a polygon built by hand and on a rim file, and the sizing calls
  pub finding : (p : Polygon) (candidates : List (List ℕ)) (weights : List ℕ) (rows : List (List ℕ)) →
      Finds PolygonBefore (FindDue p candidates weights rows) p candidates weights rows (find_call p candidates weights rows)
  pub finding_files : (limit : ℕ) (file : List ℕ) → Bytes file → (candidates : List (List ℕ)) (weights : List ℕ) (rows : List (List ℕ)) →
      Finds FileBefore (FindFileDue limit file candidates weights rows) (polygon_in limit file) candidates weights rows
      (find_file limit file candidates weights rows)
  pub hand_built : (p : Polygon) (t : Tables) → Closes PolygonBefore (PatchDue p t) p t (patch_polygon p t)
  pub rim_files : (limit : ℕ) (file : List ℕ) → Bytes file → (t : Tables) →
      Closes FileBefore (CallDue limit file t) (polygon_in limit file) t (patch_file limit file t)
  pub polygon_sizes : (p : Polygon) → TellsSizes p
  pub file_sizes : (limit : ℕ) (file : List ℕ) (t : Tables) → TellsFileSizes limit file t
  -- the tiler's two calls on a direct job, each alone and one after the other
  pub prices : (job : Job) (work : List ℕ) → Prices job work (priced job work)
  pub patches : (job : Job) (agreed : ℕ) (triangles work : List ℕ) → Patches job agreed triangles work (patched_at job agreed triangles work)
  pub in_turn : (job : Job) (triangles work : List ℕ) → InTurn job triangles work
  pub tilings : (problem : Problem) → Tilings problem
  pub editions : (file : List ℕ) → Editions file
  pub converting : (file out : List ℕ) → ConverterCall file out
  pub half_steps : HalfSteps
  pub limits : (file : List ℕ) → Limits file
  pub turns : Turns
  pub flat_rims : FlatRims
  pub lengths : Lengths
  pub judging : (job : Job) (list : List ℕ) (total : ℕ) (work : List ℕ) → Judging job list total work
  pub own_patches : OwnPatches
  pub printing : (limit : ℕ) (file : List ℕ) → Printing limit file
  -- a refusal states its number, no triangles and the total 0; 'none' three zeros (rules 5.2, 5.11)
  pub refusal_values : (k : ℕ) → values_of (Err (refusal k)) ≡ values k 0 0
  pub none_values : values_of (Ok None) ≡ values 0 0 0
  pub refused_quote : (k : ℕ) → values_of (Err (refusal k)) ≡ values k 0 0
  pub none_quote : values_of (Ok None) ≡ values 0 0 0

-- ---- what the page rests on, beside the calls' own definitions; `crate/File` is crates/CRATE/specs/FILE.antt, docs/ARCHITECTURE.md has the rest
-- numbers that are due: reader/Due `FileDue`, demands/Demand1 `CallDue`, `TooShort`, demands/Finding `FindFileDue`, demands/Polygons `FindDue`, `PatchDue`,
--   `SizesDue`, jobs/Due `Accepted`, `AcceptedWithoutTriangles`, `FirstDue`, pricing/Due `AgreedDue`, `FirstDue`, judge/Due `FirstDue`, converter/Due
--   `ConvertDue`; the first of them: terms/Order `First`, `NoneDue`, with the order of places in reader/Order, polygon/Due, jobs/Due; the places needed:
--   finder/Sizes `places_of`
-- what a file says: rim_file/File `area_factor_of`, `bend_factor_of`, reader/Chain `link`, reader/Due `HasRecords`, `HasVertex`, `HasNormal`, `ChainAtMost`,
--   reader/Rounded `Rounded`, grid/Number `HalfStep`, `EvenHalf`, rim_file/Layouts `Edition1`, `Edition2`, rim_file/Editions `SameRim`
-- candidates, weights and rows: demands/Candidates `Candidate`, `Flat`, `Cocircular`, demands/Demand2 `TablesHold`, demands/Demand3 `ListsLeft`,
--   `QuartersLeft`, `RightOfTables`, `HandedOfTables`, `RestOfTables`, demands/Quarters `InQuarters`, `IsNormal`, geometry/Quarters `IsLength`,
--   `IsBendBetween`, `LongerByQuarter`, integers/Rounding `IsFloorRoot`, planar/Planes `OnOneLine`, planar/Circles `collinear`, weights/Weights `own_weight`
-- tilings and answers: jobs/Job `Job`, triangulation/Triangulations `Problem`, `total_weight`, `preorder`, Problems `problem_of`, Tiling `Tiling`, Demand3
--   `Demand3`, `HandedBack`, LeastTotal `HasTiling`, `NoTiling`, `Least`, triangulator/Demands `Taken`, `Handed`, `RestLeft`,
--   preorder/Preorder `TurnByTurn`, judge/Demands `IsTiling`, `Acceptable`, `SameNumbers`, `Excess`
-- answers alike: demands/Base `base_file`, Conversion `SameAnswers`, OnePatch `SamePatch`, `LongEnough`, Limits `OneAnswer`
-- lines: patch_program/Run `empty_tables`, Demands `LinesHold`
