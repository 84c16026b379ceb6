-- Demands 2 and 3 for rim files, of the outcome and the tables of the one call, once for every limit. Assumes nothing.
use mathlib.Core.List.{List}
use Prim.Native.Nat.{ℕ}
use Rattle.reader.specs.Order.{NoneDue}
use Rattle.rim_file.specs.File.{Bytes}
use Rattle.triangulation.specs.Triangulations.{ValidProblem}
use Rattle.triangulation.specs.Demand3.{Demand3}
use Rattle.triangulator.specs.Demands.{Handed}
use Rattle.pipeline.specs.Patching.{Tables, problem_in, patch_file, handed_back}
use Rattle.demands.specs.Demand1.{polygon_in, CallDue}
use Rattle.demands.specs.Demand3.{ListsLeft, QuartersLeft, problem_left, answer_in, RightOfTables, HandedOfTables, RestOfTables}
use Rattle.demands.proofs.Quarters.{in_quarters}
use Rattle.demands.proofs.Demand1.{accepted}
use Rattle.demands.proofs.Patched.{patched_demand2, patched_demand3, patched_demand3_of_tables}
use Rattle.demands.proofs.Patched.{patched_handed, patched_handed_of_tables, patched_valid, patched_rest}

module _ (limit : ℕ) (file : List ℕ) (bytes : Bytes file) (t : Tables) (none : NoneDue (CallDue limit file t)) where
  -- Demand 2: the candidate, weight and row tables hold the lists of the rim in their first places, and what they held in all others
  pub file_demand2 : ListsLeft (polygon_in limit file) t (patch_file limit file t).left
  file_demand2 = let a = accepted limit file bytes t none in patched_demand2 (polygon_in limit file) t a.call_is a.polygon_valid

  -- lengths in quarters, of what the call left in the tables
  pub file_quarters : QuartersLeft (polygon_in limit file) (patch_file limit file t).left
  file_quarters = in_quarters (polygon_in limit file) (accepted limit file bytes t none).polygon_valid file_demand2.lists

  -- Demand 3: a patch exactly when the candidates hold a tiling, 'none' exactly when they hold none; the patch is a tiling in walk order with its own
  -- total; no tiling costs less, and each other that costs the same comes later in walk order
  pub file_demand3 : Demand3 (problem_in (polygon_in limit file)) (answer_in (patch_file limit file t))
  file_demand3 = let a = accepted limit file bytes t none in patched_demand3 (polygon_in limit file) t a.call_is a.polygon_valid

  -- the same over the candidates, weights and rows that the call left in the tables, of which demand 2 speaks
  pub file_demand3_of_tables : RightOfTables (polygon_in limit file) (patch_file limit file t)
  file_demand3_of_tables = let a = accepted limit file bytes t none in patched_demand3_of_tables (polygon_in limit file) t a.call_is a.polygon_valid

  -- what the caller is handed: after a patch its n - 2 triangles in walk order, each triangle of the tiling once; after 'none' nothing
  pub file_handed : Handed (problem_in (polygon_in limit file)) (handed_back (patch_file limit file t)) (patch_file limit file t).outcome
  file_handed = let a = accepted limit file bytes t none in patched_handed (polygon_in limit file) t a.call_is a.polygon_valid

  pub file_handed_of_tables : HandedOfTables (polygon_in limit file) (patch_file limit file t)
  file_handed_of_tables = let a = accepted limit file bytes t none in patched_handed_of_tables (polygon_in limit file) t a.call_is a.polygon_valid

  -- the lists in the tables state a valid problem, of which all that is proved of tilings holds
  pub file_valid : ValidProblem (problem_left (polygon_in limit file) (patch_file limit file t).left)
  file_valid = let a = accepted limit file bytes t none in patched_valid (polygon_in limit file) t a.call_is a.polygon_valid

  -- what is left beside the patch
  pub file_rest : RestOfTables (polygon_in limit file) t (patch_file limit file t)
  file_rest = patched_rest (polygon_in limit file) t (accepted limit file bytes t none).call_is
