-- Demands 1 to 3 for a polygon that a host built by hand (rules 4.30, 4.33, 4.34): of the numbers due on the polygon and on the five tables one is the first,
-- or none is due; the call gives exactly that number and changes no table, and where none is due it ends in a patch or 'none', which is right.
-- Assumes nothing.
use mathlib.Core.Path.{◌≡◌, refl, sym, ap, ◌∙◌, subst}
use mathlib.Core.Logic.{◌⊎◌}
use Prim.Native.Nat.{ℕ, zero, suc}
use lib.ListN.{length}
use Rattle.codes.specs.Refusals.{number_of}
use Rattle.terms.specs.Order.{NoneDue}
use Rattle.terms.proofs.Order.{Verdict, none_first, verdict_either, verdict_first, verdict_given, verdict_zero, verdict_none}
use Rattle.polygon.specs.declared.Polygon.{Polygon}
use Rattle.polygon.specs.Polygon.{ValidPolygon}
use Rattle.polygon.specs.Due.{PolygonBefore, First}
use Rattle.polygon.proofs.Due.{ordered, none_valid}
use Rattle.delaunay.specs.Candidates.{candidates_of}
use Rattle.finder.specs.Sizes.{places_of}
use Rattle.triangulation.specs.Triangulations.{ValidProblem, best}
use Rattle.triangulation.specs.Demand3.{Demand3}
use Rattle.triangulator.specs.Demands.{Taken}
use Rattle.triangulator.proofs.Demands.{never_refused, settled_taken}
use Rattle.pipeline.specs.Patching.{Tables, Patching, refused, problem_in, tables_short, patched, patch_by, polygon_number, patch_polygon}
use Rattle.demands.specs.Demand1.{TooShort}
use Rattle.demands.specs.Demand3.{ListsLeft, QuartersLeft, problem_left, answer_in, RightOfTables, HandedOfTables, RestOfTables}
use Rattle.demands.specs.Polygons.{by_polygon, PatchDue}
use Rattle.demands.proofs.Demand1.{short_true, true_short, never_given}
use Rattle.demands.proofs.PolygonNumbers.{polygon_verdict}
use Rattle.demands.proofs.Quarters.{in_quarters}
use Rattle.demands.proofs.Patched.{patched_demand2, patched_demand3, patched_demand3_of_tables}
use Rattle.demands.proofs.Patched.{patched_handed_of_tables, patched_valid, patched_rest}

module _ (p : Polygon) (t : Tables) where
  verdict : Verdict PolygonBefore (PatchDue p t) (polygon_number p t)
  verdict = polygon_verdict p (TooShort (places_of p) t) (tables_short p t) (short_true p t) (true_short p t)

  by_number : {k : ℕ} → polygon_number p t ≡ k → patch_polygon p t ≡ patch_by k p t
  unfolding patch_polygon
  by_number e = ap (λ (k : ℕ). patch_by k p t) e

  taken : polygon_number p t ≡ 0 → Taken (patch_polygon p t).outcome
  taken e =
      subst (λ (x : Patching). Taken x.outcome) (sym (by_number e)) (settled_taken (best (problem_in p)) (length (candidates_of p)) t.triangles t.work)

  -- one number is the first that is due, or none is due
  pub first_or_none : ((k : ℕ) × First (PatchDue p t) k) ⊎ NoneDue (PatchDue p t)
  first_or_none = verdict_either verdict

  -- the first number due is given, and every lent table holds what it held
  pub refused_first : (k : ℕ) → First (PatchDue p t) k → patch_polygon p t ≡ refused k t
  refused_first zero f = absurd (none_first (verdict_none verdict (verdict_first ordered verdict f)) f)
  refused_first (suc k) f = by_number (verdict_first ordered verdict f)

  -- and a number that is given is the first that is due
  pub given_first : (k : ℕ) → number_of (patch_polygon p t).outcome ≡ suc k → First (PatchDue p t) (suc k)
  given_first k h = by (polygon_number p t) refl
    where
      by : (n : ℕ) → polygon_number p t ≡ n → First (PatchDue p t) (suc k)
      by zero e = absurd (never_given (taken e) h)
      by (suc j) e = verdict_given verdict (e ∙ sym (ap (λ (x : Patching). number_of x.outcome) (by_number e)) ∙ h)

  -- the call ends in a patch or 'none' exactly when no number is due
  pub taken_when : NoneDue (PatchDue p t) → Taken (patch_polygon p t).outcome
  taken_when none = taken (verdict_zero verdict none)

  pub taken_only_when : Taken (patch_polygon p t).outcome → NoneDue (PatchDue p t)
  taken_only_when h = verdict_none verdict (by (polygon_number p t) refl)
    where
      by : (n : ℕ) → polygon_number p t ≡ n → polygon_number p t ≡ 0
      by zero e = e
      by (suc k) e = absurd (never_refused (ap (λ (x : Patching). x.outcome) (by_number e)) h)

  -- ---- a polygon on which, with its tables, no number is due
  module _ (none : NoneDue (PatchDue p t)) where
    pub valid : ValidPolygon p
    valid = none_valid p (record { none = λ q k d. none.none q k (by_polygon d) })

    pub call_is : patch_polygon p t ≡ patched p t
    call_is = by_number (verdict_zero verdict none)

    -- Demand 2: the candidate, weight and row tables hold the lists of the polygon in their first places, and what they held in all others
    pub polygon_demand2 : ListsLeft p t (patch_polygon p t).left
    polygon_demand2 = patched_demand2 p t call_is valid

    -- lengths in quarters, of what the call left in the tables
    pub polygon_quarters : QuartersLeft p (patch_polygon p t).left
    polygon_quarters = in_quarters p valid polygon_demand2.lists

    -- Demand 3: a patch exactly when the candidates hold a tiling, and that patch is the right one; the same over what the call left in the tables
    pub polygon_demand3 : Demand3 (problem_in p) (answer_in (patch_polygon p t))
    polygon_demand3 = patched_demand3 p t call_is valid

    pub polygon_demand3_of_tables : RightOfTables p (patch_polygon p t)
    polygon_demand3_of_tables = patched_demand3_of_tables p t call_is valid

    -- what the caller is handed: after a patch its n - 2 triangles in walk order, each triangle of the tiling once; after 'none' nothing
    pub polygon_handed_of_tables : HandedOfTables p (patch_polygon p t)
    polygon_handed_of_tables = patched_handed_of_tables p t call_is valid

    -- the lists in the tables state a valid problem, of which all that is proved of tilings holds
    pub polygon_problem_valid : ValidProblem (problem_left p (patch_polygon p t).left)
    polygon_problem_valid = patched_valid p t call_is valid

    -- what is left beside the patch
    pub polygon_rest : RestOfTables p t (patch_polygon p t)
    polygon_rest = patched_rest p t call_is
