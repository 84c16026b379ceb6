-- The number that the tests of a polygon and of its tables give is the first that is due, whichever tables are lent (rule 4.34). Assumes nothing.
use mathlib.Core.Path.{◌≡◌, refl, ◌∙◌}
use mathlib.Core.Bool.{Bool, true, false}
use Prim.Native.Nat.{ℕ, zero, suc, ◌≤◌, ◌<◌}
use native.Mathlib.Omega.{arith}
use borrow.Author.Tests.{eq-eqb, ne_eqb}
use Rattle.lists.proofs.Choice.{Truth, holds, fails, truth, yes, no, true_not_false}
use Rattle.terms.specs.Order.{Precedes, by_number, by_place, NoneDue}
use Rattle.terms.proofs.Order.{Verdict, first_due_lem, none_due}
use Rattle.polygon.specs.declared.Polygon.{Polygon}
use Rattle.polygon.specs.Polygon.{code_of}
use Rattle.polygon.specs.Due.{PolygonPlace, rim, PolygonBefore, First, PolygonDue, too_few, vertex_repeated}
use Rattle.polygon.proofs.Due.{code_first, code_none}
use Rattle.delaunay.specs.Candidates.{degenerate}
use Rattle.finder.specs.Finding.{number_due}
use Rattle.demands.specs.Candidates.{Degenerate}
use Rattle.demands.specs.Polygons.{PolygonCallDue, by_polygon, twelve, thirteen}
use Rattle.demands.proofs.Candidates.{degenerate_true, true_degenerate}

-- the tables of the call, as a statement and as a test
module _ (p : Polygon) (Short : Type 0) (short : Bool) (is-short : short ≡ true → Short) (short-is : Short → short ≡ true) where
  -- the polygon's numbers come first
  polygon_first : (k : ℕ) → First (PolygonDue p) k → First (PolygonCallDue p Short) k
  polygon_first k f = record { place = f.place; is_due = by_polygon f.is_due; none_before = before }
    where
      -- on the rim the polygon's numbers are below 12
      below : (k : ℕ) → PolygonDue p rim k → k < 12
      below _ (too_few h) = omega arith
      below _ (vertex_repeated l m e) = omega arith

      not_later : (q : PolygonPlace) (k j : ℕ) → PolygonDue p q k → 12 ≤ j → Precedes PolygonBefore rim j q k → ⊥
      not_later _ k j d m (by_number l) = omega (arith, below k d)
      not_later q k j d m (by_place x) = elim x [ ]

      before : (q : PolygonPlace) (j : ℕ) → Precedes PolygonBefore q j f.place k → PolygonCallDue p Short q j → ⊥
      before q j h (by_polygon d) = f.none_before q j h d
      before _ _ h (twelve d) = not_later f.place k 12 f.is_due (omega arith) h
      before _ _ h (thirteen d) = not_later f.place k 13 f.is_due (omega arith) h

  -- then 12, then 13
  module _ (none : NoneDue (PolygonDue p)) where
    twelve_first : Degenerate p → First (PolygonCallDue p Short) 12
    twelve_first d = record { place = rim; is_due = twelve d; none_before = before }
      where
        before : (q : PolygonPlace) (j : ℕ) → Precedes PolygonBefore q j rim 12 → PolygonCallDue p Short q j → ⊥
        before q j h (by_polygon d) = none.none q j d
        before _ _ (by_number l) (twelve d) = omega arith
        before _ _ (by_number l) (thirteen d) = omega arith
        before _ _ (by_place x) (twelve d) = elim x [ ]
        before _ _ (by_place x) (thirteen d) = elim x [ ]

    thirteen_first : (Degenerate p → ⊥) → Short → First (PolygonCallDue p Short) 13
    thirteen_first no_12 d = record { place = rim; is_due = thirteen d; none_before = before }
      where
        before : (q : PolygonPlace) (j : ℕ) → Precedes PolygonBefore q j rim 13 → PolygonCallDue p Short q j → ⊥
        before q j h (by_polygon d) = none.none q j d
        before _ _ h (twelve d) = no_12 d
        before _ _ (by_number l) (thirteen d) = omega arith
        before _ _ (by_place x) (thirteen d) = elim x [ ]

    nothing_due : (Degenerate p → ⊥) → (Short → ⊥) → NoneDue (PolygonCallDue p Short)
    nothing_due no_12 no_13 = record { none = nothing }
      where
        nothing : (q : PolygonPlace) (k : ℕ) → PolygonCallDue p Short q k → ⊥
        nothing q k (by_polygon d) = none.none q k d
        nothing _ _ (twelve d) = no_12 d
        nothing _ _ (thirteen d) = no_13 d

  pub polygon_verdict : Verdict PolygonBefore (PolygonCallDue p Short) (number_due short p)
  unfolding number_due
  polygon_verdict = by (code_of p) refl (truth (degenerate p)) (truth short)
    where
      no_twelve : degenerate p ≡ false → Degenerate p → ⊥
      no_twelve a d = true_not_false (true_degenerate p d) a

      by : (k : ℕ) → code_of p ≡ k → Truth (degenerate p) → Truth short → Verdict PolygonBefore (PolygonCallDue p Short) (number_due short p)
      by (suc k) e a b = first_due_lem k (polygon_first (suc k) (code_first p k e)) (no _ _ (ne_eqb (code_of p) 0 (λ z. omega (arith, z, e))) ∙ e)
      by zero e (holds a) b = first_due_lem 11 (twelve_first (code_none p e) (degenerate_true p a)) (yes _ _ (eq-eqb (code_of p) 0 e) ∙ yes _ _ a)
      by zero e (fails a) (holds b) =
          first_due_lem 12 (thirteen_first (code_none p e) (no_twelve a) (is-short b)) (yes _ _ (eq-eqb (code_of p) 0 e) ∙ no _ _ a ∙ yes _ _ b)
      by zero e (fails a) (fails b) =
          none_due (nothing_due (code_none p e) (no_twelve a) (λ s. true_not_false (short-is s) b)) (yes _ _ (eq-eqb (code_of p) 0 e) ∙ no _ _ a ∙ no _ _ b)
