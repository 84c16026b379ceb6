-- The numbers due on a polygon that a host built by hand and on the tables lent with it, each by itself and at its place (rule 4.34). Definitions only.
use Rattle.std.specs.Prelude.{List, ℕ}
use Rattle.polygon.specs.declared.Polygon.{Polygon}
use Rattle.polygon.specs.Due.{PolygonPlace, rim, PolygonDue}
use Rattle.finder.specs.Sizes.{places_of}
use Rattle.pipeline.specs.Patching.{Tables}
use Rattle.demands.specs.Candidates.{Degenerate}
use Rattle.demands.specs.Demand1.{TooShort}
use Rattle.demands.specs.Finding.{FindTooShort}

-- number k is due on a call with a polygon, at its place; 12 on the rim as a whole, and 13 where the tables of the call are too short (rule 4.34)
pub data PolygonCallDue (p : Polygon) (Short : Type 0) : PolygonPlace → ℕ → Type 0 where
  by_polygon : {q : PolygonPlace} {k : ℕ} → PolygonDue p q k → PolygonCallDue p Short q k
  twelve : Degenerate p → PolygonCallDue p Short rim 12
  thirteen : Short → PolygonCallDue p Short rim 13

-- on the finder's call, and on the call that takes a polygon through finding and tiling (rules 4.13, 4.34)
abbrev pub FindDue : Polygon → List (List ℕ) → List ℕ → List (List ℕ) → PolygonPlace → ℕ → Type 0
FindDue p candidates weights rows = PolygonCallDue p (FindTooShort (places_of p) candidates weights rows)

abbrev pub PatchDue : Polygon → Tables → PolygonPlace → ℕ → Type 0
PatchDue p t = PolygonCallDue p (TooShort (places_of p) t)

-- on the call that tells the places a polygon needs, which is lent no table (rule 5.5)
abbrev pub SizesDue : Polygon → PolygonPlace → ℕ → Type 0
SizesDue p = PolygonCallDue p ⊥
