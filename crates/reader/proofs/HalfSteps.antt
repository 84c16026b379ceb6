-- In a file that is read, each coordinate of each vertex is the float it comes from, rounded to the nearest grid number, at a half the even one (rules
-- 1.6 to 1.10). No other vertex is so rounded: the file alone fixes the vertices. Assumes nothing.
use mathlib.Core.Path.{◌≡◌, refl, sym, ap, ◌∙◌, subst}
use mathlib.Core.List.{List, Memᴰ}
use mathlib.Core.Logic.{⊎_elim}
use Prim.Native.Nat.{ℕ, ◌<◌}
use native.Mathlib.Omega.{arith}
use borrow.Author.Tests.{eq-eqb, ne_eqb}
use lib.IntN.{ℤ}
use lib.Ieee.{Float}
use Rattle.lists.proofs.Choice.{yes, no, below_or_same, neither_below}
use Rattle.grid.specs.declared.GridPoint.{GridPoint}
use Rattle.grid.specs.Number.{round_eighths}
use Rattle.grid.specs.Point.{point}
use Rattle.grid.proofs.HalfStep.{half_step, even_half}
use Rattle.grid.proofs.Unique.{one_number}
use Rattle.polygon.specs.Polygon as polygon
use Rattle.rim_file.specs.File.{first_number, second_number, third_number}
use Rattle.reader.specs.Due.{kind_at, floats_at, OnGridAt, HasVertex, a_point, a_level_point}
use Rattle.std.specs.Prelude.{IsOk}
use Rattle.reader.specs.Reading.{reading_of, polygon_in}
use Rattle.reader.specs.Due.{record_start}
use Rattle.reader.specs.Rounded.{RoundsTo, Rounded}
use Rattle.reader.proofs.RecordNumbers.{point_floats, level_floats}
use Rattle.reader.proofs.Accepted.{read_vertices}

module _ (s : List ℕ) where
  -- a float of a record on which neither 8 nor 9 is due
  rounds : (i : ℕ) (vs : List Float) → floats_at s i ≡ vs → OnGridAt s i → (v : Float) → Memᴰ v vs → RoundsTo v (round_eighths v)
  rounds i vs e g v m =
      let n : Memᴰ v (floats_at s i) = subst (λ (l : List Float). Memᴰ v l) (sym e) m in
      record { finite = g.all_finite v n; ranged = g.all_in_range v n; half_step = half_step v (g.all_finite v n); even_half = even_half v }

  point_rounds : (i : ℕ) → kind_at s i ≡ 1 → OnGridAt s i → (v : Float) → Memᴰ v (point_floats s i) → RoundsTo v (round_eighths v)
  point_rounds i k g = rounds i (point_floats s i) (yes _ _ (eq-eqb (kind_at s i) 1 k)) g

  level_rounds : (i : ℕ) → kind_at s i ≡ 2 → OnGridAt s i → (v : Float) → Memᴰ v (level_floats s i) → RoundsTo v (round_eighths v)
  level_rounds i k g = rounds i (level_floats s i) (no _ _ (ne_eqb (kind_at s i) 1 (λ e. omega arith)) ∙ yes _ _ (eq-eqb (kind_at s i) 2 k)) g

  -- the vertex of a record
  rounded : (i : ℕ) (p : GridPoint) → HasVertex s i p → Rounded s i p
  rounded _ _ (a_point i k g) = record {
    x = point_rounds i k g (first_number s (record_start s i)) (mathlib.Core.List.Memᴰ.head refl);
    y = point_rounds i k g (second_number s (record_start s i)) (mathlib.Core.List.Memᴰ.tail (mathlib.Core.List.Memᴰ.head refl));
    from = i;
    up_to = omega arith;
    point = k;
    last = λ j h l m. omega (arith, h, l);
    z = point_rounds i k g (third_number s (record_start s i)) (mathlib.Core.List.Memᴰ.tail (mathlib.Core.List.Memᴰ.tail (mathlib.Core.List.Memᴰ.head refl)));
  }
  rounded _ _ (a_level_point i j k t g l h) = record {
    x = level_rounds i k g (first_number s (record_start s i)) (mathlib.Core.List.Memᴰ.head refl);
    y = level_rounds i k g (second_number s (record_start s i)) (mathlib.Core.List.Memᴰ.tail (mathlib.Core.List.Memᴰ.head refl));
    from = j;
    up_to = omega (arith, l.before);
    point = l.is_point;
    last = λ m a b e. ⊎_elim (λ q. l.none_between m a q e) (λ d. omega (arith, sym (ap (λ (n : ℕ). kind_at s n) d) ∙ e, k)) (below_or_same m i b);
    z = point_rounds j l.is_point h (third_number s (record_start s j))
        (mathlib.Core.List.Memᴰ.tail (mathlib.Core.List.Memᴰ.tail (mathlib.Core.List.Memᴰ.head refl)));
  }

  -- rules 1.6 to 1.10, of every vertex of every file that is read
  pub vertices_rounded : (limit : ℕ) → IsOk (reading_of limit s) → (i : ℕ) → i < (polygon_in (reading_of limit s)).n →
      Rounded s i (polygon.vertex_at (polygon_in (reading_of limit s)).vertices i)
  vertices_rounded limit e i h = rounded i (polygon.vertex_at (polygon_in (reading_of limit s)).vertices i) (read_vertices limit s e i h)

  -- ---- nothing is left free
  rounds_once : {v : Float} {g h : ℤ} → RoundsTo v g → RoundsTo v h → g ≡ h
  rounds_once {v} {g} {h} a b = one_number v g h a.half_step a.even_half b.half_step b.even_half

  -- the height comes from one position
  from_once : {i : ℕ} {p q : GridPoint} → (a : Rounded s i p) (b : Rounded s i q) → a.from ≡ b.from
  from_once a b =
      neither_below a.from b.from (λ l. a.last b.from l b.up_to b.point) (λ l. b.last a.from l a.up_to a.point)

  rounded_once : {i : ℕ} {p q : GridPoint} → Rounded s i p → Rounded s i q → p ≡ q
  rounded_once a b =
      let z = rounds_once (subst (λ (j : ℕ). RoundsTo (third_number s (record_start s j)) _) (from_once a b) a.z) b.z in
      λ i. point (rounds_once a.x b.x i) (rounds_once a.y b.y i) (z i)

  -- rules 1.6 to 1.10 allow one vertex at each position, the one that is read
  pub vertices_fixed : (limit : ℕ) → IsOk (reading_of limit s) → (i : ℕ) → i < (polygon_in (reading_of limit s)).n → (p : GridPoint) → Rounded s i p →
      p ≡ polygon.vertex_at (polygon_in (reading_of limit s)).vertices i
  vertices_fixed limit e i h p a = rounded_once a (vertices_rounded limit e i h)
