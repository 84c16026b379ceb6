-- The vertices of the rim: what a record gives is what the reader lists. Assumes nothing.
use mathlib.Core.Path.{◌≡◌, refl, sym, ap, ◌∙◌, subst}
use mathlib.Core.Bool.{Bool, true, false}
use mathlib.Core.List.{List, Memᴰ}
use Prim.Native.Nat.{ℕ, suc, ◌<◌}
use native.Mathlib.Omega.{arith}
use borrow.Author.Tests.{eqb-true, eq-eqb, ne_eqb}
use lib.Dec.{eqb}
use lib.Ieee.{Float}
use Rattle.lists.specs.Lists.{some}
use Rattle.lists.proofs.Choice.{yes, no}
use Rattle.lists.proofs.Ranges.{some_found}
use Rattle.grid.specs.declared.GridPoint.{GridPoint}
use Rattle.grid.specs.Number.{finite, in_range}
use Rattle.grid.specs.Point.{point}
use Rattle.polygon.specs.Polygon.{origin, same_point, repeated_vertex}
use Rattle.polygon.specs.Polygon as polygon
use Rattle.polygon.proofs.Points.{point_equal}
use Rattle.polygon.proofs.Validity.{repeated_none}
use Rattle.rim_file.specs.File.{offset, first_number, second_number, third_number}
use Rattle.codes.specs.Refusals.{or_refused}
use Rattle.rim_file.specs.Record.{known, height_of, numbers_code, number_of, point_of}
use Rattle.rim_file.proofs.Vertices.{shape, shape_is, numbers_fine, tests}
use Rattle.rim_file.proofs.Floats.{all_of_at, all_of_each, fine_code}
use Rattle.reader.specs.Chain.{height_before, vertex_at_position, vertices_of}
use Rattle.reader.specs.Chain as chain
use Rattle.reader.specs.Due.{kind_at, tail_zero_at, floats_at, OnGridAt, x_at, y_at, height_at, HasVertex, a_point, a_level_point}
use Rattle.reader.proofs.Tables.{table_at}
use Rattle.reader.proofs.Heights.{height_of_last, last_point}
use Rattle.reader.proofs.RecordNumbers.{point_floats, level_floats, record_number}

module _ (s : List ℕ) where
  -- the vertex by its tests
  vertex_shape : (i : ℕ) (one two kn tail : Bool) → eqb (kind_at s i) 1 ≡ one → eqb (kind_at s i) 2 ≡ two →
      known (height_before s i) ≡ kn → tail_zero_at s i ≡ tail →
      vertex_at_position s i ≡ shape one two kn tail (first_number s (offset s (chain.link s i))) (second_number s (offset s (chain.link s i)))
      (third_number s (offset s (chain.link s i))) (height_of (height_before s i))
  vertex_shape i one two kn tail a b c d = rw c (shape_is one two kn tail s (offset s (chain.link s i)) (height_of (height_before s i)) a b d)

  grid_code : (i : ℕ) (vs : List Float) → floats_at s i ≡ vs → OnGridAt s i → numbers_code vs ≡ 0
  grid_code i vs e g =
      fine_code vs (all_of_each finite vs (λ v m. g.all_finite v (subst (λ (l : List Float). Memᴰ v l) (sym e) m)))
      (all_of_each in_range vs (λ v m. g.all_in_range v (subst (λ (l : List Float). Memᴰ v l) (sym e) m)))

  -- a vertex that a record gives is the one that the reader has for it
  pub vertex_is : (i : ℕ) (p : GridPoint) → HasVertex s i p → point_of (vertex_at_position s i) ≡ p
  unfolding shape
  vertex_is _ _ (a_point i k g) =
      let one : eqb (kind_at s i) 1 ≡ true = eq-eqb (kind_at s i) 1 k in
      ap point_of (vertex_shape i true (eqb (kind_at s i) 2) (known (height_before s i)) (tail_zero_at s i) one refl refl refl)
      ∙ ap (λ (c : ℕ). point_of (or_refused c (point (x_at s i) (y_at s i) (height_at s i)))) (grid_code i (point_floats s i) (yes _ _ one) g)
  vertex_is _ _ (a_level_point i j k t g l h) =
      let one : eqb (kind_at s i) 1 ≡ false = ne_eqb (kind_at s i) 1 (λ e. omega arith) in
      let two : eqb (kind_at s i) 2 ≡ true = eq-eqb (kind_at s i) 2 k in
      let height = height_of_last s i j l in
      ap point_of (vertex_shape i false true true true one two (ap known height) t)
      ∙ ap (λ (c : ℕ). point_of (or_refused c (point (x_at s i) (y_at s i) (height_of (height_before s i)))))
      (grid_code i (level_floats s i) (no _ _ one ∙ yes _ _ two) g)
      ∙ ap (λ z. point (x_at s i) (y_at s i) (height_of z)) height

  -- ---- a record with no number gives a vertex
  data Sound (i : ℕ) : Type 0 where
    sound_point : kind_at s i ≡ 1 → OnGridAt s i → Sound i
    sound_level : kind_at s i ≡ 2 → known (height_before s i) ≡ true → tail_zero_at s i ≡ true → OnGridAt s i → Sound i

  sound : (i : ℕ) → number_of (vertex_at_position s i) ≡ 0 → Sound i
  sound i e = by (eqb (kind_at s i) 1) (eqb (kind_at s i) 2) (known (height_before s i)) (tail_zero_at s i) refl refl refl refl (sym (record_number s i) ∙ e)
    where
      on_grid : (vs : List Float) → floats_at s i ≡ vs → numbers_code vs ≡ 0 → OnGridAt s i
      on_grid vs u c =
          let f = numbers_fine vs c in
          record {
            all_finite = λ v m. all_of_at finite vs v f.0 (subst (λ (l : List Float). Memᴰ v l) u m);
            all_in_range = λ v m. all_of_at in_range vs v f.1 (subst (λ (l : List Float). Memᴰ v l) u m);
          }

      by : (one two kn tail : Bool) → eqb (kind_at s i) 1 ≡ one → eqb (kind_at s i) 2 ≡ two → known (height_before s i) ≡ kn → tail_zero_at s i ≡ tail →
          tests one two kn tail (point_floats s i) (level_floats s i) ≡ 0 → Sound i
      by true two kn tail a b c d n = sound_point (eqb-true (kind_at s i) 1 a) (on_grid (point_floats s i) (yes _ _ a) n)
      by false true true true a b c d n = sound_level (eqb-true (kind_at s i) 2 b) c d (on_grid (level_floats s i) (no _ _ a ∙ yes _ _ b) n)
      by false true true false a b c d n = absurd (omega (arith, n))
      by false true false tail a b c d n = absurd (omega (arith, n))
      by false false kn tail a b c d n = absurd (omega (arith, n))

  sound_on_grid : (i : ℕ) → Sound i → OnGridAt s i
  sound_on_grid i (sound_point k g) = g
  sound_on_grid i (sound_level k c t g) = g

  pub has_vertex_lem : (i : ℕ) → ((j : ℕ) → j < suc i → number_of (vertex_at_position s j) ≡ 0) → HasVertex s i (point_of (vertex_at_position s i))
  has_vertex_lem i none = by (sound i (none i (omega arith)))
    where
      listed : (p : GridPoint) → HasVertex s i p → HasVertex s i (point_of (vertex_at_position s i))
      listed p h = subst (λ (q : GridPoint). HasVertex s i q) (sym (vertex_is i p h)) h

      by : Sound i → HasVertex s i (point_of (vertex_at_position s i))
      by (sound_point k g) = listed (point (x_at s i) (y_at s i) (height_at s i)) (a_point i k g)
      by (sound_level k c t g) =
          let f = last_point s i c in
          let j = f.at in
          listed (point (x_at s i) (y_at s i) (height_at s j))
          (a_level_point i j k t g f.is_last (sound_on_grid j (sound j (none j (omega (arith, f.is_last.before))))))

  -- ---- the reader's list
  -- vertex i of the list is the vertex at position i
  pub vertex_in_table : (n i : ℕ) → i < n → polygon.vertex_at (vertices_of s n) i ≡ point_of (vertex_at_position s i)
  vertex_in_table = table_at (λ i. point_of (vertex_at_position s i)) origin

  -- where two vertices of the list are equal
  pub record Repeated (n : ℕ) : Type 0 where
    pub i : ℕ
    pub j : ℕ
    pub before : i < j
    pub within : j < n
    pub equal : point_of (vertex_at_position s i) ≡ point_of (vertex_at_position s j)

  pub repeated : (n : ℕ) → repeated_vertex (vertices_of s n) n ≡ true → Repeated n
  unfolding repeated_vertex
  repeated n h =
      let table = vertices_of s n in
      let f = some_found 0 n (λ j. some 0 j (λ i. same_point (polygon.vertex_at table i) (polygon.vertex_at table j))) h in
      let g = some_found 0 f.at (λ i. same_point (polygon.vertex_at table i) (polygon.vertex_at table f.at)) f.true_at in
      record {
        i = g.at;
        j = f.at;
        before = g.high;
        within = f.high;
        equal =
            sym (vertex_in_table n g.at (omega (arith, g.high, f.high)))
            ∙ point_equal (polygon.vertex_at table g.at) (polygon.vertex_at table f.at) g.true_at
            ∙ vertex_in_table n f.at f.high;
      }

  pub not_repeated : (n i j : ℕ) → repeated_vertex (vertices_of s n) n ≡ false → i < j → j < n →
      point_of (vertex_at_position s i) ≡ point_of (vertex_at_position s j) → ⊥
  not_repeated n i j r h l e = repeated_none (vertices_of s n) n r i j h l (vertex_in_table n i (omega arith) ∙ e ∙ sym (vertex_in_table n j l))
