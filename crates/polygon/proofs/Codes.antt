-- The first number due on the vertices and their normals, one vertex after the other. Assumes nothing.
use mathlib.Core.Path.{◌≡◌, refl, sym, ap, ◌∙◌}
use mathlib.Core.Bool.{Bool, true, false, cond}
use mathlib.Core.List.{List}
use mathlib.Core.Logic.{◌⊎◌, inl, inr}
use Prim.Native.Nat.{ℕ, zero, suc, ◌+◌, ◌-◌, ◌≤◌, ◌<◌}
use native.Mathlib.Omega.{arith}
use Rattle.grid.specs.declared.GridPoint.{GridPoint}
use Rattle.grid.specs.Point.{PointOnGrid, point_on_grid}
use Rattle.grid.proofs.Points.{point_on_grid_lem, point_on_grid_test}
use Rattle.lists.proofs.Choice.{below_or_same}
use Rattle.polygon.specs.declared.normal.Normal.{Normal}
use Rattle.polygon.specs.Normal.{normal_at, normal_in_range, normal_code, NormalInRange}
use Rattle.polygon.specs.Polygon.{vertex_at, vertex_code, vertices_code_from, vertices_code}
use Rattle.terms.specs.Numbers.{first_due}
use Rattle.terms.proofs.Numbers.{due_on}
use Rattle.polygon.proofs.Normals.{normal_in_range_lem, normal_in_range_test}

module _ (vertices : List GridPoint) (normals : List Normal) where
  -- ---- as a loop finds it
  step : (i n : ℕ) → i < n →
      vertices_code_from vertices normals i (n - i) ≡ first_due (vertex_code vertices normals i) (vertices_code_from vertices normals (i + 1) (n - (i + 1)))
  unfolding vertices_code_from
  step i n l =
      let more : n - i ≡ suc (n - (i + 1)) = omega arith in
      let next : suc i ≡ i + 1 = omega arith in
      ap (vertices_code_from vertices normals i) more
      ∙ ap (λ (j : ℕ). first_due (vertex_code vertices normals i) (vertices_code_from vertices normals j (n - (i + 1)))) next

  pub code_start : (n : ℕ) → vertices_code_from vertices normals 0 (n - 0) ≡ vertices_code vertices normals n
  code_start n = let all : n - 0 ≡ n = omega arith in ap (vertices_code_from vertices normals 0) all

  pub code_here : (i n k : ℕ) → i < n → vertex_code vertices normals i ≡ suc k → vertices_code_from vertices normals i (n - i) ≡ suc k
  code_here i n k l e = step i n l ∙ ap (λ (c : ℕ). first_due c (vertices_code_from vertices normals (i + 1) (n - (i + 1)))) e

  pub code_on : (i n : ℕ) → i < n → vertex_code vertices normals i ≡ 0 →
      vertices_code_from vertices normals i (n - i) ≡ vertices_code_from vertices normals (i + 1) (n - (i + 1))
  code_on i n l e = step i n l ∙ due_on (vertices_code_from vertices normals (i + 1) (n - (i + 1))) e

  pub code_end : (i n : ℕ) → n ≤ i → vertices_code_from vertices normals i (n - i) ≡ 0
  unfolding vertices_code_from
  code_end i n h = let none : n - i ≡ 0 = omega arith in ap (vertices_code_from vertices normals i) none

  -- ---- none is due exactly where none is on each vertex
  clear_each : (i k : ℕ) → vertices_code_from vertices normals i k ≡ 0 → (j : ℕ) → i ≤ j → j < i + k → vertex_code vertices normals j ≡ 0
  unfolding vertices_code_from
  clear_each i zero h j l m = absurd (omega arith)
  clear_each i (suc k) h j l m = by (vertex_code vertices normals i) refl h (λ d q. clear_each (suc i) k d j q (omega arith)) (below_or_same i j l)
    where
      by : (c : ℕ) → vertex_code vertices normals i ≡ c → first_due c (vertices_code_from vertices normals (suc i) k) ≡ 0 →
          (vertices_code_from vertices normals (suc i) k ≡ 0 → i < j → vertex_code vertices normals j ≡ 0) → (i < j) ⊎ (i ≡ j)
          → vertex_code vertices normals j ≡ 0
      by zero e d later (inl q) = later d q
      by zero e d later (inr q) = ap (vertex_code vertices normals) (sym q) ∙ e
      by (suc c) e d later o = absurd (omega arith)

  each_clear : (i k : ℕ) → ((j : ℕ) → i ≤ j → j < i + k → vertex_code vertices normals j ≡ 0) → vertices_code_from vertices normals i k ≡ 0
  unfolding vertices_code_from
  each_clear i zero h = refl
  each_clear i (suc k) h =
      due_on (vertices_code_from vertices normals (suc i) k) (h i (omega arith) (omega arith))
      ∙ each_clear (suc i) k (λ j l m. h j (omega arith) (omega arith))

  -- ---- on one vertex: its point is on the grid and its normal in range
  pub nine : (i : ℕ) → point_on_grid (vertex_at vertices i) ≡ false → vertex_code vertices normals i ≡ 9
  nine i h = ap (λ (b : Bool). cond b (normal_code (normal_at normals i)) 9) h

  pub past_nine : (i : ℕ) → point_on_grid (vertex_at vertices i) ≡ true → vertex_code vertices normals i ≡ normal_code (normal_at normals i)
  past_nine i h = ap (λ (b : Bool). cond b (normal_code (normal_at normals i)) 9) h

  pub eighteen : (i : ℕ) → point_on_grid (vertex_at vertices i) ≡ true → normal_in_range (normal_at normals i) ≡ false → vertex_code vertices normals i ≡ 18
  eighteen i h r = past_nine i h ∙ ap (λ (b : Bool). cond b 0 18) r

  pub none_due : (i : ℕ) → point_on_grid (vertex_at vertices i) ≡ true → normal_in_range (normal_at normals i) ≡ true → vertex_code vertices normals i ≡ 0
  none_due i h r = past_nine i h ∙ ap (λ (b : Bool). cond b 0 18) r

  pub record Clear (i : ℕ) : Type 0 where
    pub on_grid : point_on_grid (vertex_at vertices i) ≡ true
    pub ranged : normal_in_range (normal_at normals i) ≡ true

  pub clear : (i : ℕ) → vertex_code vertices normals i ≡ 0 → Clear i
  clear i h = by (point_on_grid (vertex_at vertices i)) (normal_in_range (normal_at normals i)) refl refl h
    where
      by : (g r : Bool) → point_on_grid (vertex_at vertices i) ≡ g → normal_in_range (normal_at normals i) ≡ r
          → ◌≡◌ {A = ℕ} (cond g (cond r 0 18) 9) 0 → Clear i
      by true true e d z = record { on_grid = e; ranged = d }
      by true false e d z = absurd (omega arith)
      by false r e d z = absurd (omega arith)

  -- ---- on the first n
  module _ (n : ℕ) where
    pub on_grid_at : vertices_code vertices normals n ≡ 0 → (i : ℕ) → i < n → PointOnGrid (vertex_at vertices i)
    on_grid_at h i l = point_on_grid_lem (vertex_at vertices i) (clear i (clear_each 0 n h i (omega arith) (omega arith))).on_grid

    pub in_range_at : vertices_code vertices normals n ≡ 0 → (i : ℕ) → i < n → NormalInRange (normal_at normals i)
    in_range_at h i l = normal_in_range_lem (normal_at normals i) (clear i (clear_each 0 n h i (omega arith) (omega arith))).ranged

    pub all_clear : ((i : ℕ) → i < n → PointOnGrid (vertex_at vertices i)) → ((i : ℕ) → i < n → NormalInRange (normal_at normals i)) →
        vertices_code vertices normals n ≡ 0
    all_clear g r =
        each_clear 0 n (λ i z m. let l : i < n = omega arith in
        none_due i (point_on_grid_test (vertex_at vertices i) (g i l)) (normal_in_range_test (normal_at normals i) (r i l)))
