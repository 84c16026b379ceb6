-- No two vertices share a grid point exactly where the test finds none, and a polygon's code is 0 exactly where it is valid. Assumes nothing.
use mathlib.Core.Path.{◌≡◌, refl, ◌∙◌}
use mathlib.Core.Bool.{Bool, true, false, cond}
use mathlib.Core.List.{List}
use Prim.Native.Nat.{ℕ, zero, suc, ◌<◌}
use native.Mathlib.Omega.{arith}
use borrow.Author.Tests.{ltb-false, le-ltb}
use lib.Dec.{ltb}
use Rattle.grid.specs.declared.GridPoint.{GridPoint}
use Rattle.lists.specs.Lists.{some}
use Rattle.lists.proofs.Choice.{no}
use Rattle.lists.proofs.Ranges.{some_none, some_here, some_nowhere, some_found}
use Rattle.polygon.specs.declared.Polygon.{Polygon}
use Rattle.terms.specs.Limits.{min_vertices, max_vertices, max_area_factor, max_bend_factor}
use Rattle.polygon.specs.Polygon.{vertex_at, same_point, repeated_vertex, vertices_code, code_of, ValidPolygon}
use Rattle.terms.specs.Numbers.{first_due}
use Rattle.polygon.proofs.Points.{point_equal, point_same}
use Rattle.polygon.proofs.Codes.{on_grid_at, in_range_at, all_clear}
use Rattle.terms.proofs.Numbers.{due_on}

module _ (vertices : List GridPoint) (n : ℕ) where
  pub repeated_none : repeated_vertex vertices n ≡ false → (i j : ℕ) → i < j → j < n → vertex_at vertices i ≡ vertex_at vertices j → ⊥
  unfolding repeated_vertex
  repeated_none h i j l k e =
      some_none 0 n (λ j. some 0 j (λ i. same_point (vertex_at vertices i) (vertex_at vertices j))) h j (omega arith) k
      (some_here 0 j (λ i. same_point (vertex_at vertices i) (vertex_at vertices j)) i (omega arith) l
      (point_same (vertex_at vertices i) (vertex_at vertices j) e))

  pub repeated_nowhere : ((i j : ℕ) → i < j → j < n → vertex_at vertices i ≡ vertex_at vertices j → ⊥) → repeated_vertex vertices n ≡ false
  unfolding repeated_vertex
  repeated_nowhere d =
      some_nowhere 0 n (λ j. some 0 j (λ i. same_point (vertex_at vertices i) (vertex_at vertices j))) (λ j l k h.
      let f = some_found 0 j (λ i. same_point (vertex_at vertices i) (vertex_at vertices j)) h in
      d f.at j f.high k (point_equal (vertex_at vertices f.at) (vertex_at vertices j) f.true_at))

  -- two vertices at one grid point
  pub record Repeated : Type 0 where
    pub first : ℕ
    pub second : ℕ
    pub apart : first < second
    pub below : second < n
    pub at_one : vertex_at vertices first ≡ vertex_at vertices second

  pub repeated_found : repeated_vertex vertices n ≡ true → Repeated
  unfolding repeated_vertex
  repeated_found h =
      let g = some_found 0 n (λ j. some 0 j (λ i. same_point (vertex_at vertices i) (vertex_at vertices j))) h in
      let f = some_found 0 g.at (λ i. same_point (vertex_at vertices i) (vertex_at vertices g.at)) g.true_at in
      record {
        first = f.at;
        second = g.at;
        apart = f.high;
        below = g.high;
        at_one = point_equal (vertex_at vertices f.at) (vertex_at vertices g.at) f.true_at;
      }

-- the tests one after the other: the code is 0 exactly where each is passed
tests : Bool → Bool → Bool → ℕ → Bool → Bool → ℕ
tests area bend most each least same = cond area 2 (cond bend 2 (cond most 5 (first_due each (cond least 10 (cond same 11 0)))))

record Passed (t₁ t₂ t₃ : Bool) (each : ℕ) (t₅ t₆ : Bool) : Type 0 where
  area : t₁ ≡ false
  bend : t₂ ≡ false
  most : t₃ ≡ false
  none : each ≡ 0
  least : t₅ ≡ false
  same : t₆ ≡ false

passed : (t₁ t₂ t₃ : Bool) (each : ℕ) (t₅ t₆ : Bool) → tests t₁ t₂ t₃ each t₅ t₆ ≡ 0 → Passed t₁ t₂ t₃ each t₅ t₆
unfolding tests
passed false false false zero false false h = record { area = refl; bend = refl; most = refl; none = refl; least = refl; same = refl }
passed true t₂ t₃ each t₅ t₆ h = absurd (omega arith)
passed false true t₃ each t₅ t₆ h = absurd (omega arith)
passed false false true each t₅ t₆ h = absurd (omega arith)
passed false false false (suc k) t₅ t₆ h = absurd (omega arith)
passed false false false zero true t₆ h = absurd (omega arith)
passed false false false zero false true h = absurd (omega arith)

pub code_valid : (p : Polygon) → code_of p ≡ 0 → ValidPolygon p
unfolding code_of tests
code_valid p h =
    let t = passed (ltb max_area_factor p.area_factor) (ltb max_bend_factor p.bend_factor) (ltb max_vertices p.n)
    (vertices_code p.vertices p.normals p.n) (ltb p.n min_vertices) (repeated_vertex p.vertices p.n) h in
    record {
      area_factor = ltb-false max_area_factor p.area_factor t.area;
      bend_factor = ltb-false max_bend_factor p.bend_factor t.bend;
      most = ltb-false max_vertices p.n t.most;
      on_grid = on_grid_at p.vertices p.normals p.n t.none;
      normals_in_range = in_range_at p.vertices p.normals p.n t.none;
      least = ltb-false p.n min_vertices t.least;
      distinct = repeated_none p.vertices p.n t.same;
    }

pub valid_code : (p : Polygon) → ValidPolygon p → code_of p ≡ 0
unfolding code_of
valid_code p v =
    no _ _ (le-ltb max_area_factor p.area_factor v.area_factor)
    ∙ no _ _ (le-ltb max_bend_factor p.bend_factor v.bend_factor)
    ∙ no _ _ (le-ltb max_vertices p.n v.most)
    ∙ due_on _ (all_clear p.vertices p.normals p.n v.on_grid v.normals_in_range)
    ∙ no _ _ (le-ltb p.n min_vertices v.least)
    ∙ no _ _ (repeated_nowhere p.vertices p.n v.distinct)
