-- Two files of one rim, in whichever editions, are read alike with any limit: the same number is due, and the polygon is the same. Assumes nothing.
use mathlib.Core.Path.{◌≡◌, refl, sym, ap, ◌∙◌}
use mathlib.Core.Bool.{cond}
use mathlib.Core.List.{List, [], ◌∷◌}
use Prim.Native.Nat.{ℕ, zero, suc}
use native.Mathlib.Omega.{arith}
use lib.ListN.{replicate}
use lib.Dec.{ltb, leb, eqb}
use Rattle.lists.specs.Lists.{either, over, filled}
use Rattle.grid.specs.Number.{round_eighths}
use Rattle.terms.specs.Limits.{min_vertices, max_vertices, max_area_factor, count_fits}
use Rattle.polygon.specs.Normal.{no_normal, normal_code}
use Rattle.polygon.specs.Polygon.{origin, repeated_vertex}
use Rattle.terms.specs.Numbers.{first_due}
use Rattle.rim_file.specs.File.{offset, next_record, kind, third_number}
use Rattle.rim_file.specs.Record.{Height, known, height_of, record_at, vertex_of, number_of, point_of, normal_in}
use Rattle.rim_file.specs.Editions.{SameRim}
use Rattle.std.proofs.Common.{Some, Result}
use Rattle.codes.specs.declared.Refusal.{Refusal}
use Rattle.rim_file.specs.declared.Record.{Record}
use Rattle.rim_file.proofs.Editions.{normal_agree, next_agree, kind_agree, float_agree, record_agree}
use Rattle.reader.specs.Chain.{link, met_before, height_before, vertex_at_position, normal_at_position, over_limit}
use Rattle.reader.specs.Chain.{link_code, position_code, code_from, end_from, vertex_count, vertices_of, normals_of}
use Rattle.codes.specs.Refusals.{or_refused}
use Rattle.reader.specs.Reading.{file_code, number_due, polygon_of, reading_of}

module _ {s t : List ℕ} (same : SameRim s t) where
  -- ---- position by position
  link_agree : (i : ℕ) → link s i ≡ link t i
  unfolding link
  link_agree zero = same.first
  link_agree (suc i) = next_agree same (link s i) ∙ ap (λ (k : ℕ). next_record t (offset t k)) (link_agree i)

  met_agree : (i k : ℕ) → met_before s i k ≡ met_before t i k
  unfolding met_before
  met_agree zero k = refl
  met_agree (suc i) k = let a = link_agree i in let b = met_agree i k in λ j. either (eqb (a j) k) (b j)

  kind_at : (i : ℕ) → kind s (offset s (link s i)) ≡ kind t (offset t (link t i))
  kind_at i = kind_agree same (link s i) ∙ ap (λ (k : ℕ). kind t (offset t k)) (link_agree i)

  third_at : (i : ℕ) → third_number s (offset s (link s i)) ≡ third_number t (offset t (link t i))
  third_at i = float_agree same (link s i) 12 (omega arith) ∙ ap (λ (k : ℕ). third_number t (offset t k)) (link_agree i)

  height_agree : (i : ℕ) → height_before s i ≡ height_before t i
  unfolding height_before
  height_agree zero = refl
  height_agree (suc i) = let m = kind_at i in let z = third_at i in let h = height_agree i in λ j. cond (eqb (m j) 1) (Some (round_eighths (z j))) (h j)

  vertex_agree : (i : ℕ) → vertex_at_position s i ≡ vertex_at_position t i
  vertex_agree i =
      ap (λ (r : Result Record Refusal). vertex_of r (height_of (height_before s i))) (record_agree same (link s i) (known (height_before s i)))
      ∙ ap (λ (k : ℕ). vertex_of (record_at t (offset t k) (known (height_before s i))) (height_of (height_before s i))) (link_agree i)
      ∙ ap (λ (h : Height). vertex_of (record_at t (offset t (link t i)) (known h)) (height_of h)) (height_agree i)

  normal_at_agree : (i : ℕ) → normal_at_position s i ≡ normal_at_position t i
  normal_at_agree i = normal_agree same (link s i) ∙ ap (λ (k : ℕ). normal_in t (offset t k)) (link_agree i)

  code_agree : (limit i : ℕ) → position_code limit s i ≡ position_code limit t i
  unfolding position_code link_code
  code_agree limit i =
      let r = same.count in
      let l = link_agree i in
      let m = met_agree i (link s i) ∙ ap (met_before t i) (link_agree i) in
      let v = vertex_agree i in
      let n = normal_at_agree i in
      λ j. first_due (cond (ltb (r j) (l j)) 3 (cond (m j) 4 (cond (leb limit i) (over_limit limit) 0))) (first_due (number_of (v j)) (normal_code (n j)))

  codes_agree : (limit i k : ℕ) → code_from limit s i k ≡ code_from limit t i k
  unfolding code_from
  codes_agree limit i zero = refl
  codes_agree limit i (suc k) =
      let l = link_agree i in
      let c = code_agree limit i in
      let rest = codes_agree limit (suc i) k in
      λ j. cond (eqb (l j) 0) 0 (cond (eqb (c j) 0) (rest j) (c j))

  end_agree : (i k : ℕ) → end_from s i k ≡ end_from t i k
  unfolding end_from
  end_agree i zero = refl
  end_agree i (suc k) = let l = link_agree i in let rest = end_agree (suc i) k in λ j. cond (eqb (l j) 0) i (rest j)

  -- ---- the whole file
  count_agree : vertex_count s ≡ vertex_count t
  count_agree = end_agree 0 (suc max_vertices)

  vertices_agree : vertices_of s (vertex_count s) ≡ vertices_of t (vertex_count t)
  vertices_agree = λ j. filled (over 0 (count_agree j) (λ i. point_of (vertex_agree i j) ∷ [])) (replicate max_vertices origin)

  normals_agree : normals_of s (vertex_count s) ≡ normals_of t (vertex_count t)
  normals_agree = λ j. filled (over 0 (count_agree j) (λ i. normal_at_agree i j ∷ [])) (replicate max_vertices no_normal)

  -- the same number is due
  pub number_same : (limit : ℕ) → number_due limit s ≡ number_due limit t
  unfolding number_due file_code
  number_same limit =
      let w = same.right ∙ sym same.right' in
      let a = same.area in
      let c = codes_agree limit 0 (suc max_vertices) in
      λ j.
      cond (count_fits limit)
      (cond (w j) 1
      (cond (ltb max_area_factor (a j)) 2
      (first_due (c j)
      (cond (ltb (count_agree j) min_vertices) 10
      (cond (repeated_vertex (vertices_agree j) (count_agree j)) 11
      0)))))
      14

  -- the polygon is the same
  pub polygon_same : polygon_of s ≡ polygon_of t
  polygon_same =
      let a = same.area in
      let b = same.bend in
      λ j. record { n = count_agree j; area_factor = a j; bend_factor = b j; vertices = vertices_agree j; normals = normals_agree j }

  -- so the answer is
  pub reading_same : (limit : ℕ) → reading_of limit s ≡ reading_of limit t
  reading_same limit = λ j. or_refused (number_same limit j) (polygon_same j)
