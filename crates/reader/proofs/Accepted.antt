-- The polygon that is read: from 3 vertices to the limit, each the one that its record gives, with its normal, all in range, no two vertices equal.
-- Assumes nothing.
use mathlib.Core.Path.{◌≡◌, refl, sym, ap, subst}
use mathlib.Core.Bool.{true}
use mathlib.Core.List.{List}
use Prim.Native.Nat.{ℕ, zero, suc, ◌+◌, ◌≤◌, ◌<◌}
use native.Mathlib.Omega.{arith}
use lib.ListN.{get_or}
use Rattle.std.specs.Prelude.{IsOk}
use Rattle.codes.specs.Refusals.{refusal, or_refused}
use Rattle.codes.proofs.Refusals.{ok_answered}
use Rattle.grid.specs.Point.{OnGrid, PointOnGrid}
use Rattle.polygon.specs.declared.Polygon.{Polygon}
use Rattle.polygon.specs.Polygon.{ValidPolygon}
use Rattle.polygon.specs.Polygon as polygon
use Rattle.polygon.specs.Normal.{no_normal, normal_in_range, NormalInRange}
use Rattle.polygon.specs.Normal as polygon-normals
use Rattle.polygon.proofs.Normals.{normal_in_range_lem}
use Rattle.polygon.proofs.Validity.{repeated_none}
use Rattle.rim_file.specs.File.{header_start, area_factor_of, bend_factor_of, offset}
use Rattle.rim_file.specs.Record.{Height, Vertex, known, height_of, number_of, point_of}
use Rattle.std.proofs.Common.{Ok, Err}
use Rattle.rim_file.proofs.Vertices.{Vertexed, vertexed, refused_positive}
use Rattle.rim_file.proofs.Lengths.{whole}
use Rattle.reader.specs.Chain.{link, height_before, vertex_at_position, normal_at_position, vertex_count, vertices_of, normals_of}
use Rattle.reader.specs.Due.{HasRecords, HasVertex, HasNormal}
use Rattle.reader.specs.Reading.{number_due, polygon_of, reading_of, polygon_in}
use Rattle.reader.proofs.Answers.{count_within, limit_most}
use Rattle.reader.proofs.Ends.{no_number, ranged}
use Rattle.reader.proofs.RimVertices.{has_vertex_lem, vertex_in_table}
use Rattle.reader.proofs.Normals.{has_normal}
use Rattle.reader.proofs.Tables.{table_at}
use Rattle.reader.proofs.FirstNumber.{Read, read_end}
use Rattle.reader.proofs.Demand1.{complete_read}

module _ (limit : ℕ) (s : List ℕ) (r : Read limit s) where
  fine : (i : ℕ) → i < vertex_count s → number_of (vertex_at_position s i) ≡ 0
  fine i h = no_number limit s (vertex_count s) (read_end limit s r) (whole s r.right) i h

  is_vertex : (v : Vertex) → number_of v ≡ 0 → ((k : ℕ) → v ≡ Err (refusal k) → 0 < k) → v ≡ Ok (point_of v)
  is_vertex (Ok p) e h = refl
  is_vertex (Err r) e h = absurd (omega (arith, h r.number refl, e))

  vertexed_at : (i : ℕ) → i < vertex_count s → OnGrid (height_of (height_before s i)) →
      Vertexed s (offset s (link s i)) (height_before s i) (point_of (vertex_at_position s i))
  vertexed_at i h g =
      vertexed s (offset s (link s i)) (height_before s i) (point_of (vertex_at_position s i)) g
      (is_vertex (vertex_at_position s i) (fine i h)
      (λ k e. refused_positive s (offset s (link s i)) (known (height_before s i)) (height_of (height_before s i)) k e))

  height_on_grid : (i : ℕ) → i ≤ vertex_count s → OnGrid (height_of (height_before s i))
  unfolding height_before
  height_on_grid zero h = record { size = omega arith }
  height_on_grid (suc i) h =
      let v = vertexed_at i h (height_on_grid i (omega arith)) in
      subst (λ (x : Height). OnGrid (height_of x)) (sym v.height_after) v.on_grid.z

  vertex_on_grid : (i : ℕ) → i < vertex_count s → PointOnGrid (polygon.vertex_at (vertices_of s (vertex_count s)) i)
  vertex_on_grid i h = subst PointOnGrid (sym (vertex_in_table s (vertex_count s) i h)) (vertexed_at i h (height_on_grid i (omega arith))).on_grid

  normal_fine : (i : ℕ) → i < vertex_count s → normal_in_range (normal_at_position s i) ≡ true
  normal_fine i h = ranged limit s (vertex_count s) (read_end limit s r) (whole s r.right) i h

  normal_in_table : (i : ℕ) → i < vertex_count s → NormalInRange (polygon-normals.normal_at (normals_of s (vertex_count s)) i)
  normal_in_table i h =
      subst NormalInRange (sym (table_at (λ j. normal_at_position s j) no_normal (vertex_count s) i h))
      (normal_in_range_lem (normal_at_position s i) (normal_fine i h))

  few : vertex_count s ≤ limit
  few = count_within limit (limit_most limit r.fits) s r.chain_fine

  valid : ((i : ℕ) → get_or s i 0 < 256) → ValidPolygon (polygon_of s)
  valid bytes = record {
    area_factor = r.area;
    bend_factor = omega (arith, bytes (header_start s + 6), bytes (header_start s + 6 + 1));
    most = omega (arith, limit_most limit r.fits, few);
    on_grid = vertex_on_grid;
    normals_in_range = normal_in_table;
    least = r.enough;
    distinct = repeated_none (vertices_of s (vertex_count s)) (vertex_count s) r.distinct;
  }

module _ (limit : ℕ) (s : List ℕ) (complete : IsOk (reading_of limit s)) where
  pub complete_polygon : polygon_in (reading_of limit s) ≡ polygon_of s
  complete_polygon = ap (λ (k : ℕ). polygon_in (or_refused k (polygon_of s))) (ok_answered (number_due limit s) (polygon_of s) complete)

  -- the polygon is valid; the places of s are bytes
  pub read_valid : ((i : ℕ) → get_or s i 0 < 256) → ValidPolygon (polygon_in (reading_of limit s))
  read_valid bytes = subst ValidPolygon (sym complete_polygon) (valid limit s (complete_read limit s complete) bytes)

  -- it has no more vertices than the limit (rules 4.5, 4.20)
  pub within_limit : (polygon_in (reading_of limit s)).n ≤ limit
  within_limit = subst (λ p. p.n ≤ limit) (sym complete_polygon) (few limit s (complete_read limit s complete))

  -- its vertices are those that the records of the chain give, in the chain's order (rule 1.8)
  pub read_vertices : (i : ℕ) → i < (polygon_in (reading_of limit s)).n → HasVertex s i (polygon.vertex_at (polygon_in (reading_of limit s)).vertices i)
  read_vertices = subst (λ p. (i : ℕ) → i < p.n → HasVertex s i (polygon.vertex_at p.vertices i)) (sym complete_polygon)
      (λ i h. subst (λ q. HasVertex s i q) (sym (vertex_in_table s (vertex_count s) i h))
      (has_vertex_lem s i (λ j l. fine limit s (complete_read limit s complete) j (omega arith))))

  -- its normals are those that the same records give (rules 1.13, 1.14)
  pub read_normals : (i : ℕ) → i < (polygon_in (reading_of limit s)).n → HasNormal s i (polygon-normals.normal_at (polygon_in (reading_of limit s)).normals i)
  read_normals = subst (λ p. (i : ℕ) → i < p.n → HasNormal s i (polygon-normals.normal_at p.normals i)) (sym complete_polygon)
      (λ i h. subst (λ q. HasNormal s i q) (sym (table_at (λ j. normal_at_position s j) no_normal (vertex_count s) i h))
      (has_normal s i (normal_fine limit s (complete_read limit s complete) i h)))

  -- it has a vertex for each record of the chain, all of them records of the file and no two the same, up to the link 0 that ends it (rules 1.5, 1.8)
  pub read_records : HasRecords s (polygon_in (reading_of limit s)).n
  read_records = subst (λ p. HasRecords s p.n) (sym complete_polygon) (read_end limit s (complete_read limit s complete)).has

  pub read_ended : link s (polygon_in (reading_of limit s)).n ≡ 0
  read_ended = subst (λ p. link s p.n ≡ 0) (sym complete_polygon) (read_end limit s (complete_read limit s complete)).ended

  -- and the header's factors (rule 1.2)
  pub read_area_factor : (polygon_in (reading_of limit s)).area_factor ≡ area_factor_of s
  read_area_factor = ap (λ (p : Polygon). p.area_factor) complete_polygon

  pub read_bend_factor : (polygon_in (reading_of limit s)).bend_factor ≡ bend_factor_of s
  read_bend_factor = ap (λ (p : Polygon). p.bend_factor) complete_polygon
