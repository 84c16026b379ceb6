-- The numbers of calls on rims are at most 20, so the one call never gives 23. Assumes nothing.
use mathlib.Core.Path.{◌≡◌, ap}
use mathlib.Core.List.{List}
use Prim.Native.Nat.{ℕ, ◌≤◌}
use native.Mathlib.Omega.{arith}
use Rattle.std.specs.Prelude.{Err}
use Rattle.codes.specs.Refusals.{refusal, number_of}
use Rattle.polygon.specs.declared.Polygon.{Polygon}
use Rattle.polygon.specs.Due.{PolygonPlace, PolygonDue}
use Rattle.polygon.specs.Due as polygon
use Rattle.rim_file.specs.File.{Bytes}
use Rattle.reader.specs.Order.{FilePlace}
use Rattle.reader.specs.Due.{FileDue}
use Rattle.reader.specs.Due as reader
use Rattle.pipeline.specs.Patching.{Tables, patch_polygon, patch_file}
use Rattle.demands.specs.Demand1.{FileCallDue, by_reader, twelve, thirteen}
use Rattle.demands.specs.Polygons.{PolygonCallDue, by_polygon}
use Rattle.demands.specs.Polygons as polygons
use Rattle.demands.proofs.Demand1.{given_first}
use Rattle.demands.proofs.Polygons as polygon-calls

read_at_most_20 : {limit : ℕ} {file : List ℕ} {p : FilePlace} {k : ℕ} → FileDue limit file p k → k ≤ 20
read_at_most_20 (reader.limit_wrong _) = omega arith
read_at_most_20 (reader.wrong_length _) = omega arith
read_at_most_20 (reader.area_factor _ _) = omega arith
read_at_most_20 (reader.link_over _ _ _) = omega arith
read_at_most_20 (reader.met_again _ _ _ _ _) = omega arith
read_at_most_20 (reader.too_many _ _) = omega arith
read_at_most_20 (reader.above_limit _ _) = omega arith
read_at_most_20 (reader.kind_unknown _ _ _ _) = omega arith
read_at_most_20 (reader.no_height _ _ _ _) = omega arith
read_at_most_20 (reader.not_finite _ _ _ _ _) = omega arith
read_at_most_20 (reader.tail_not_zero _ _ _ _) = omega arith
read_at_most_20 (reader.out_of_range _ _ _ _ _) = omega arith
read_at_most_20 (reader.normal_out_of_range _ _ _ _ _) = omega arith
read_at_most_20 (reader.too_few _ _ _ _) = omega arith
read_at_most_20 (reader.vertex_repeated _ _ _ _ _ _ _) = omega arith

built_at_most_20 : {p : Polygon} {q : PolygonPlace} {k : ℕ} → PolygonDue p q k → k ≤ 20
built_at_most_20 (polygon.area_factor _) = omega arith
built_at_most_20 (polygon.bend_factor _) = omega arith
built_at_most_20 (polygon.too_many _) = omega arith
built_at_most_20 (polygon.off_grid _ _) = omega arith
built_at_most_20 (polygon.normal_out_of_range _ _) = omega arith
built_at_most_20 (polygon.too_few _) = omega arith
built_at_most_20 (polygon.vertex_repeated _ _ _) = omega arith

file_at_most_20 : {limit : ℕ} {file : List ℕ} {Short : Type 0} {p : FilePlace} {k : ℕ} → FileCallDue limit file Short p k → k ≤ 20
file_at_most_20 (by_reader d) = read_at_most_20 d
file_at_most_20 (twelve _) = omega arith
file_at_most_20 (thirteen _) = omega arith

polygon_at_most_20 : {p : Polygon} {Short : Type 0} {q : PolygonPlace} {k : ℕ} → PolygonCallDue p Short q k → k ≤ 20
polygon_at_most_20 (by_polygon d) = built_at_most_20 d
polygon_at_most_20 (polygons.twelve _) = omega arith
polygon_at_most_20 (polygons.thirteen _) = omega arith

-- the one call never gives 23 (rules 4.23, 4.31, 4.34)
pub file_never_23 : (limit : ℕ) (file : List ℕ) → Bytes file → (t : Tables) → (patch_file limit file t).outcome ≡ Err (refusal 23) → ⊥
file_never_23 limit file bytes t e = omega (arith, file_at_most_20 (given_first limit file bytes t 22 (ap number_of e)).is_due)

pub polygon_never_23 : (p : Polygon) (t : Tables) → (patch_polygon p t).outcome ≡ Err (refusal 23) → ⊥
polygon_never_23 p t e = omega (arith, polygon_at_most_20 (polygon-calls.given_first p t 22 (ap number_of e)).is_due)
