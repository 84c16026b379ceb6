-- The worked cases hold. Each is computed over the definitions, the rim files in steps; then one proof for the list. Assumes nothing.
use mathlib.Core.Path.{◌≡◌, refl, ap, ◌∙◌}
use mathlib.Core.Bool.{false}
use mathlib.Core.List.{List, [], ◌∷◌, ◌++◌, map}
use Prim.Native.Nat.{ℕ}
use lib.Ieee.{of_bits}
use lib.IntN.{pos, negsuc}
use lib.Dec.{eqb}
use lib.ListN.{length, take, drop, replicate}
use Rattle.terms.specs.Limits.{max_vertices}
use Rattle.terms.specs.Entries.{triple, before, hangs, row_before}
use Rattle.lists.specs.Lists.{filled, either, up_from, every_from, some_from}
use Rattle.lists.specs.Sums.{sum_below}
use Rattle.lists.proofs.Choice.{yes, no}
use Rattle.grid.specs.Point.{point}
use Rattle.grid.specs.Number.{finite, numerator, denominator, negative, in_range, round_eighths, grid_number_of}
use Rattle.polygon.specs.declared.Polygon.{Polygon}
use Rattle.polygon.specs.Polygon.{origin, code_of, repeated_vertex, vertices_code_from}
use Rattle.terms.specs.Numbers.{first_due}
use Rattle.polygon.specs.declared.normal.Normal.{Normal}
use Rattle.polygon.specs.Normal.{normal, no_normal}
use Rattle.rim_file.specs.File.{layout_of, length_wrong}
use Rattle.rim_file.specs.Record.{record_at, numbers_code, vertex_of, normal_in}
use Rattle.reader.specs.Chain.{link, met_before, height_before, link_code, position_code, code_from, end_from}
use Rattle.reader.specs.Reading.{polygon_of}
use Rattle.reader.specs.Reading as reader
use Rattle.integers.specs.Rounding.{root_digits}
use Rattle.geometry.specs.Faces.{length_of, ratio_of, bend_of}
use Rattle.geometry.specs.Spheres.{orient_of, centre_of, distance_of}
use Rattle.planar.specs.Circles.{circumcentre_of, distance_in_plane}
use Rattle.faces.specs.Faces.{is_face}
use Rattle.delaunay_tetrahedra.specs.Tetrahedra.{counts, is_face_of_four, cospherical}
use Rattle.delaunay_triangles.specs.Triangles.{counts_in_plane, is_counted_three, cocircular}
use Rattle.delaunay.specs.Candidates.{is_flat, is_candidate, candidates_of, degenerate}
use Rattle.dihedrals.specs.Dihedrals.{rows_of}
use Rattle.weights.specs.Weights.{weights_of}
use Rattle.jobs.specs.Job.{ascends, candidate_fits, names_pair, row_fits, lists_code, job_code}
use Rattle.finder.specs.Finding.{short, number_due}
use Rattle.triangulation.specs.Triangulations.{Problem, Answer, best, patch, best_key, key, is_triangulation}
use Rattle.triangulation.specs.Triangulations.{total_weight, preorder_from, count_between, count_outside}
use Rattle.triangulation.specs.Problems.{problem_from}
use Rattle.triangulator.specs.Call.{settled}
use Rattle.pricing.specs.Quote.{priced}
use Rattle.pricing.specs.Patch.{patched_at}
use Rattle.validation.specs.Validation.{named, is_tiling, list_total, list_code}
use Rattle.judge.specs.Call.{judge_code, judged}
use Rattle.pipeline.specs.Patching.{tables, Patching, patching, problem_in, tables_short}
use Rattle.pipeline.specs.Patching.{patched, patch_by, polygon_number, file_number, patch_polygon, patch_file}
use Rattle.demands.specs.Worked.{Case, of_file, of_tilings, file_p, file_n, lent_p, with_totals, worked}

-- ---- rim file P and the same rim with normals
-- the polygon on the grid of eighths, with the origin and no normal at each further place
abbrev rim_with : List Normal → Polygon
rim_with normals = record {
  n = 4;
  area_factor = 1;
  bend_factor = 1;
  vertices =
      filled (point (pos 0) (pos 0) (pos 0) ∷ point (pos 8) (pos 0) (pos 0) ∷ point (pos 8) (pos 8) (pos 6) ∷ point (pos 0) (pos 8) (pos 0) ∷ [])
      (replicate max_vertices origin);
  normals = filled normals (replicate max_vertices no_normal);
}

abbrev none : List Normal
none = no_normal ∷ no_normal ∷ no_normal ∷ no_normal ∷ []

abbrev slopes : List Normal
slopes = no_normal ∷ no_normal ∷ normal (pos 0) (negsuc 599) (pos 800) ∷ normal (pos 0) (negsuc 599) (pos 800) ∷ []

abbrev triples_p : List (List ℕ)
triples_p = triple 0 1 2 ∷ triple 0 1 3 ∷ triple 0 2 3 ∷ triple 1 2 3 ∷ []

abbrev rows_p : List (List ℕ)
rows_p = triple 1 3 314 ∷ triple 2 0 360 ∷ []

abbrev job : List ℕ → Problem
job weights = problem_from 4 triples_p weights rows_p

-- what is read of the bytes
number_P : reader.number_due max_vertices file_p ≡ 0
unfolding of_bits up_from some_from finite numerator denominator negative in_range round_eighths repeated_vertex layout_of length_wrong record_at
    numbers_code vertex_of normal_in link met_before height_before link_code position_code code_from end_from reader.file_code reader.number_due
number_P = refl

polygon_P : polygon_of file_p ≡ rim_with none
unfolding of_bits up_from some_from finite numerator denominator negative in_range round_eighths layout_of record_at
    numbers_code vertex_of normal_in link met_before height_before end_from
polygon_P = refl

number_N : reader.number_due max_vertices file_n ≡ 0
unfolding of_bits up_from some_from finite numerator denominator negative in_range round_eighths repeated_vertex layout_of length_wrong record_at
    numbers_code vertex_of normal_in link met_before height_before link_code position_code code_from end_from reader.file_code reader.number_due
number_N = refl

polygon_N : polygon_of file_n ≡ rim_with slopes
unfolding of_bits up_from some_from finite numerator denominator negative in_range round_eighths layout_of record_at
    numbers_code vertex_of normal_in link met_before height_before end_from
polygon_N = refl

-- the number due on the polygon, its weights, and the best tiling
code_P : code_of (rim_with none) ≡ 0
unfolding code_of repeated_vertex vertices_code_from some_from
code_P = refl

code_N : code_of (rim_with slopes) ≡ 0
unfolding code_of repeated_vertex vertices_code_from some_from
code_N = refl

weights_P : weights_of (rim_with none) triples_p ≡ 320 ∷ 256 ∷ 320 ∷ 373 ∷ []
unfolding length_of root_digits sum_below
weights_P = refl

weights_N : weights_of (rim_with slopes) triples_p ≡ 320 ∷ 456 ∷ 1040 ∷ 516 ∷ []
unfolding length_of root_digits ratio_of bend_of sum_below
weights_N = refl

best_P : best (job (320 ∷ 256 ∷ 320 ∷ 373 ∷ [])) ≡ patch 943 (1 ∷ 3 ∷ [])
unfolding best_key key is_triangulation every_from total_weight preorder_from count_between count_outside
best_P = refl

best_N : best (job (320 ∷ 456 ∷ 1040 ∷ 516 ∷ [])) ≡ patch 1286 (1 ∷ 3 ∷ [])
unfolding best_key key is_triangulation every_from total_weight preorder_from count_between count_outside
best_N = refl

tilings_P : with_totals (job (320 ∷ 256 ∷ 320 ∷ 373 ∷ [])) ≡ (1000 ∷ 0 ∷ 2 ∷ []) ∷ (943 ∷ 1 ∷ 3 ∷ []) ∷ []
unfolding is_triangulation every_from total_weight count_between count_outside
tilings_P = refl

-- what does not depend on the normals: candidates, 12 and rows
module _ (normals : List Normal) where
  candidates_are : candidates_of (rim_with normals) ≡ triples_p
  unfolding up_from every_from some_from orient_of centre_of distance_of is_face counts is_face_of_four is_flat is_candidate
  candidates_are = refl

  no_12 : degenerate (rim_with normals) ≡ false
  unfolding up_from every_from some_from orient_of centre_of distance_of counts cospherical is_flat degenerate
  no_12 = refl

  rows_of_lem : rows_of (rim_with normals) triples_p ≡ rows_p
  unfolding up_from hangs length_of root_digits ratio_of bend_of
  rows_of_lem = refl

  enough : tables_short (rim_with normals) lent_p ≡ false
  unfolding tables_short
  enough =
      ap (λ (c : List (List ℕ)). either (short 3 2)
      (either (short 5 (length c)) (either (short 5 (length c)) (either (short 5 (length c)) (short 3 (length (rows_of (rim_with normals) c)))))))
      candidates_are
      ∙ ap (λ (r : List (List ℕ)). short 3 (length r)) rows_of_lem

-- the call's answer from an answer to the job and the three lists
abbrev answer_with : Answer → List (List ℕ) → List ℕ → List (List ℕ) → Patching
answer_with a c w r =
    let s = settled a (length c) lent_p.triangles lent_p.work in
    patching s.outcome (tables s.triangles (filled c lent_p.candidates) (filled w lent_p.weights) (filled r lent_p.rows) s.work)

-- the rim with these normals, which give these weights
module _ (normals : List Normal) {w : List ℕ} (weighs : weights_of (rim_with normals) triples_p ≡ w) where
  weights_are : weights_of (rim_with normals) (candidates_of (rim_with normals)) ≡ w
  weights_are = ap (weights_of (rim_with normals)) (candidates_are normals) ∙ weighs

  rows_are : rows_of (rim_with normals) (candidates_of (rim_with normals)) ≡ rows_p
  rows_are = ap (rows_of (rim_with normals)) (candidates_are normals) ∙ rows_of_lem normals

  job_is : problem_in (rim_with normals) ≡ job w
  job_is i = problem_from 4 (candidates_are normals i) (weights_are i) (rows_are i)

  -- a file that gives it, and the best tiling
  module _ (file : List ℕ) {a : Answer} (number : reader.number_due max_vertices file ≡ 0) (reads : polygon_of file ≡ rim_with normals)
      (code : code_of (rim_with normals) ≡ 0) (is-best : best (job w) ≡ a) where
    none_due : file_number max_vertices file lent_p ≡ 0
    unfolding number_due
    none_due =
        ap (λ (k : ℕ). first_due k (polygon_number (polygon_of file) lent_p)) number
        ∙ ap (λ (p : Polygon). polygon_number p lent_p) reads
        ∙ yes _ _ (ap (λ (k : ℕ). eqb k 0) code) ∙ no _ _ (no_12 normals) ∙ no _ _ (enough normals)

    call_is : patch_file max_vertices file lent_p ≡ answer_with a triples_p w rows_p
    unfolding patch_file
    call_is =
        ap (λ (k : ℕ). patch_by k (polygon_of file) lent_p) none_due
        ∙ ap (λ (p : Polygon). patched p lent_p) reads
        ∙ (λ i. answer_with ((ap best job_is ∙ is-best) i) (candidates_are normals i) (weights_are i) (rows_are i))

pub file_P : patch_file max_vertices file_p lent_p ≡ answer_with (patch 943 (1 ∷ 3 ∷ [])) triples_p (320 ∷ 256 ∷ 320 ∷ 373 ∷ []) rows_p
file_P = call_is none weights_P file_p number_P polygon_P code_P best_P

pub file_N : patch_file max_vertices file_n lent_p ≡ answer_with (patch 1286 (1 ∷ 3 ∷ [])) triples_p (320 ∷ 456 ∷ 1040 ∷ 516 ∷ []) rows_p
file_N = call_is slopes weights_N file_n number_N polygon_N code_N best_N

-- ---- flat rims
abbrev rims : List Case
rims = take 6 (drop 3 worked)

rims_hold : map (λ c. c.computed) rims ≡ map (λ c. c.expected) rims
unfolding patch_polygon tables_short number_due code_of repeated_vertex vertices_code_from up_from every_from some_from orient_of circumcentre_of
    distance_in_plane counts_in_plane is_counted_three is_flat is_candidate cocircular degenerate hangs length_of root_digits ratio_of
    bend_of sum_below best_key key is_triangulation total_weight preorder_from count_between count_outside
rims_hold = refl

-- ---- the list
others_hold : map (λ c. c.computed) (drop 9 worked) ≡ map (λ c. c.expected) (drop 9 worked)
unfolding grid_number_of of_bits finite numerator denominator negative in_range round_eighths priced patched_at judged judge_code list_code
    list_total is_tiling named job_code lists_code every_from candidate_fits ascends before row_fits names_pair hangs row_before best_key
    key is_triangulation total_weight preorder_from count_between count_outside root_digits length_of ratio_of bend_of
others_hold = refl

pub worked_hold : map (λ c. c.computed) worked ≡ map (λ c. c.expected) worked
worked_hold =
    λ i. of_file (file_P i)
    ∷ of_tilings ((ap (λ (p : Polygon). with_totals (problem_in p)) polygon_P ∙ ap with_totals (job_is none weights_P) ∙ tilings_P) i)
    ∷ of_file (file_N i) ∷ (rims_hold i ++ others_hold i)
