-- Calls computed over the definitions, and answers of wrong programs, which no call that meets its contract gives. Assumes nothing.
use mathlib.Core.Path.{◌≡◌, refl, ap, ◌∙◌}
use mathlib.Core.List.{List, [], ◌∷◌}
use Prim.Native.Nat.{ℕ}
use native.Mathlib.Omega.{arith}
use lib.IntN.{pos}
use lib.ListN.{get_or, replicate}
use Rattle.codes.specs.Refusals.{refusal}
use Rattle.grid.specs.Point.{point}
use Rattle.polygon.specs.declared.Polygon.{Polygon}
use Rattle.polygon.specs.Polygon.{code_of, repeated_vertex, vertices_code_from}
use Rattle.integers.specs.Rounding.{root_digits}
use Rattle.geometry.specs.Faces.{length_of, ratio_of, bend_of}
use Rattle.geometry.specs.Spheres.{orient_of, centre_of, distance_of}
use Rattle.lists.specs.Lists.{up_from, every_from, some_from}
use Rattle.lists.specs.Sums.{sum_below}
use Rattle.terms.specs.Limits.{max_vertices}
use Rattle.terms.specs.Entries.{triple, hangs}
use Rattle.faces.specs.Faces.{is_face}
use Rattle.delaunay_tetrahedra.specs.Tetrahedra.{counts, is_face_of_four, cospherical}
use Rattle.delaunay.specs.Candidates.{is_flat, is_candidate, degenerate}
use Rattle.std.specs.Prelude.{Ok, Err, Some}
use Rattle.finder.specs.Finding.{counts as found_counts, Finding, candidate_count_of, row_count_of, finding, number_due, find_call}
use Rattle.triangulator.specs.Call.{total_of, Outcome, patch_with}
use Rattle.pipeline.specs.Patching.{Tables, Patching, patching, patch_file}
use Rattle.demands.specs.Worked.{file_p, file_n, lent_p}
use Rattle.demands.proofs.Worked.{file_P, file_N}

-- the rim of rule 6.1 with a bend factor
abbrev rim : ℕ → Polygon
rim factor = record {
  n = 4;
  area_factor = 1;
  bend_factor = factor;
  vertices = point (pos 0) (pos 0) (pos 0) ∷ point (pos 8) (pos 0) (pos 0) ∷ point (pos 8) (pos 8) (pos 6) ∷ point (pos 0) (pos 8) (pos 0) ∷ [];
  normals = [];
}

-- tables with 9 in each place
abbrev nines : ℕ → List (List ℕ)
nines k = replicate k (triple 9 9 9)

abbrev found : List (List ℕ)
found = triple 0 1 2 ∷ triple 0 1 3 ∷ triple 0 2 3 ∷ triple 1 2 3 ∷ triple 9 9 9 ∷ []

-- ---- the finder's call
-- where the bend factor is 0, every row has the weight 0 and is there
pub rows_of_weight_0 :
    find_call (rim 0) (nines 5) (replicate 5 9) (nines 3)
    ≡ finding (Ok (found_counts 4 2)) found (320 ∷ 256 ∷ 320 ∷ 373 ∷ 9 ∷ []) (triple 1 3 0 ∷ triple 2 0 0 ∷ triple 9 9 9 ∷ [])
unfolding number_due code_of repeated_vertex vertices_code_from up_from every_from some_from is_face counts is_face_of_four is_flat is_candidate
    cospherical degenerate orient_of centre_of distance_of hangs length_of root_digits ratio_of bend_of sum_below
rows_of_weight_0 = refl

-- a row table one place short: 13, and nothing is changed
pub short_rows : find_call (rim 1) (nines 5) (replicate 5 9) (nines 1) ≡ finding (Err (refusal 13)) (nines 5) (replicate 5 9) (nines 1)
unfolding number_due code_of repeated_vertex vertices_code_from up_from every_from some_from is_face counts is_face_of_four
    is_flat is_candidate cospherical degenerate orient_of centre_of distance_of hangs
short_rows = refl

-- five corners of a cube: 12
abbrev cube_corners : Polygon
cube_corners = record {
  n = 5;
  area_factor = 1;
  bend_factor = 1;
  vertices = point (pos 0) (pos 0) (pos 0) ∷ point (pos 8) (pos 0) (pos 0) ∷ point (pos 8) (pos 8) (pos 0)
      ∷ point (pos 0) (pos 8) (pos 0) ∷ point (pos 0) (pos 0) (pos 8) ∷ [];
  normals = [];
}

pub twelve_cube : find_call cube_corners [] [] [] ≡ finding (Err (refusal 12)) [] [] []
unfolding number_due code_of repeated_vertex vertices_code_from up_from every_from some_from is_face counts is_face_of_four
    is_flat is_candidate cospherical degenerate orient_of centre_of distance_of hangs
twelve_cube = refl

-- ---- wrong programs
-- a finder that finds no candidate, whatever it leaves
pub empty_list_wrong : {c r : List (List ℕ)} {w : List ℕ} → finding (Ok (found_counts 0 0)) c w r ≡ find_call (rim 0) (nines 5) (replicate 5 9) (nines 3) → ⊥
empty_list_wrong e = let n = ap (λ (f : Finding). candidate_count_of f.answer) (e ∙ rows_of_weight_0) in omega (arith, n)

-- one that drops the rows of weight 0
pub row_0_dropped_wrong : {c r : List (List ℕ)} {w : List ℕ} → finding (Ok (found_counts 4 0)) c w r ≡ find_call (rim 0) (nines 5) (replicate 5 9) (nines 3) → ⊥
row_0_dropped_wrong e = let n = ap (λ (f : Finding). row_count_of f.answer) (e ∙ rows_of_weight_0) in omega (arith, n)

-- the one call that does nothing, whatever it answers
pub idle_wrong : {o : Outcome} → patching o lent_p ≡ patch_file max_vertices file_p lent_p → ⊥
idle_wrong e = let n = ap (λ (x : Patching). get_or x.left.work 0 0) (e ∙ file_P) in omega (arith, n)

-- the one call that hands the tiler no rows, or has whole roots for lengths in the rows, by which they all weigh 0: the total of the areas alone
pub rows_left_out_wrong : {t : Tables} → patching (Ok (Some (patch_with 2 629))) t ≡ patch_file max_vertices file_p lent_p → ⊥
rows_left_out_wrong e = let n = ap (λ (x : Patching). total_of x.outcome) (e ∙ file_P) in omega (arith, n)

-- ---- programs with another length or ratio than rules 2.7 and 2.10 say, by their totals for P and for the same rim with normals
-- four times the whole root: 4 · 93 for the last candidate
pub whole_root_wrong : {t : Tables} → patching (Ok (Some (patch_with 2 940))) t ≡ patch_file max_vertices file_p lent_p → ⊥
whole_root_wrong e = let n = ap (λ (x : Patching). total_of x.outcome) (e ∙ file_P) in omega (arith, n)

-- 1,000 left in the ratio, and 4,000
pub ratio_1000_wrong : {t : Tables} → patching (Ok (Some (patch_with 2 1587))) t ≡ patch_file max_vertices file_p lent_p → ⊥
ratio_1000_wrong e = let n = ap (λ (x : Patching). total_of x.outcome) (e ∙ file_P) in omega (arith, n)

pub ratio_4000_wrong : {t : Tables} → patching (Ok (Some (patch_with 2 1458))) t ≡ patch_file max_vertices file_p lent_p → ⊥
ratio_4000_wrong e = let n = ap (λ (x : Patching). total_of x.outcome) (e ∙ file_P) in omega (arith, n)

-- the rows left at whole roots, with 1,000 in their ratio
pub old_rows_wrong : {t : Tables} → patching (Ok (Some (patch_with 2 941))) t ≡ patch_file max_vertices file_p lent_p → ⊥
old_rows_wrong e = let n = ap (λ (x : Patching). total_of x.outcome) (e ∙ file_P) in omega (arith, n)

-- the bends against the surface outside left at whole roots, with 1,000 in their ratio
pub old_bends_outside_wrong : {t : Tables} → patching (Ok (Some (patch_with 2 1283))) t ≡ patch_file max_vertices file_n lent_p → ⊥
old_bends_outside_wrong e = let n = ap (λ (x : Patching). total_of x.outcome) (e ∙ file_N) in omega (arith, n)

-- the normals outside alone left at whole roots: all their bends come out as 0
pub old_length_outside_wrong : {t : Tables} → patching (Ok (Some (patch_with 2 943))) t ≡ patch_file max_vertices file_n lent_p → ⊥
old_length_outside_wrong e = let n = ap (λ (x : Patching). total_of x.outcome) (e ∙ file_N) in omega (arith, n)
