-- The worked cases of rules 6.1 to 6.10 in one list: what the definitions give, and what it should be. Definitions only.
use Rattle.std.specs.Prelude.{List, [], ◌∷◌, map, ℕ, ℤ, pos, negsuc, length, replicate, Some, None, Ok, Err}
use Rattle.std.specs.Float.{binary32}
use Rattle.std.specs.Float.Ieee.{of_bits}
use Rattle.codes.specs.Refusals.{refusal}
use Rattle.terms.specs.Limits.{max_vertices}
use Rattle.terms.specs.Entries.{triple}
use Rattle.grid.specs.declared.GridPoint.{GridPoint}
use Rattle.grid.specs.Point.{point}
use Rattle.grid.specs.Number.{GridNumber, grid_number_of}
use Rattle.geometry.specs.declared.Vector.{Vector}
use Rattle.geometry.specs.Faces.{bend_of, bend_between}
use Rattle.polygon.specs.declared.Polygon.{Polygon}
use Rattle.polygon.specs.declared.normal.Normal.{Normal}
use Rattle.polygon.specs.Normal.{normal}
use Rattle.reader.specs.Reading.{polygon_of}
use Rattle.triangulation.specs.Triangulations.{Problem, triangulations, total_weight}
use Rattle.triangulator.specs.Call.{Result, result_of, patch_with}
use Rattle.jobs.specs.Job.{Job, job_of}
use Rattle.jobs.specs.Cases.{single, job_p, edited_p, ties}
use Rattle.pricing.specs.Quote as price
use Rattle.pricing.specs.Cases.{priced_on, patched_on, cleared, two_triangles, not_least_result}
use Rattle.judge.specs.Call as judge
use Rattle.judge.specs.Cases.{judged_on, accepted, refused}
use Rattle.pipeline.specs.Patching.{Tables, tables, Patching, patching, problem_in, patch_polygon, patch_file}

-- what a case computes: what the one call on a file or a polygon, the two calls on a direct job and the judge answer and leave; tilings; a bend; a grid number
pub data Value : Type 0 where
  of_file : Patching → Value
  of_rim : Patching → Value
  of_price : price.Result → Value
  of_patch : Result → Value
  of_judge : judge.Result → Value
  of_tilings : List (List ℕ) → Value
  of_bend : ℕ → Value
  of_float : GridNumber → Value

pub record Case : Type 0 where
  pub computed : Value
  pub expected : Value

abbrev pub case : Value → Value → Case
case computed expected = record { computed = computed; expected = expected }

-- the bytes of rim file P (rule 6.1)
abbrev pub file_p : List ℕ
file_p =
    1 ∷ 0 ∷ 4 ∷ 0 ∷ 1 ∷ 0 ∷ 1 ∷ 0
    ∷ 2 ∷ 0 ∷ 1 ∷ 0 ∷ 0 ∷ 0 ∷ 0 ∷ 0 ∷ 0 ∷ 0 ∷ 0 ∷ 0 ∷ 0 ∷ 0 ∷ 0 ∷ 0
    ∷ 3 ∷ 0 ∷ 1 ∷ 0 ∷ 0 ∷ 0 ∷ 128 ∷ 63 ∷ 0 ∷ 0 ∷ 0 ∷ 0 ∷ 0 ∷ 0 ∷ 0 ∷ 0
    ∷ 4 ∷ 0 ∷ 1 ∷ 0 ∷ 0 ∷ 0 ∷ 128 ∷ 63 ∷ 0 ∷ 0 ∷ 128 ∷ 63 ∷ 0 ∷ 0 ∷ 64 ∷ 63
    ∷ 0 ∷ 0 ∷ 1 ∷ 0 ∷ 0 ∷ 0 ∷ 0 ∷ 0 ∷ 0 ∷ 0 ∷ 128 ∷ 63 ∷ 0 ∷ 0 ∷ 0 ∷ 0 ∷ []

-- the bytes of the same rim in edition 2, with the normal (0, -600, 800) outside the edge from vertex 2 to 3 and the one from 3 to 0 (rule 6.6)
abbrev pub file_n : List ℕ
file_n =
    255 ∷ 255 ∷ 1 ∷ 0 ∷ 4 ∷ 0 ∷ 1 ∷ 0 ∷ 1 ∷ 0
    ∷ 2 ∷ 0 ∷ 1 ∷ 0 ∷ 0 ∷ 0 ∷ 0 ∷ 0 ∷ 0 ∷ 0 ∷ 0 ∷ 0 ∷ 0 ∷ 0 ∷ 0 ∷ 0 ∷ 0 ∷ 0 ∷ 0 ∷ 0 ∷ 0 ∷ 0
    ∷ 3 ∷ 0 ∷ 1 ∷ 0 ∷ 0 ∷ 0 ∷ 128 ∷ 63 ∷ 0 ∷ 0 ∷ 0 ∷ 0 ∷ 0 ∷ 0 ∷ 0 ∷ 0 ∷ 0 ∷ 0 ∷ 0 ∷ 0 ∷ 0 ∷ 0
    ∷ 4 ∷ 0 ∷ 1 ∷ 0 ∷ 0 ∷ 0 ∷ 128 ∷ 63 ∷ 0 ∷ 0 ∷ 128 ∷ 63 ∷ 0 ∷ 0 ∷ 64 ∷ 63 ∷ 0 ∷ 0 ∷ 168 ∷ 253 ∷ 32 ∷ 3
    ∷ 0 ∷ 0 ∷ 1 ∷ 0 ∷ 0 ∷ 0 ∷ 0 ∷ 0 ∷ 0 ∷ 0 ∷ 128 ∷ 63 ∷ 0 ∷ 0 ∷ 0 ∷ 0 ∷ 0 ∷ 0 ∷ 168 ∷ 253 ∷ 32 ∷ 3 ∷ []

-- tables with one place more than P needs, 9 in each
abbrev pub lent_p : Tables
lent_p = tables (replicate 3 9) (replicate 5 (triple 9 9 9)) (replicate 5 9) (replicate 3 (triple 9 9 9)) (replicate 5 9)

-- all tilings of a job, each after its total
abbrev pub with_totals : Problem → List (List ℕ)
with_totals job = map (λ s. total_weight job s ∷ s) (triangulations job)

abbrev pub upward : Vector
upward = record { x = pos 0; y = pos 0; z = pos 64 }

abbrev pub downward : Vector
downward = record { x = pos 0; y = pos 0; z = negsuc 63 }

abbrev pub sideward : Vector
sideward = record { x = pos 48; y = pos 0; z = pos 0 }

abbrev pub slanting : Vector
slanting = record { x = pos 0; y = pos 1; z = pos 1 }

-- a rim by its points in steps of the grid, with both factors 1 and these normals (rule 6.8)
abbrev pub rim_of : List GridPoint → List Normal → Polygon
rim_of points normals = record { n = length points; area_factor = 1; bend_factor = 1; vertices = points; normals = normals }

abbrev pub triangle : List GridPoint
triangle = point (negsuc 111) (negsuc 71) (pos 16) ∷ point (pos 136) (negsuc 87) (pos 44) ∷ point (pos 24) (pos 128) (pos 72) ∷ []

abbrev pub dent : List GridPoint
dent =
    point (negsuc 159) (negsuc 159) (pos 0) ∷ point (pos 160) (negsuc 159) (pos 0) ∷ point (pos 160) (pos 160) (pos 0) ∷ point (negsuc 159) (pos 160) (pos 0)
    ∷ point (negsuc 87) (pos 24) (pos 0) ∷ []

abbrev pub tilted : List GridPoint
tilted =
    point (negsuc 71) (negsuc 95) (pos 168) ∷ point (pos 48) (negsuc 23) (negsuc 23) ∷ point (pos 168) (negsuc 71) (negsuc 95)
    ∷ point (negsuc 23) (pos 48) (negsuc 23) ∷ point (negsuc 95) (pos 168) (negsuc 71) ∷ point (negsuc 23) (negsuc 23) (pos 48) ∷ []

abbrev pub square : List GridPoint
square = point (pos 0) (pos 0) (pos 0) ∷ point (pos 8) (pos 0) (pos 0) ∷ point (pos 8) (pos 8) (pos 0) ∷ point (pos 0) (pos 8) (pos 0) ∷ []

abbrev pub line : List GridPoint
line = point (negsuc 95) (negsuc 47) (pos 24) ∷ point (negsuc 31) (negsuc 15) (pos 8) ∷ point (pos 0) (pos 0) (pos 0) ∷ point (pos 64) (pos 32) (negsuc 15) ∷ []

-- tables with so many places for triangles, candidates and rows, 9 in each
abbrev pub lent : ℕ → ℕ → ℕ → Tables
lent t c r = tables (replicate t 9) (replicate c (triple 9 9 9)) (replicate c 9) (replicate r (triple 9 9 9)) (replicate c 9)

-- the float of these bits has this grid number
abbrev pub rounds : ℕ → ℤ → Case
rounds bits number = case (of_float (grid_number_of (of_bits binary32 bits))) (of_float (Ok number))

-- the judge's answer to a list and a total
abbrev pub judges : Job → List ℕ → ℕ → judge.Result → Case
judges job list stated expected = case (of_judge (judged_on job list stated)) (of_judge expected)

-- the price of a job, and its patch at an agreed total
abbrev pub prices : Job → price.Result → Case
prices job expected = case (of_price (priced_on job)) (of_price expected)

abbrev pub patches : Job → ℕ → Result → Case
patches job agreed expected = case (of_patch (patched_on job agreed)) (of_patch expected)

abbrev pub worked : List Case
worked =
    -- rule 6.1: P from its bytes through the one call; and its tilings, which are two
    case (of_file (patch_file max_vertices file_p lent_p))
    (of_file (patching (Ok (Some (patch_with 2 943))) (tables (1 ∷ 3 ∷ 9 ∷ [])
    (triple 0 1 2 ∷ triple 0 1 3 ∷ triple 0 2 3 ∷ triple 1 2 3 ∷ triple 9 9 9 ∷ [])
    (320 ∷ 256 ∷ 320 ∷ 373 ∷ 9 ∷ [])
    (triple 1 3 314 ∷ triple 2 0 360 ∷ triple 9 9 9 ∷ [])
    (0 ∷ 0 ∷ 0 ∷ 0 ∷ 9 ∷ []))))
    ∷ case (of_tilings (with_totals (problem_in (polygon_of file_p)))) (of_tilings ((1000 ∷ 0 ∷ 2 ∷ []) ∷ (943 ∷ 1 ∷ 3 ∷ []) ∷ []))
    -- rule 6.6: with normals outside two edges of a candidate
    ∷ case (of_file (patch_file max_vertices file_n lent_p))
    (of_file (patching (Ok (Some (patch_with 2 1286))) (tables (1 ∷ 3 ∷ 9 ∷ [])
    (triple 0 1 2 ∷ triple 0 1 3 ∷ triple 0 2 3 ∷ triple 1 2 3 ∷ triple 9 9 9 ∷ [])
    (320 ∷ 456 ∷ 1040 ∷ 516 ∷ 9 ∷ [])
    (triple 1 3 314 ∷ triple 2 0 360 ∷ triple 9 9 9 ∷ [])
    (0 ∷ 0 ∷ 0 ∷ 0 ∷ 9 ∷ []))))
    -- rule 6.8: a triangle, with a surface outside each edge too; a square with a dent; a rim in a tilted plane; a square; points on one line
    ∷ case (of_rim (patch_polygon (rim_of triangle []) (lent 2 1 0)))
    (of_rim (patching (Ok (Some (patch_with 1 212586))) (tables (0 ∷ 9 ∷ []) (triple 0 1 2 ∷ []) (212586 ∷ []) [] (0 ∷ []))))
    ∷ case (of_rim (patch_polygon (rim_of triangle (replicate 3 (normal (pos 0) (pos 0) (pos 9)))) (lent 1 1 0)))
    (of_rim (patching (Ok (Some (patch_with 1 212664))) (tables (0 ∷ []) (triple 0 1 2 ∷ []) (212664 ∷ []) [] (0 ∷ []))))
    ∷ case (of_rim (patch_polygon (rim_of dent []) (lent 3 4 2)))
    (of_rim (patching (Ok (Some (patch_with 3 727040))) (tables (0 ∷ 2 ∷ 3 ∷ [])
    (triple 0 1 4 ∷ triple 0 3 4 ∷ triple 1 2 4 ∷ triple 2 3 4 ∷ [])
    (235520 ∷ 92160 ∷ 317440 ∷ 174080 ∷ [])
    (triple 0 2 0 ∷ triple 2 3 0 ∷ [])
    (replicate 4 0))))
    ∷ case (of_rim (patch_polygon (rim_of tilted []) (lent 4 7 3)))
    (of_rim (patching (Ok (Some (patch_with 4 143660))) (tables (1 ∷ 4 ∷ 3 ∷ 6 ∷ [])
    (triple 0 1 2 ∷ triple 0 1 5 ∷ triple 0 4 5 ∷ triple 1 2 3 ∷ triple 1 3 5 ∷ triple 2 3 4 ∷ triple 3 4 5 ∷ [])
    (99766 ∷ 35915 ∷ 99766 ∷ 35915 ∷ 35915 ∷ 99766 ∷ 35915 ∷ [])
    (triple 1 4 0 ∷ triple 4 3 0 ∷ triple 4 6 0 ∷ [])
    (replicate 7 0))))
    ∷ case (of_rim (patch_polygon (rim_of square []) (lent 2 4 2))) (of_rim (patching (Err (refusal 12)) (lent 2 4 2)))
    ∷ case (of_rim (patch_polygon (rim_of line []) (lent 2 0 0))) (of_rim (patching (Ok None) (lent 2 0 0)))
    -- rule 6.2: a candidate of weight 5; no candidate
    ∷ prices single (price.result_of (Ok (Some (patch_with 1 5))) (0 ∷ 9 ∷ []))
    ∷ patches single 5 (result_of (Ok (Some (patch_with 1 5))) (0 ∷ 9 ∷ []) (0 ∷ 9 ∷ []))
    ∷ prices (job_of 3 [] [] []) (price.result_of (Ok None) (9 ∷ []))
    ∷ patches (job_of 3 [] [] []) 0 (result_of (Ok None) (9 ∷ 9 ∷ []) (9 ∷ []))
    -- rule 6.3: four candidates of weight 1 without rows, with a row, with the row of a pair that does not hang
    ∷ prices (ties []) (price.result_of (Ok (Some (patch_with 2 2))) cleared)
    ∷ patches (ties []) 2 (two_triangles 2 1 3)
    ∷ prices (ties (triple 1 3 1 ∷ [])) (price.result_of (Ok (Some (patch_with 2 2))) cleared)
    ∷ patches (ties (triple 1 3 1 ∷ [])) 2 (two_triangles 2 2 0)
    ∷ prices (ties (triple 1 0 1 ∷ [])) (price.result_of (Err (refusal 16)) (9 ∷ 9 ∷ 9 ∷ 9 ∷ 9 ∷ []))
    ∷ patches (ties (triple 1 0 1 ∷ [])) 2 (result_of (Err (refusal 16)) (9 ∷ 9 ∷ 9 ∷ []) (9 ∷ 9 ∷ 9 ∷ 9 ∷ 9 ∷ []))
    -- rule 6.4: two candidates that leave a hole
    ∷ prices (job_of 5 (triple 0 1 2 ∷ triple 0 2 4 ∷ []) (1 ∷ 1 ∷ []) []) (price.result_of (Ok None) (0 ∷ 0 ∷ 9 ∷ []))
    ∷ patches (job_of 5 (triple 0 1 2 ∷ triple 0 2 4 ∷ []) (1 ∷ 1 ∷ []) []) 2 (result_of (Ok None) (9 ∷ 9 ∷ 9 ∷ 9 ∷ []) (0 ∷ 0 ∷ 9 ∷ []))
    -- rule 6.10: the lists of P priced, patched at the price, and at other totals; after edits of weights that leave the least total, and that do not
    ∷ prices job_p (price.result_of (Ok (Some (patch_with 2 943))) cleared)
    ∷ patches job_p 943 (two_triangles 943 1 3)
    ∷ patches job_p 942 not_least_result
    ∷ patches job_p 944 not_least_result
    ∷ patches job_p 1000 not_least_result
    ∷ patches job_p 0 not_least_result
    ∷ patches (edited_p 400 256) 943 (two_triangles 943 1 3)
    ∷ patches (edited_p 263 257) 943 (two_triangles 943 2 0)
    ∷ patches (edited_p 262 256) 943 not_least_result
    ∷ patches (edited_p 320 257) 943 not_least_result
    -- rule 6.9: the lists of P judged, both tilings in any order, with another total, and what is no tiling; other jobs
    ∷ judges job_p (1 ∷ 3 ∷ []) 943 (accepted 0)
    ∷ judges job_p (3 ∷ 1 ∷ []) 943 (accepted 0)
    ∷ judges job_p (0 ∷ 2 ∷ []) 1000 (accepted 57)
    ∷ judges job_p (0 ∷ 2 ∷ []) 943 (refused 22)
    ∷ judges job_p (1 ∷ 3 ∷ 3 ∷ []) 943 (refused 21)
    ∷ judges job_p (1 ∷ 1 ∷ []) 943 (refused 21)
    ∷ judges job_p (1 ∷ []) 943 (refused 21)
    ∷ judges job_p (1 ∷ 4 ∷ []) 943 (refused 21)
    ∷ judges (ties (triple 1 0 1 ∷ [])) (1 ∷ 1 ∷ []) 0 (refused 16)
    ∷ judges single (0 ∷ []) 5 (judge.result_of (Ok 0) (0 ∷ 9 ∷ []))
    ∷ judges (job_of 3 [] [] []) [] 0 (judge.result_of (Err (refusal 21)) (9 ∷ []))
    -- rule 6.5: equal, perpendicular and opposite normals; a short one, whose length 5 is no four times a whole root; a dot product of -1
    ∷ case (of_bend (bend_between upward upward)) (of_bend 0)
    ∷ case (of_bend (bend_between upward sideward)) (of_bend 1000)
    ∷ case (of_bend (bend_between upward downward)) (of_bend 2000)
    ∷ case (of_bend (bend_between upward slanting)) (of_bend 200)
    ∷ case (of_bend (bend_of (negsuc 0) 400 400)) (of_bend 1001)
    -- rule 6.7: 0.0625, 0.1875, -0.0625, -0.1875, 124.9375 and -124.9375 mm
    ∷ rounds 0x3d80_0000 (pos 0)
    ∷ rounds 0x3e40_0000 (pos 2)
    ∷ rounds 0xbd80_0000 (pos 0)
    ∷ rounds 0xbe40_0000 (negsuc 1)
    ∷ rounds 0x42f9_e000 (pos 1000)
    ∷ rounds 0xc2f9_e000 (negsuc 999)
    -- and the floats next to 0.0625 mm: half a step added first would round the lower one up
    ∷ rounds 0x3d7f_ffff (pos 0)
    ∷ rounds 0x3d80_0001 (pos 1)
    ∷ []
