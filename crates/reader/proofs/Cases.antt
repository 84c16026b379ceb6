-- Files worked out: a normal out of range is refused in the chain, and not looked at in a spare record (rule 4.18); of two files of one length each has its
-- own edition (rule 1.12); a record past the limit is refused before it is looked at (rules 4.20, 4.31). Assumes nothing.
use mathlib.Core.Path.{◌≡◌, refl, sym, ◌∙◌}
use mathlib.Core.Bool.{Bool}
use mathlib.Core.List.{List, [], ◌∷◌, ◌++◌}
use Prim.Native.Nat.{ℕ}
use native.Mathlib.Omega.{arith}
use lib.Ieee.{of_bits}
use lib.ListN.{length, replicate}
use Rattle.lists.specs.Lists.{up_from, some_from}
use Rattle.grid.specs.Number.{finite, numerator, denominator, negative, in_range, round_eighths}
use Rattle.terms.specs.Limits.{max_vertices}
use Rattle.polygon.specs.Polygon.{repeated_vertex}
use Rattle.lists.proofs.Choice.{true_not_false}
use Rattle.rim_file.specs.File.{is_edition2, layout_of, length_wrong}
use Rattle.rim_file.specs.Record.{record_at, numbers_code, vertex_of, normal_in}
use Rattle.reader.specs.Chain.{link, met_before, height_before, link_code, position_code, code_from, end_from}
use Rattle.reader.specs.Reading.{file_code, number_due}

-- the point (x, y, 0) with x and y of 0 mm or 1 mm, by the two high bytes of each, and a link
abbrev pub point_then : ℕ → List ℕ → List ℕ → List ℕ
point_then next x y = (next ∷ 0 ∷ 1 ∷ 0 ∷ 0 ∷ 0 ∷ []) ++ x ++ (0 ∷ 0 ∷ []) ++ y ++ replicate 4 0

abbrev pub zero_mm : List ℕ
zero_mm = 0 ∷ 0 ∷ []

abbrev pub one_mm : List ℕ
one_mm = 128 ∷ 63 ∷ []

-- the normals (0, 0, 0) and (0, 0, 2000)
abbrev pub no_surface : List ℕ
no_surface = replicate 6 0

abbrev too_long : List ℕ
too_long = replicate 4 0 ++ (208 ∷ 7 ∷ [])

-- a chain of records 1, 2 and 3, with the normal that record 3 has and the one that the spare record 4 has
abbrev file : List ℕ → List ℕ → List ℕ
file last spare =
    (255 ∷ 255 ∷ 1 ∷ 0 ∷ 4 ∷ 0 ∷ 1 ∷ 0 ∷ 1 ∷ 0 ∷ [])
    ++ point_then 2 zero_mm zero_mm ++ no_surface
    ++ point_then 3 one_mm zero_mm ++ no_surface
    ++ point_then 0 zero_mm one_mm ++ last
    ++ point_then 0 one_mm one_mm ++ spare

pub spare_normal_taken : number_due max_vertices (file no_surface too_long) ≡ 0
unfolding of_bits up_from some_from finite numerator denominator negative in_range round_eighths repeated_vertex layout_of length_wrong record_at
    numbers_code vertex_of normal_in link met_before height_before link_code position_code code_from end_from file_code number_due
spare_normal_taken = refl

pub chain_normal_refused : number_due max_vertices (file too_long no_surface) ≡ 18
unfolding of_bits up_from some_from finite numerator denominator negative in_range round_eighths repeated_vertex layout_of length_wrong record_at
    numbers_code vertex_of normal_in link met_before height_before link_code position_code code_from end_from file_code number_due
chain_normal_refused = refl

-- ---- 120 bytes are seven records of edition 1, or five of edition 2
abbrev seven : List ℕ
seven = (1 ∷ 0 ∷ 7 ∷ 0 ∷ 1 ∷ 0 ∷ 1 ∷ 0 ∷ []) ++ point_then 2 zero_mm zero_mm ++ point_then 3 one_mm zero_mm ++ point_then 0 zero_mm one_mm ++ replicate 64 0

abbrev five : List ℕ
five =
    (255 ∷ 255 ∷ 1 ∷ 0 ∷ 5 ∷ 0 ∷ 1 ∷ 0 ∷ 1 ∷ 0 ∷ [])
    ++ point_then 2 zero_mm zero_mm ++ no_surface
    ++ point_then 3 one_mm zero_mm ++ no_surface
    ++ point_then 0 zero_mm one_mm ++ no_surface
    ++ replicate 44 0

pub seven_taken : number_due max_vertices seven ≡ 0
unfolding of_bits up_from some_from finite numerator denominator negative in_range round_eighths repeated_vertex layout_of length_wrong record_at
    numbers_code vertex_of normal_in link met_before height_before link_code position_code code_from end_from file_code number_due
seven_taken = refl

pub five_taken : number_due max_vertices five ≡ 0
unfolding of_bits up_from some_from finite numerator denominator negative in_range round_eighths repeated_vertex layout_of length_wrong record_at
    numbers_code vertex_of normal_in link met_before height_before link_code position_code code_from end_from file_code number_due
five_taken = refl

-- so no program tells the edition by the length
pub edition_by_length_wrong : (by_length : ℕ → Bool) → ((s : List ℕ) → by_length (length s) ≡ is_edition2 s) → ⊥
edition_by_length_wrong by_length h = true_not_false (h five) (h seven)

-- ---- a chain of four records, the last of a kind that may be unknown, under the limits 3, 4 and 64
abbrev four : ℕ → List ℕ
four kind =
    (1 ∷ 0 ∷ 4 ∷ 0 ∷ 1 ∷ 0 ∷ 1 ∷ 0 ∷ [])
    ++ point_then 2 zero_mm zero_mm ++ point_then 3 one_mm zero_mm ++ point_then 4 zero_mm one_mm
    ++ (0 ∷ 0 ∷ kind ∷ 0 ∷ 0 ∷ 0 ∷ []) ++ one_mm ++ (0 ∷ 0 ∷ []) ++ one_mm ++ replicate 4 0

pub fourth_record : (number_due 3 (four 1) ≡ 20) × (number_due 4 (four 1) ≡ 0) × (number_due max_vertices (four 1) ≡ 0) ×
    (number_due 3 (four 9) ≡ 20) × (number_due 4 (four 9) ≡ 6) × (number_due max_vertices (four 9) ≡ 6)
unfolding of_bits up_from some_from finite numerator denominator negative in_range round_eighths repeated_vertex layout_of length_wrong record_at
    numbers_code vertex_of normal_in link met_before height_before link_code position_code code_from end_from file_code number_due
fourth_record = (refl, refl, refl, refl, refl, refl)

-- so a reader that tests the limit after the kind, or gives 5 under a smaller limit, or has one limit for all, breaks its contract
module _ (reader : ℕ → List ℕ → ℕ) (h : (limit : ℕ) (s : List ℕ) → reader limit s ≡ number_due limit s) where
  pub limit_after_kind_wrong : reader 3 (four 9) ≡ 6 → ⊥
  limit_after_kind_wrong e = omega (arith, sym e ∙ h 3 (four 9) ∙ fourth_record.3)

  pub five_under_3_wrong : reader 3 (four 1) ≡ 5 → ⊥
  five_under_3_wrong e = omega (arith, sym e ∙ h 3 (four 1) ∙ fourth_record.0)

pub one_limit_wrong : (reader : List ℕ → ℕ) → ((limit : ℕ) (s : List ℕ) → reader s ≡ number_due limit s) → ⊥
one_limit_wrong reader h = omega (arith, sym (h 3 (four 1) ∙ fourth_record.0) ∙ h 4 (four 1) ∙ fourth_record.1)
