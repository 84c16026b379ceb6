-- Files worked out, with what the call does and what a wrong converter would do instead, by computation over the definitions. Assumes nothing.
use mathlib.Core.Path.{◌≡◌, refl, sym, ◌∙◌}
use mathlib.Core.Bool.{Bool, true, false, false≢true}
use mathlib.Core.List.{List, [], ◌∷◌, ◌++◌, map, Memᴰ}
use Prim.Native.Nat.{ℕ}
use borrow.Author.Tests.{eq-eqb}
use lib.Dec.{eqb}
use lib.Ieee.{of_bits}
use lib.ListN.{replicate}
use Rattle.std.specs.Prelude.{Ok, Err}
use Rattle.codes.specs.Refusals.{refusal, number_of}
use Rattle.lists.specs.Lists.{up_from, some_from, both}
use Rattle.lists.proofs.Comparing.{same_list, same_list_lem, any_of, any_of_lem}
use Rattle.grid.specs.Number.{finite, numerator, denominator, negative, in_range, round_eighths}
use Rattle.polygon.specs.Polygon.{repeated_vertex}
use Rattle.rim_file.specs.File.{layout_of, length_wrong}
use Rattle.rim_file.specs.declared.edition.Edition.{Edition}
use Rattle.rim_file.specs.declared.edition.Edition.TheVariants.{One, Two}
use Rattle.rim_file.specs.Record.{record_at, numbers_code, vertex_of, normal_in}
use Rattle.reader.specs.Chain.{link, met_before, height_before, link_code, position_code, code_from, end_from}
use Rattle.reader.specs.Reading as reader
use Rattle.reader.proofs.Cases.{point_then, zero_mm, one_mm, no_surface}
use Rattle.conversion.specs.Converted.{converted, normal_lost}
use Rattle.converter.specs.Call.{Conversion, edition_of, converted_length, Converting, converting, convert_call}

-- ---- two files of one rim: a chain of records 1, 2 and 3, and a spare record 4
abbrev header : List ℕ
header = 1 ∷ 0 ∷ 4 ∷ 0 ∷ 1 ∷ 0 ∷ 1 ∷ 0 ∷ []

-- the spare record: a link and a kind that there are not, a signalling NaN (its third byte is 128; 192 makes it quiet), minus zero, any bytes
abbrev spare : ℕ → List ℕ
spare third = (77 ∷ 0 ∷ 9 ∷ 0 ∷ []) ++ (1 ∷ 0 ∷ third ∷ 127 ∷ []) ++ (0 ∷ 0 ∷ 0 ∷ 128 ∷ []) ++ replicate 4 255

abbrev first : ℕ → List ℕ
first third = header ++ point_then 2 zero_mm zero_mm ++ point_then 3 one_mm zero_mm ++ point_then 0 zero_mm one_mm ++ spare third

-- the same in edition 2, after so many bytes of 255, with the normal of the spare record
abbrev second : ℕ → List ℕ → List ℕ
second marks normal =
    replicate marks 255 ++ header
    ++ point_then 2 zero_mm zero_mm ++ no_surface
    ++ point_then 3 one_mm zero_mm ++ no_surface
    ++ point_then 0 zero_mm one_mm ++ no_surface
    ++ spare 128 ++ normal

-- the normal (0, 0, 1)
abbrev up : List ℕ
up = 0 ∷ 0 ∷ 0 ∷ 0 ∷ 1 ∷ 0 ∷ []

-- tables of so many places, 9 in each
abbrev places : ℕ → List ℕ
places n = replicate n 9

-- ---- what the call does, and what a wrong program does
pub record Try : Type 0 where
  pub file : List ℕ
  pub out : List ℕ
  pub right : Converting
  pub wrong : Converting

abbrev try : List ℕ → List ℕ → Converting → Converting → Try
try file out right wrong = record { file = file; out = out; right = right; wrong = wrong }

abbrev made : Edition → ℕ → Conversion
made edition size = Ok (record { edition = edition; length = size })

abbrev pub tries : List Try
tries =
    -- spare records dropped
    try (second 2 no_surface) (places 73) (converting (made One 72) (first 128 ++ places 1))
    (converting (made One 56) (header ++ point_then 2 zero_mm zero_mm ++ point_then 3 one_mm zero_mm ++ point_then 0 zero_mm one_mm ++ places 17))
    -- a NaN of a spare record made quiet
    ∷ try (second 2 no_surface) (places 72) (converting (made One 72) (first 128)) (converting (made One 72) (first 192))
    -- 19 for the normals of the chain only
    ∷ try (second 2 up) (places 73) (converting (Err (refusal 19)) (places 73)) (converting (made One 72) (first 128 ++ places 1))
    -- 19 before 13
    ∷ try (second 2 up) (places 71) (converting (Err (refusal 13)) (places 71)) (converting (Err (refusal 19)) (places 71))
    -- the marker left out
    ∷ try (first 128) (places 99) (converting (made Two 98) (second 2 no_surface ++ places 1))
    (converting (made Two 96) (second 0 no_surface ++ places 3))
    ∷ []

pub right_calls : map (λ (t : Try). convert_call t.file t.out) tries ≡ map (λ (t : Try). t.right) tries
unfolding convert_call converted normal_lost of_bits up_from some_from finite numerator denominator negative in_range
    round_eighths repeated_vertex layout_of length_wrong record_at numbers_code vertex_of normal_in link met_before height_before
    link_code position_code code_from end_from reader.file_code reader.number_due
right_calls = refl

-- equal answers and tables are the same by their numbers
same_converting : Converting → Converting → Bool
same_converting c d =
    both (eqb (number_of c.answer) (number_of d.answer))
    (both (eqb (edition_of c.answer) (edition_of d.answer))
    (both (eqb (converted_length c.answer) (converted_length d.answer))
    (same_list c.left d.left)))

same_converting_lem : (c : Converting) → same_converting c c ≡ true
unfolding same_converting
same_converting_lem c =
    rw (eq-eqb (number_of c.answer) _ refl, eq-eqb (edition_of c.answer) _ refl, eq-eqb (converted_length c.answer) _ refl, same_list_lem c.left)

pub wrong_calls_fail : (t : Try) → Memᴰ t tries → t.wrong ≡ t.right → ⊥
unfolding any_of same_converting same_list
wrong_calls_fail t m e = false≢true (sym none_right ∙ any_of_lem is_right tries t m (rw e (same_converting_lem t.right)))
  where
    is_right : Try → Bool
    is_right u = same_converting u.wrong u.right

    none_right : any_of is_right tries ≡ false
    none_right = refl
