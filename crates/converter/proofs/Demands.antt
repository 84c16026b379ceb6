-- What a conversion hands over (rules 1.15, 1.16): a file of the other edition with the same rim, all its records at their places, which the reader answers
-- alike; and converted again it is the first file, byte for byte. Assumes nothing.
use mathlib.Core.Path.{◌≡◌, sym, ap, subst, ◌∙◌}
use mathlib.Core.Bool.{not, false}
use mathlib.Core.List.{List}
use Prim.Native.Nat.{ℕ, ◌≤◌}
use native.Mathlib.Omega.{arith}
use borrow.Author.Tests.{le-ltb}
use lib.Dec.{ltb}
use lib.ListN.{length}
use Rattle.codes.specs.Refusals.{number_of}
use Rattle.lists.proofs.Writing.{filled_first}
use Rattle.terms.specs.Numbers.{first_due}
use Rattle.terms.proofs.Numbers.{due_neither}
use Rattle.terms.specs.Limits.{max_vertices}
use Rattle.rim_file.specs.File.{Bytes, is_edition2}
use Rattle.rim_file.specs.Editions.{SameRim}
use Rattle.reader.specs.Reading.{reading_of}
use Rattle.reader.specs.Reading as reader
use Rattle.reader.proofs.Editions.{number_same, reading_same}
use Rattle.reader.proofs.FirstNumber.{Read, no_number_read}
use Rattle.conversion.specs.Converted.{converted, normal_lost}
use Rattle.conversion.proofs.Rims.{none_lost, nothing_lost, converted_edition, converted_rim}
use Rattle.conversion.proofs.RoundTrip.{there_and_back}
use Rattle.converter.specs.Call.{conversion_code, conversion_number, number_due, convert_call, handed_over}
use Rattle.converter.proofs.Answers.{not_lost}
use Rattle.converter.proofs.Numbers.{call_by, number_given}

-- ---- a call that takes its file
module _ (file out : List ℕ) (taken : number_of (convert_call file out).answer ≡ 0) where
  due_none : (reader.number_due max_vertices file ≡ 0) × (conversion_number file out ≡ 0)
  due_none = due_neither (reader.number_due max_vertices file) _ (sym (number_given file out) ∙ taken)

  read : Read max_vertices file
  read = no_number_read max_vertices file due_none.0

  kept : normal_lost file ≡ false
  kept = not_lost (ltb (length out) (length (converted file))) (normal_lost file) due_none.1

  -- hands over the converted file
  pub handed_over_lem : handed_over (convert_call file out) ≡ converted file
  handed_over_lem =
      ap handed_over (call_by file out 0 (sym (number_given file out) ∙ taken)) ∙ filled_first (converted file) out

  -- of the other edition
  pub in_other_edition : is_edition2 (handed_over (convert_call file out)) ≡ not (is_edition2 file)
  in_other_edition = ap is_edition2 handed_over_lem ∙ converted_edition file read

  -- with the same header, the same records at their places, spare ones too, and the same normals
  pub same_rim : SameRim (handed_over (convert_call file out)) file
  same_rim = subst (λ (t : List ℕ). SameRim t file) (sym handed_over_lem) (converted_rim file read kept)

  -- so that the reader answers alike, with any limit
  pub same_reading : (limit : ℕ) → reading_of limit (handed_over (convert_call file out)) ≡ reading_of limit file
  same_reading limit = reading_same same_rim limit

  -- ---- and back
  module _ (bytes : Bytes file) (out' : List ℕ) (room : length file ≤ length out') where
    again : number_due (converted file) out' ≡ 0
    again =
        let rim = converted_rim file read kept in
        let short = le-ltb (length out') (length (converted (converted file))) (omega (arith, ap length (there_and_back file read bytes kept))) in
        let lost = nothing_lost (converted file) (λ k h l. rim.normals k h l ∙ none_lost file kept k h (omega (arith, rim.count))) in
        let number = number_same rim max_vertices ∙ due_none.0 in
        λ i. first_due (number i) (conversion_code (short i) (lost i))

    -- what was handed over is taken again, wherever there is room
    pub taken_back : number_of (convert_call (handed_over (convert_call file out)) out').answer ≡ 0
    taken_back = ap (λ (t : List ℕ). number_of (convert_call t out').answer) handed_over_lem ∙ number_given (converted file) out' ∙ again

  -- and is the first file, byte for byte
  pub back : Bytes file → (out' : List ℕ) → length file ≤ length out' → handed_over (convert_call (handed_over (convert_call file out)) out') ≡ file
  back bytes out' room =
      ap (λ (t : List ℕ). handed_over (convert_call t out')) handed_over_lem
      ∙ ap handed_over (call_by (converted file) out' 0 (again bytes out' room))
      ∙ filled_first (converted (converted file)) out'
      ∙ there_and_back file read bytes kept
