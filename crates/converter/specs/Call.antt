-- What a call of the converter answers, and what it leaves in every place of the output table. Definitions only.
use Rattle.std.specs.Prelude.{Bool, cond, List, ℕ, zero, suc, Result, Ok, Err, ltb, length}
use Rattle.codes.specs.Refusals.{refusal, number_of}
use Rattle.codes.specs.declared.Refusal.{Refusal}
use Rattle.lists.specs.Lists.{filled, first_places}
use Rattle.terms.specs.Limits.{max_vertices}
use Rattle.terms.specs.Numbers.{first_due}
use Rattle.reader.specs.Reading as reader
use Rattle.rim_file.specs.File.{edition_number}
use Rattle.conversion.specs.Converted.{converted, other_edition, target_edition, normal_lost}
use Rattle.converter.specs.declared.Converted.{Converted}

-- what the converter answers (rules 4.30, 5.7): what a file was converted to, or a refusal
abbrev pub Conversion : Type 0
Conversion = Result Converted Refusal

-- the edition of the converted file and its length, in each case of an answer (rule 5.2)
abbrev pub edition_of : Conversion → ℕ
edition_of (Ok c) = edition_number c.edition
edition_of (Err r) = 0

abbrev pub converted_length : Conversion → ℕ
converted_length (Ok c) = c.length
converted_length (Err r) = 0

-- both, with the number of the answer (rule 5.2)
pub record Values : Type 0 where
  pub number : ℕ
  pub edition : ℕ
  pub length : ℕ

abbrev pub values : ℕ → ℕ → ℕ → Values
values k e n = record { number = k; edition = e; length = n }

abbrev pub values_of : Conversion → Values
values_of r = values (number_of r) (edition_of r) (converted_length r)

-- 13 where the output table is too short, before 19 where a normal would be lost (rule 4.35)
abbrev pub conversion_code : Bool → Bool → ℕ
conversion_code short lost = cond short 13 (cond lost 19 0)

abbrev pub conversion_number : List ℕ → List ℕ → ℕ
conversion_number file out = conversion_code (ltb (length out) (length (converted file))) (normal_lost file)

-- the first number due (rule 4.35): 1 to 11 and 18 in the reader's order, with the largest limit, then 13 and 19
abbrev pub number_due : List ℕ → List ℕ → ℕ
number_due file out = first_due (reader.number_due max_vertices file) (conversion_number file out)

-- what the values are: those of the converted file where no number is due, else the number and two zeros (rule 5.2)
abbrev pub due_values : ℕ → List ℕ → Values
due_values zero file = values 0 (other_edition file) (length (converted file))
due_values (suc k) file = values (suc k) 0 0

-- an answer, and what the output table holds after the call
pub record Converting : Type 0 where
  pub answer : Conversion
  pub left : List ℕ

abbrev pub converting : Conversion → List ℕ → Converting
converting r left = record { answer = r; left = left }

-- what a file is converted to (rules 1.15, 5.2): the edition that is not its own, and its length there
abbrev pub converted_to : List ℕ → Converted
converted_to file = record { edition = target_edition file; length = length (converted file) }

-- the converted file in the first places, every further place as it was (rule 3.9); a number changes no place (rule 4.30)
abbrev pub convert_by : ℕ → List ℕ → List ℕ → Converting
convert_by zero file out = converting (Ok (converted_to file)) (filled (converted file) out)
convert_by (suc k) file out = converting (Err (refusal (suc k))) out

-- the call, by the first number due (rule 5.7)
unfoldable pub convert_call : List ℕ → List ℕ → Converting
convert_call file out = convert_by (number_due file out) file out

-- the part handed back: as many first places as the answer says, none where the table is shorter (rule 5.7)
abbrev pub part_of : Conversion → List ℕ → List ℕ
part_of r table = first_places (converted_length r) table

abbrev pub handed_over : Converting → List ℕ
handed_over c = part_of c.answer c.left
