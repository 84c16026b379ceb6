-- A rim file in the other edition, byte for byte, and what it would lose there. Definitions only.
use Rattle.std.specs.Prelude.{Bool, not, cond, List, [], ◌∷◌, ◌++◌, ℕ, suc, take, drop, replicate}
use Rattle.lists.specs.Lists.{over, some}
use Rattle.polygon.specs.Normal.{is_none}
use Rattle.rim_file.specs.File.{is_edition2, header_size, record_size1, header_start, record_count, offset}
use Rattle.rim_file.specs.Record.{normal_in}
use Rattle.rim_file.specs.declared.edition.Edition.{Edition}
use Rattle.rim_file.specs.declared.edition.Edition.TheVariants.{One, Two}

-- k bytes of a file, from place i on
abbrev pub bytes_at : List ℕ → ℕ → ℕ → List ℕ
bytes_at s i k = take k (drop i s)

-- the header, and the first 16 bytes of record k, whether the chain reaches it or not (rules 1.2, 1.3)
abbrev pub header_bytes : List ℕ → List ℕ
header_bytes s = bytes_at s (header_start s) header_size

abbrev pub record_bytes : List ℕ → ℕ → List ℕ
record_bytes s k = bytes_at s (offset s k) record_size1

-- the same header and records, each at its place, with `opening` before the header and `ending` after the 16 bytes of each record (rule 1.15)
abbrev pub laid_out : List ℕ → List ℕ → List ℕ → List ℕ
laid_out opening ending s = opening ++ header_bytes s ++ over 1 (suc (record_count s)) (λ k. record_bytes s k ++ ending)

-- what edition 2 has there: the number 65,535, and a normal of three zeros (rules 1.12, 1.13)
abbrev pub marker_byte : ℕ
marker_byte = 255

abbrev pub marker_bytes : List ℕ
marker_bytes = marker_byte ∷ marker_byte ∷ []

abbrev pub zero_normal : List ℕ
zero_normal = replicate 6 0

-- the file in the other edition (rule 1.15): one of edition 2 without marker and normals, one of edition 1 with the marker and zero normals
unfoldable pub converted : List ℕ → List ℕ
converted s = cond (is_edition2 s) (laid_out [] [] s) (laid_out marker_bytes zero_normal s)

-- the edition that it has then, by its number and by its name
abbrev pub other_edition : List ℕ → ℕ
other_edition s = cond (is_edition2 s) 1 2

abbrev pub target_edition : List ℕ → Edition
target_edition s = cond (is_edition2 s) One Two

-- a record, whether the chain reaches it or not, has a normal other than three zeros (rule 4.19); in edition 1 none has (rule 1.13)
unfoldable pub normal_lost : List ℕ → Bool
normal_lost s = some 1 (suc (record_count s)) (λ k. not (is_none (normal_in s (offset s k))))
