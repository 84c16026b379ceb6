-- The rim file: its header and its records, as numbers. Definitions only.
use Rattle.std.specs.Prelude.{ℕ, suc, ◌+◌, ◌-◌, ◌*◌, ◌<◌, Bool, not, cond, List, length, get_or, ℤ, pos, ◌-ℤ◌, ltb, eqb, Float}
use Rattle.std.specs.Float.{binary32}
use Rattle.std.specs.Float.Ieee.{of_bits}
use Rattle.lists.specs.Lists.{either}
use Rattle.rim_file.specs.declared.Layout.{Layout}
use Rattle.rim_file.specs.declared.edition.Edition.{Edition}
use Rattle.rim_file.specs.declared.edition.Edition.TheVariants.{One, Two}

-- the places of a file are bytes
abbrev pub Bytes : List ℕ → Type 0
Bytes s = (i : ℕ) → get_or s i 0 < 256

-- a number of two bytes, and of four, the lowest first (rule 1.1)
abbrev pub u16_at : List ℕ → ℕ → ℕ
u16_at s i = get_or s i 0 + 256 * get_or s (i + 1) 0

abbrev pub u32_at : List ℕ → ℕ → ℕ
u32_at s i = get_or s i 0 + 256 * get_or s (i + 1) 0 + 65536 * get_or s (i + 2) 0 + 16777216 * get_or s (i + 3) 0

-- a number of two bytes in two's complement (rule 1.13): from 32768 on it is 65536 less than its bits
abbrev pub signed16 : ℕ → ℤ
signed16 bits = cond (ltb bits 32768) (pos bits) (pos bits -ℤ pos 65536)

abbrev pub i16_at : List ℕ → ℕ → ℤ
i16_at s i = signed16 (u16_at s i)

-- the number that a file of edition 2 begins with; a file that does not is of edition 1 (rule 1.12)
abbrev pub marker : ℕ
marker = 65535

abbrev pub is_edition2 : List ℕ → Bool
is_edition2 s = eqb (u16_at s 0) marker

-- how many bytes the marker, the header and a record of each edition have (rules 1.2, 1.3, 1.12)
abbrev pub marker_size : ℕ
marker_size = 2

abbrev pub header_size : ℕ
header_size = 8

abbrev pub record_size1 : ℕ
record_size1 = 16

abbrev pub record_size2 : ℕ
record_size2 = 22

-- where the header starts, and how many bytes a record has, in each edition and in a file (rule 1.12)
abbrev pub layout1 : Layout
layout1 = record { header = 0; record_size = record_size1 }

abbrev pub layout2 : Layout
layout2 = record { header = marker_size; record_size = record_size2 }

unfoldable pub layout_of : List ℕ → Layout
layout_of s = cond (is_edition2 s) layout2 layout1

-- the two editions by name (rule 1.12): that of a file, and the number and the layout of each
abbrev pub edition_of : List ℕ → Edition
edition_of s = cond (is_edition2 s) Two One

abbrev pub edition_number : Edition → ℕ
edition_number One = 1
edition_number Two = 2

abbrev pub layout_in : Edition → Layout
layout_in One = layout1
layout_in Two = layout2

abbrev pub header_start : List ℕ → ℕ
header_start s = (layout_of s).header

abbrev pub record_size_of : List ℕ → ℕ
record_size_of s = (layout_of s).record_size

-- the header: the first record, the record count R, the area factor, the bend factor (rule 1.2)
abbrev pub first_record : List ℕ → ℕ
first_record s = u16_at s (header_start s)

abbrev pub record_count : List ℕ → ℕ
record_count s = u16_at s (header_start s + 2)

abbrev pub area_factor_of : List ℕ → ℕ
area_factor_of s = u16_at s (header_start s + 4)

abbrev pub bend_factor_of : List ℕ → ℕ
bend_factor_of s = u16_at s (header_start s + 6)

-- the most records of a file (rule 1.4)
abbrev pub max_records : ℕ
max_records = 256

-- the numbers that a link can have up to that, with 0, which names no record (rule 1.5)
abbrev pub record_numbers : ℕ
record_numbers = suc max_records

-- number 1 is due (rule 4.1)
unfoldable pub length_wrong : List ℕ → Bool
length_wrong s =
    either (ltb (length s) (header_start s + header_size))
    (either (ltb max_records (record_count s))
    (not (eqb (length s) (header_start s + header_size + record_size_of s * record_count s))))

-- where record k starts (rule 1.3)
abbrev pub offset : List ℕ → ℕ → ℕ
offset s k = header_start s + header_size + record_size_of s * (k - 1)

-- the next record, the kind and the three floats of the record that starts at i (rule 1.3)
abbrev pub next_record : List ℕ → ℕ → ℕ
next_record s i = u16_at s i

abbrev pub kind : List ℕ → ℕ → ℕ
kind s i = u16_at s (i + 2)

abbrev pub first_number : List ℕ → ℕ → Float
first_number s i = of_bits binary32 (u32_at s (i + 4))

abbrev pub second_number : List ℕ → ℕ → Float
second_number s i = of_bits binary32 (u32_at s (i + 8))

abbrev pub third_number : List ℕ → ℕ → Float
third_number s i = of_bits binary32 (u32_at s (i + 12))

-- the four bytes after the first two floats are zero, as a level point asks (rule 1.7)
abbrev pub tail_zero : List ℕ → ℕ → Bool
tail_zero s i = eqb (u32_at s (i + 12)) 0
