-- Where a file of each edition has its numbers, in figures: record k, and the normal of a record that starts at a byte. Definitions only.
use Rattle.std.specs.Prelude.{◌≡◌, not, List, ℕ, ◌+◌, ◌-◌, ◌*◌, ltb, eqb, length}
use Rattle.lists.specs.Lists.{either}
use Rattle.polygon.specs.Normal.{normal, no_normal}
use Rattle.rim_file.specs.File.{u16_at, i16_at, first_record, record_count, area_factor_of, bend_factor_of, offset, length_wrong}
use Rattle.rim_file.specs.Record.{normal_in}

-- edition 1 (rules 1.2 to 1.4, 1.13, 4.1): the header at byte 0, records of 16 bytes from byte 8 on, no normals
pub record Edition1 (file : List ℕ) : Type 0 where
  pub first : first_record file ≡ u16_at file 0
  pub count : record_count file ≡ u16_at file 2
  pub area : area_factor_of file ≡ u16_at file 4
  pub bend : bend_factor_of file ≡ u16_at file 6
  pub records : (k : ℕ) → offset file k ≡ 8 + 16 * (k - 1)
  pub normals : (at : ℕ) → normal_in file at ≡ no_normal
  pub number_1 : length_wrong file ≡ either (ltb (length file) 8) (either (ltb 256 (u16_at file 2)) (not (eqb (length file) (8 + 16 * u16_at file 2))))

-- edition 2 (rules 1.2 to 1.4, 1.12, 1.13, 4.1): the header at byte 2, records of 22 bytes from byte 10 on, each with its normal in the last six
pub record Edition2 (file : List ℕ) : Type 0 where
  pub first : first_record file ≡ u16_at file 2
  pub count : record_count file ≡ u16_at file 4
  pub area : area_factor_of file ≡ u16_at file 6
  pub bend : bend_factor_of file ≡ u16_at file 8
  pub records : (k : ℕ) → offset file k ≡ 10 + 22 * (k - 1)
  pub normals : (at : ℕ) → normal_in file at ≡ normal (i16_at file (at + 16)) (i16_at file (at + 18)) (i16_at file (at + 20))
  pub number_1 : length_wrong file ≡ either (ltb (length file) 10) (either (ltb 256 (u16_at file 4)) (not (eqb (length file) (10 + 22 * u16_at file 4))))
