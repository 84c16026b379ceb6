-- Two files of one rim, each in its edition. Definitions only.
use Rattle.std.specs.Prelude.{◌≡◌, false, List, ℕ, ◌+◌, ◌≤◌, ◌<◌, get_or}
use Rattle.rim_file.specs.File.{record_size1, first_record, record_count, area_factor_of, bend_factor_of, length_wrong, offset}
use Rattle.rim_file.specs.Record.{normal_in}

-- two files of right length with the same header and, record by record, the same first 16 bytes and the same normal (rules 1.2, 1.3, 1.12, 1.13)
pub record SameRim (s t : List ℕ) : Type 0 where
  pub right : length_wrong s ≡ false
  pub right' : length_wrong t ≡ false
  pub first : first_record s ≡ first_record t
  pub count : record_count s ≡ record_count t
  pub area : area_factor_of s ≡ area_factor_of t
  pub bend : bend_factor_of s ≡ bend_factor_of t
  pub bytes : (k j : ℕ) → 0 < k → k ≤ record_count s → j < record_size1 → get_or s (offset s k + j) 0 ≡ get_or t (offset t k + j) 0
  pub normals : (k : ℕ) → 0 < k → k ≤ record_count s → normal_in s (offset s k) ≡ normal_in t (offset t k)
