-- The numbers 1 to 11, 14, 18 and 20 of a file read with a limit, each by itself, at its place, and only of what there is (rules 4.1 to 4.11, 4.14, 4.18,
-- 4.20 and 4.31). Definitions only.
use Rattle.std.specs.Prelude.{◌≡◌, Bool, true, false, ℕ, suc, ◌+◌, ◌≤◌, ◌<◌, ℤ, Float, length}
use mathlib.Core.List.{List, Memᴰ}
use Rattle.grid.specs.Number.{finite, in_range, round_eighths}
use Rattle.grid.specs.Point.{point, OnGrid}
use Rattle.grid.specs.declared.GridPoint.{GridPoint}
use Rattle.polygon.specs.Normal.{no_normal, NormalInRange}
use Rattle.polygon.specs.declared.normal.Normal.{Normal}
use Rattle.terms.specs.Limits.{min_vertices, max_vertices, max_area_factor, count_fits}
use Rattle.rim_file.specs.File.{is_edition2, header_size, header_start, record_size_of, area_factor_of, record_count, length_wrong}
use Rattle.rim_file.specs.File.{offset, kind, first_number, second_number, third_number, tail_zero}
use Rattle.rim_file.specs.Record.{floats_of, held_normal, normal_numbers_of}
use Rattle.reader.specs.Chain.{link}
use Rattle.reader.specs.Order.{FilePlace, request, header, link_to, at_record, rim}

-- ---- what there is
-- record k is one of the R records, and its bytes are there (rule 1.3)
pub record InFile (s : List ℕ) (k : ℕ) : Type 0 where
  pub numbered : 0 < k
  pub counted : k ≤ record_count s
  pub bytes : offset s k + record_size_of s ≤ length s

-- the chain has m records or more (rule 1.5): the links to its first m positions name records of the file, no two the same
pub record HasRecords (s : List ℕ) (m : ℕ) : Type 0 where
  pub has_header : header_start s + header_size ≤ length s
  pub in_file : (i : ℕ) → i < m → InFile s (link s i)
  pub different : (i j : ℕ) → i < j → j < m → link s i ≡ link s j → ⊥

-- the chain has at most m records (rule 1.5)
abbrev pub ChainAtMost : List ℕ → ℕ → Type 0
ChainAtMost s m = HasRecords s (suc m) → ⊥

-- where the record at position i of the chain starts in the file (rule 1.3)
abbrev pub record_start : List ℕ → ℕ → ℕ
record_start s i = offset s (link s i)

-- the kind of the record at position i, and whether the four bytes after its first two floats are zero (rules 1.3, 1.7)
abbrev pub kind_at : List ℕ → ℕ → ℕ
kind_at s i = kind s (record_start s i)

abbrev pub tail_zero_at : List ℕ → ℕ → Bool
tail_zero_at s i = tail_zero s (record_start s i)

-- the floats of the record at position i (rules 1.6, 1.7)
abbrev pub floats_at : List ℕ → ℕ → List Float
floats_at s i = floats_of s (record_start s i)

-- the numbers of the normal of the record at position i (rule 1.13)
abbrev pub normal_numbers_at : List ℕ → ℕ → List ℤ
normal_numbers_at s i = normal_numbers_of s (record_start s i)

-- ---- what a vertex is, and its normal
-- all floats of the record at position i are finite and in range (rule 1.9)
pub record OnGridAt (s : List ℕ) (i : ℕ) : Type 0 where
  pub all_finite : (v : Float) → Memᴰ v (floats_at s i) → finite v ≡ true
  pub all_in_range : (v : Float) → Memᴰ v (floats_at s i) → in_range v ≡ true

-- the last point before position i is the one at position j (rule 1.7)
pub record LastPoint (s : List ℕ) (j i : ℕ) : Type 0 where
  pub before : j < i
  pub is_point : kind_at s j ≡ 1
  pub none_between : (m : ℕ) → j < m → m < i → kind_at s m ≡ 1 → ⊥

-- the grid numbers of the record at position i (rule 1.10)
abbrev pub x_at : List ℕ → ℕ → ℤ
x_at s i = round_eighths (first_number s (record_start s i))

abbrev pub y_at : List ℕ → ℕ → ℤ
y_at s i = round_eighths (second_number s (record_start s i))

abbrev pub height_at : List ℕ → ℕ → ℤ
height_at s i = round_eighths (third_number s (record_start s i))

-- the record at position i gives the vertex p (rules 1.6, 1.7)
pub data HasVertex (s : List ℕ) : ℕ → GridPoint → Type 0 where
  a_point : (i : ℕ) → kind_at s i ≡ 1 → OnGridAt s i → HasVertex s i (point (x_at s i) (y_at s i) (height_at s i))
  a_level_point : (i j : ℕ) → kind_at s i ≡ 2 → tail_zero_at s i ≡ true → OnGridAt s i → LastPoint s j i → OnGridAt s j →
      HasVertex s i (point (x_at s i) (y_at s i) (height_at s j))

-- the record at position i gives the normal q (rules 1.13, 4.18): in edition 2 the one that it holds, if that is in range, and in edition 1 none
pub data HasNormal (s : List ℕ) : ℕ → Normal → Type 0 where
  held : (i : ℕ) → is_edition2 s ≡ true → NormalInRange (held_normal s (record_start s i)) → HasNormal s i (held_normal s (record_start s i))
  none : (i : ℕ) → is_edition2 s ≡ false → HasNormal s i no_normal

-- ---- the numbers
-- constructor by constructor, rules 4.14, 4.1 to 4.5, 4.20, 4.6 to 4.9, 4.18, 4.10 and 4.11; 4.8 has two
pub data FileDue (limit : ℕ) (s : List ℕ) : FilePlace → ℕ → Type 0 where
  limit_wrong : count_fits limit ≡ false → FileDue limit s request 14
  wrong_length : length_wrong s ≡ true → FileDue limit s header 1
  area_factor : header_start s + header_size ≤ length s → max_area_factor < area_factor_of s → FileDue limit s header 2
  link_over : (i : ℕ) → HasRecords s i → record_count s < link s i → FileDue limit s (link_to i) 3
  met_again : (i j : ℕ) → i < j → HasRecords s j → link s i ≡ link s j → FileDue limit s (link_to j) 4
  too_many : HasRecords s (suc limit) → limit ≡ max_vertices → FileDue limit s (link_to limit) 5
  above_limit : HasRecords s (suc limit) → limit < max_vertices → FileDue limit s (link_to limit) 20
  kind_unknown : (i : ℕ) → HasRecords s (suc i) → (kind_at s i ≡ 1 → ⊥) → (kind_at s i ≡ 2 → ⊥) → FileDue limit s (at_record i) 6
  no_height : (i : ℕ) → HasRecords s (suc i) → kind_at s i ≡ 2 → ((j : ℕ) → j < i → kind_at s j ≡ 1 → ⊥) → FileDue limit s (at_record i) 7
  not_finite : (i : ℕ) (v : Float) → HasRecords s (suc i) → Memᴰ v (floats_at s i) → finite v ≡ false → FileDue limit s (at_record i) 8
  tail_not_zero : (i : ℕ) → HasRecords s (suc i) → kind_at s i ≡ 2 → tail_zero_at s i ≡ false → FileDue limit s (at_record i) 8
  out_of_range : (i : ℕ) (v : Float) → HasRecords s (suc i) → Memᴰ v (floats_at s i) → in_range v ≡ false → FileDue limit s (at_record i) 9
  normal_out_of_range : (i : ℕ) (c : ℤ) → HasRecords s (suc i) → Memᴰ c (normal_numbers_at s i) → (OnGrid c → ⊥) → FileDue limit s (at_record i) 18
  too_few : (i : ℕ) → HasRecords s i → link s i ≡ 0 → i < min_vertices → FileDue limit s rim 10
  vertex_repeated : (i j : ℕ) (p : GridPoint) → i < j → HasRecords s (suc j) → HasVertex s i p → HasVertex s j p → FileDue limit s rim 11
