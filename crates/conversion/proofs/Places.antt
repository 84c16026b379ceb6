-- Where header and records stand in a file that is laid out anew. Assumes nothing.
use mathlib.Core.Path.{◌≡◌, sym, ap, ◌∙◌}
use mathlib.Core.Bool.{not, false}
use mathlib.Core.List.{List, ◌++◌}
use Prim.Native.Nat.{ℕ, suc, ◌+◌, ◌-◌, ◌*◌, ◌≤◌, ◌<◌}
use native.Mathlib.Omega.{arith}
use borrow.Author.Tests.{eq-eqb}
use lib.ListN.{length, get_or, length-append, get_or-append}
use lib.Seq.{get_or-append-add}
use Rattle.lists.specs.Lists.{over}
use Rattle.lists.proofs.Pieces.{piece_at}
use Rattle.rim_file.specs.File.{u16_at, header_size, record_size1, header_start, record_size_of, record_count, length_wrong, offset}
use Rattle.rim_file.proofs.Lengths.{Whole, by_records}
use Rattle.conversion.specs.Converted.{header_bytes, record_bytes, laid_out}
use Rattle.conversion.proofs.Storing.{bytes_at_lem}
use Rattle.conversion.proofs.Records.{header_length, record_length, piece_length}
use Rattle.conversion.proofs.Targets.{laid_length}

module _ (s : List ℕ) (w : Whole s) (opening ending : List ℕ) where
  abbrev front : List ℕ
  front = opening ++ header_bytes s

  abbrev records : List ℕ
  records = over 1 (suc (record_count s)) (λ k. record_bytes s k ++ ending)

  abbrev size : ℕ
  size = record_size1 + length ending

  front_length : length front ≡ length opening + header_size
  front_length = omega (arith, length-append opening (header_bytes s), header_length s w)

  -- byte j of the header
  pub header_at : (j : ℕ) → j < header_size → get_or (laid_out opening ending s) (length opening + j) 0 ≡ get_or s (header_start s + j) 0
  header_at j h =
      get_or-append front records 0 (length opening + j) (omega (arith, front_length))
      ∙ get_or-append-add opening (header_bytes s) j 0
      ∙ bytes_at_lem s (header_start s) header_size j h

  -- byte j of record k with its ending
  pub piece_byte : (k j : ℕ) → 0 < k → k ≤ record_count s → j < size →
      get_or (laid_out opening ending s) (length opening + header_size + size * (k - 1) + j) 0 ≡ get_or (record_bytes s k ++ ending) j 0
  piece_byte k j h l m =
      let e : length opening + header_size + size * (k - 1) + j ≡ length front + (size * (k - 1) + j) = omega (arith, front_length) in
      ap (λ (i : ℕ). get_or (laid_out opening ending s) i 0) e
      ∙ get_or-append-add front records (size * (k - 1) + j) 0
      ∙ piece_at (λ k. record_bytes s k ++ ending) size 1 (suc (record_count s)) (piece_length s w ending) k j 0 (omega arith) (omega arith) m

  -- in a file that is read so: its header and records are where it looks for them
  module _ (start : header_start (laid_out opening ending s) ≡ length opening) (stride : record_size_of (laid_out opening ending s) ≡ size) where
    abbrev t : List ℕ
    t = laid_out opening ending s

    pub header_byte : (j : ℕ) → j < header_size → get_or t (header_start t + j) 0 ≡ get_or s (header_start s + j) 0
    header_byte j h = ap (λ (i : ℕ). get_or t (i + j) 0) start ∙ header_at j h

    next_header_byte : (j : ℕ) → j + 1 < header_size → get_or t (header_start t + j + 1) 0 ≡ get_or s (header_start s + j + 1) 0
    next_header_byte j h =
        let a : header_start t + j + 1 ≡ header_start t + (j + 1) = omega arith in
        let b : header_start s + (j + 1) ≡ header_start s + j + 1 = omega arith in
        ap (λ (i : ℕ). get_or t i 0) a ∙ header_byte (j + 1) h ∙ ap (λ (i : ℕ). get_or s i 0) b

    -- the header's numbers
    pub field : (j : ℕ) → j + 1 < header_size → u16_at t (header_start t + j) ≡ u16_at s (header_start s + j)
    field j h = omega (arith, header_byte j (omega arith), next_header_byte j h)

    pub count_same : record_count t ≡ record_count s
    count_same = field 2 (omega arith)

    pub whole_again : length t ≡ header_start t + header_size + record_size_of t * record_count t
    whole_again = laid_length s w opening ending ∙ sym (λ i. start i + header_size + stride i * count_same i)

    pub right_again : length_wrong t ≡ false
    right_again =
        by_records t (omega (arith, whole_again)) (omega (arith, count_same, w.few))
        ∙ ap not (eq-eqb (length t) (header_start t + header_size + record_size_of t * record_count t) whole_again)

    -- byte j of record k with its ending
    pub ending_byte : (k j : ℕ) → 0 < k → k ≤ record_count s → j < size → get_or t (offset t k + j) 0 ≡ get_or (record_bytes s k ++ ending) j 0
    ending_byte k j h l m = (λ i. get_or t (start i + header_size + stride i * (k - 1) + j) 0) ∙ piece_byte k j h l m

    pub record_byte : (k j : ℕ) → 0 < k → k ≤ record_count s → j < record_size1 → get_or t (offset t k + j) 0 ≡ get_or s (offset s k + j) 0
    record_byte k j h l m =
        ending_byte k j h l (omega arith)
        ∙ get_or-append (record_bytes s k) ending 0 j (omega (arith, record_length s w k h l))
        ∙ bytes_at_lem s (offset s k) record_size1 j m

    -- byte j of the ending of record k
    pub after_record : (k j : ℕ) → 0 < k → k ≤ record_count s → j < length ending → get_or t (offset t k + (record_size1 + j)) 0 ≡ get_or ending j 0
    after_record k j h l m =
        ending_byte k (record_size1 + j) h l (omega arith)
        ∙ ap (λ (i : ℕ). get_or (record_bytes s k ++ ending) (i + j) 0) (sym (record_length s w k h l))
        ∙ get_or-append-add (record_bytes s k) ending j 0
