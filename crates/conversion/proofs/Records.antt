-- Header and records of a file as runs of bytes, and how the records are stored one after the other. Assumes nothing.
use mathlib.Core.Path.{◌≡◌, sym, ap, ◌∙◌}
use mathlib.Core.List.{List, ◌++◌}
use Prim.Native.Nat.{ℕ, suc, ◌+◌, ◌-◌, ◌*◌, ◌≤◌, ◌<◌}
use native.Mathlib.Omega.{arith}
use native.Mathlib.Nat.{mul-suc, mul-le-mul_left}
use lib.ListN.{length, length-append}
use lib.Seq.{sets}
use Rattle.lists.specs.Lists.{over}
use Rattle.lists.proofs.Ranges.{over_last}
use Rattle.lists.proofs.Pieces.{pieces_length}
use Rattle.rim_file.specs.File.{header_size, record_size1, record_count, offset}
use Rattle.rim_file.proofs.Layouts.{bounds, record_within}
use Rattle.rim_file.proofs.Lengths.{Whole}
use Rattle.conversion.specs.Converted.{bytes_at, header_bytes, record_bytes}
use Rattle.conversion.proofs.Storing.{bytes_length, stores_then}

-- piece k of n ends within all of them
pub piece_end : (size k n : ℕ) → 0 < k → k ≤ n → size * (k - 1) + size ≤ size * n
piece_end size k n h l =
    let e : suc (k - 1) ≡ k = omega arith in
    omega (arith, mul-suc size (k - 1), ap (λ (i : ℕ). size * i) e, mul-le-mul_left size l)

module _ (s : List ℕ) (w : Whole s) where
  pub header_length : length (header_bytes s) ≡ header_size
  header_length = bytes_length s _ header_size w.header

  pub record_length : (k : ℕ) → 0 < k → k ≤ record_count s → length (record_bytes s k) ≡ record_size1
  record_length k h l = bytes_length s (offset s k) record_size1 (omega (arith, record_within s k h l w.records, (bounds s).least))

  -- with the same ending after each
  module _ (ending : List ℕ) where
    pub piece_length : (k : ℕ) → 1 ≤ k → k < suc (record_count s) → length (record_bytes s k ++ ending) ≡ record_size1 + length ending
    piece_length k h l = omega (arith, length-append (record_bytes s k) ending, record_length k (omega arith) (omega arith))

    pub pieces : (k : ℕ) → k ≤ suc (record_count s) → length (over 1 k (λ k. record_bytes s k ++ ending)) ≡ (record_size1 + length ending) * (k - 1)
    pieces k h = pieces_length (λ k. record_bytes s k ++ ending) (record_size1 + length ending) 1 k (λ i l m. piece_length i l (omega arith))

    -- record k is stored after those before it, and its ending after its bytes
    pub record_stored : (d : List ℕ) (first k to : ℕ) {o o' o'' : List ℕ} {from end : ℕ} → 0 < k → k ≤ record_count s →
        o ≡ sets d first (over 1 k (λ k. record_bytes s k ++ ending)) → from ≡ offset s k →
        to ≡ first + (record_size1 + length ending) * (k - 1) → end ≡ to + record_size1 →
        o' ≡ sets o to (bytes_at s from record_size1) → o'' ≡ sets o' end ending →
        o'' ≡ sets d first (over 1 (k + 1) (λ k. record_bytes s k ++ ending))
    record_stored d first k to {o} {end = end} h l before from_is to_is end_is copied ended =
        ended
        ∙ ap (λ (x : List ℕ). sets x end ending) (copied ∙ ap (λ (i : ℕ). sets o to (bytes_at s i record_size1)) from_is)
        ∙ stores_then (record_bytes s k) ending o to end (omega (arith, end_is, record_length k h l))
        ∙ ap (λ (x : List ℕ). sets x to (record_bytes s k ++ ending)) before
        ∙ stores_then (over 1 k (λ k. record_bytes s k ++ ending)) (record_bytes s k ++ ending) d first to (omega (arith, to_is, pieces k (omega arith)))
        ∙ ap (λ (x : List ℕ). sets d first x) (sym (over_last 1 k (λ k. record_bytes s k ++ ending) (omega arith)))
