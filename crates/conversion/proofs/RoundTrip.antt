-- A file carried to the other edition and back is the first file, byte for byte. Assumes nothing.
use mathlib.Core.Path.{◌≡◌, refl, sym, ap, ◌∙◌}
use mathlib.Core.Bool.{Bool, true, false}
use mathlib.Core.List.{List, [], ◌∷◌, ◌++◌}
use Prim.Native.Nat.{ℕ, zero, suc, ◌+◌, ◌-◌, ◌*◌, ◌≤◌, ◌<◌}
use native.Mathlib.Omega.{arith}
use borrow.Author.Tests.{eqb-true}
use lib.IntN.{pos}
use lib.ListN.{length, take, drop, get_or, take-append-drop, length-drop, get_or-replicate}
use lib.Seq.{take-add, take_all, drop-drop, ext_get_or}
use Rattle.lists.specs.Lists.{over}
use Rattle.lists.proofs.Parts.{over_same}
use Rattle.lists.proofs.Pieces.{cut_pieces}
use Rattle.polygon.specs.Normal.{no_normal}
use Rattle.polygon.specs.declared.normal.Normal.{Normal}
use Rattle.terms.specs.Limits.{max_vertices}
use Rattle.rim_file.specs.File.{Bytes, u16_at, i16_at, is_edition2, marker, header_size, record_size1, header_start, record_size_of, record_count, offset}
use Rattle.rim_file.specs.Record.{held_normal, normal_in}
use Rattle.rim_file.proofs.Layouts.{bounds, start_1, start_2, size_1, size_2, record_within}
use Rattle.rim_file.proofs.Lengths.{Whole, whole}
use Rattle.rim_file.proofs.Normals.{normal_2}
use Rattle.rim_file.proofs.Signed.{zero_bits}
use Rattle.reader.proofs.FirstNumber.{Read}
use Rattle.conversion.specs.Converted.{bytes_at, header_bytes, record_bytes, laid_out, marker_bytes, zero_normal, converted, normal_lost}
use Rattle.conversion.proofs.Storing.{bytes_length, bytes_at_lem, bytes_same}
use Rattle.conversion.proofs.Places.{header_byte, count_same, right_again, record_byte}
use Rattle.conversion.proofs.Rims.{converted_up, converted_down, none_lost, raised_edition, raised_start}
use Rattle.conversion.proofs.Rims.{raised_size, first_small, lowered_edition, lowered_start, lowered_size}

-- ---- a file laid out twice
module _ (s : List ℕ) (w : Whole s) (opening ending : List ℕ)
    (start : header_start (laid_out opening ending s) ≡ length opening)
    (stride : record_size_of (laid_out opening ending s) ≡ record_size1 + length ending) where
  abbrev t : List ℕ
  t = laid_out opening ending s

  again : Whole t
  again = whole t (right_again s w opening ending start stride)

  header_same : header_bytes t ≡ header_bytes s
  header_same = bytes_same t s (header_start t) (header_start s) header_size again.header w.header (header_byte s w opening ending start stride)

  record_same : (k : ℕ) → 0 < k → k ≤ record_count s → record_bytes t k ≡ record_bytes s k
  record_same k h l =
      bytes_same t s (offset t k) (offset s k) record_size1
      (omega (arith, record_within t k h (omega (arith, count_same s w opening ending start stride)) again.records, (bounds t).least))
      (omega (arith, record_within s k h l w.records, (bounds s).least))
      (λ n m. record_byte s w opening ending start stride k n h l m)

  -- is as if it were laid out once
  laid_twice : (opening' ending' : List ℕ) → laid_out opening' ending' t ≡ laid_out opening' ending' s
  laid_twice opening' ending' =
      let count = count_same s w opening ending start stride in
      (λ i. opening' ++ header_same i ++ over 1 (suc (count i)) (λ k. record_bytes t k ++ ending'))
      ∙ ap (λ (l : List ℕ). opening' ++ header_bytes s ++ l)
      (over_same 1 (suc (record_count s)) (λ k. record_bytes t k ++ ending') (λ k. record_bytes s k ++ ending')
      (λ k h l. ap (λ (b : List ℕ). b ++ ending') (record_same k (omega arith) (omega arith))))

-- ---- a file laid out as it is
module _ (s : List ℕ) (w : Whole s) (opening ending : List ℕ) (opens : take (header_start s) s ≡ opening)
    (stride : record_size_of s ≡ record_size1 + length ending)
    (ends : (k : ℕ) → 0 < k → k ≤ record_count s → bytes_at s (offset s k + record_size1) (length ending) ≡ ending) where
  -- a record with its ending
  piece : (k : ℕ) → 0 < k → k ≤ record_count s →
      take (record_size_of s) (drop (record_size_of s * (k - 1)) (drop (header_start s + header_size) s)) ≡ record_bytes s k ++ ending
  piece k h l =
      ap (λ (x : List ℕ). take (record_size_of s) x) (drop-drop (record_size_of s * (k - 1)) (header_start s + header_size) s)
      ∙ ap (λ (z : ℕ). take z (drop (offset s k) s)) stride
      ∙ take-add record_size1 (length ending) (drop (offset s k) s)
      ∙ ap (λ (x : List ℕ). record_bytes s k ++ take (length ending) x) (drop-drop record_size1 (offset s k) s)
      ∙ ap (λ (x : List ℕ). record_bytes s k ++ x) (ends k h l)

  all_records : drop (header_start s + header_size) s ≡ over 1 (suc (record_count s)) (λ k. record_bytes s k ++ ending)
  all_records =
      let rest = drop (header_start s + header_size) s in
      sym (take_all (record_size_of s * record_count s) rest (omega (arith, length-drop (header_start s + header_size) s, w.records)))
      ∙ cut_pieces (record_size_of s) (record_count s) rest
      ∙ over_same 1 (suc (record_count s)) (λ k. take (record_size_of s) (drop (record_size_of s * (k - 1)) rest))
      (λ k. record_bytes s k ++ ending) (λ k h l. piece k (omega arith) (omega arith))

  laid_as_is : laid_out opening ending s ≡ s
  laid_as_is =
      sym (sym (take-append-drop (header_start s + header_size) s)
      ∙ (λ i. take-add (header_start s) header_size s i ++ all_records i)
      ∙ ap (λ (o : List ℕ). o ++ header_bytes s ++ over 1 (suc (record_count s)) (λ k. record_bytes s k ++ ending)) opens)

-- ---- what edition 2 has more
-- the marker
two_first : (s : List ℕ) → 2 ≤ length s → take 2 s ≡ get_or s 0 0 ∷ get_or s 1 0 ∷ []
two_first [] h = absurd (omega arith)
two_first (x ∷ []) h = absurd (omega arith)
two_first (x ∷ y ∷ l) h = refl

opens_2 : (s : List ℕ) → Bytes s → is_edition2 s ≡ true → 2 ≤ length s → take 2 s ≡ marker_bytes
opens_2 s bytes two h =
    let e : u16_at s 0 ≡ marker = eqb-true (u16_at s 0) marker two in
    let low : get_or s 0 0 ≡ 255 = omega (arith, bytes 0, bytes 1) in
    let high : get_or s 1 0 ≡ 255 = omega (arith, bytes 0, bytes 1) in
    two_first s h ∙ (λ i. low i ∷ high i ∷ [])

-- zero normals
module _ (s : List ℕ) (bytes : Bytes s) (i : ℕ) where
  both_zero : i16_at s i ≡ pos 0 → (get_or s i 0 ≡ 0) × (get_or s (i + 1) 0 ≡ 0)
  both_zero e =
      let z : u16_at s i ≡ 0 = zero_bits (u16_at s i) (omega (arith, bytes i, bytes (i + 1))) e in
      (omega arith, omega arith)

module _ (s : List ℕ) (w : Whole s) (bytes : Bytes s) (two : is_edition2 s ≡ true) (k : ℕ) (numbered : 0 < k) (counted : k ≤ record_count s)
    (none : normal_in s (offset s k) ≡ no_normal) where
  abbrev at : ℕ
  at = offset s k

  held : held_normal s at ≡ no_normal
  held = sym (normal_2 s at two) ∙ none

  moved : {i j : ℕ} → get_or s i 0 ≡ 0 → j ≡ i → get_or s j 0 ≡ 0
  moved z e = ap (λ (n : ℕ). get_or s n 0) e ∙ z

  x_zero : (get_or s (at + 16) 0 ≡ 0) × (get_or s (at + 16 + 1) 0 ≡ 0)
  x_zero = both_zero s bytes (at + 16) (ap (λ (n : Normal). n.x) held)

  y_zero : (get_or s (at + 18) 0 ≡ 0) × (get_or s (at + 18 + 1) 0 ≡ 0)
  y_zero = both_zero s bytes (at + 18) (ap (λ (n : Normal). n.y) held)

  z_zero : (get_or s (at + 20) 0 ≡ 0) × (get_or s (at + 20 + 1) 0 ≡ 0)
  z_zero = both_zero s bytes (at + 20) (ap (λ (n : Normal). n.z) held)

  zero_at : (j : ℕ) → j < 6 → get_or s (at + record_size1 + j) 0 ≡ 0
  zero_at zero h = moved x_zero.0 (omega arith)
  zero_at (suc zero) h = moved x_zero.1 (omega arith)
  zero_at (suc (suc zero)) h = moved y_zero.0 (omega arith)
  zero_at (suc (suc (suc zero))) h = moved y_zero.1 (omega arith)
  zero_at (suc (suc (suc (suc zero)))) h = moved z_zero.0 (omega arith)
  zero_at (suc (suc (suc (suc (suc zero))))) h = moved z_zero.1 (omega arith)
  zero_at (suc (suc (suc (suc (suc (suc j)))))) h = absurd (omega arith)

  ends_2 : bytes_at s (at + record_size1) 6 ≡ zero_normal
  ends_2 =
      let fits : at + record_size1 + 6 ≤ length s = omega (arith, record_within s k numbered counted w.records, size_2 s two) in
      let size = bytes_length s (at + record_size1) 6 fits in
      ext_get_or 0 (bytes_at s (at + record_size1) 6) zero_normal size
      (λ j h. let m : j < 6 = omega arith in bytes_at_lem s (at + record_size1) 6 j m ∙ zero_at j m ∙ sym (get_or-replicate 6 j 0 0 m))

-- ---- there and back
module _ (s : List ℕ) (r : Read max_vertices s) where
  w : Whole s
  w = whole s r.right

  up_and_down : is_edition2 s ≡ false → laid_out [] [] (laid_out marker_bytes zero_normal s) ≡ s
  up_and_down one =
      laid_twice s w marker_bytes zero_normal (raised_start s w one) (raised_size s w one) [] []
      ∙ laid_as_is s w [] [] (ap (λ (k : ℕ). take k s) (start_1 s one)) (size_1 s one) (λ k h l. refl)

  down_and_up : Bytes s → is_edition2 s ≡ true → normal_lost s ≡ false → laid_out marker_bytes zero_normal (laid_out [] [] s) ≡ s
  down_and_up bytes two none =
      let small = first_small s r in
      laid_twice s w [] [] (lowered_start s w small) (lowered_size s w small) marker_bytes zero_normal
      ∙ laid_as_is s w marker_bytes zero_normal
      (ap (λ (k : ℕ). take k s) (start_2 s two) ∙ opens_2 s bytes two (omega (arith, w.header)))
      (size_2 s two)
      (λ k h l. ends_2 s w bytes two k h l (none_lost s none k h l))

  -- byte for byte, in either direction; down, where no normal is lost
  pub there_and_back : Bytes s → normal_lost s ≡ false → converted (converted s) ≡ s
  there_and_back bytes none = by (is_edition2 s) refl
    where
      by : (b : Bool) → is_edition2 s ≡ b → converted (converted s) ≡ s
      by true e = ap converted (converted_down s e) ∙ converted_up (laid_out [] [] s) (lowered_edition s w (first_small s r)) ∙ down_and_up bytes e none
      by false e = ap converted (converted_up s e) ∙ converted_down (laid_out marker_bytes zero_normal s) (raised_edition s w e) ∙ up_and_down e
