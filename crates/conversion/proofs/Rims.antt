-- A converted file is of the other edition, and has the rim of the first. Assumes nothing.
use mathlib.Core.Path.{◌≡◌, refl, sym, ap, subst, ◌∙◌}
use mathlib.Core.Bool.{Bool, true, false, not}
use mathlib.Core.List.{List, []}
use Prim.Native.Nat.{ℕ, suc, ◌+◌, ◌≤◌, ◌<◌}
use native.Mathlib.Omega.{arith}
use borrow.Author.Tests.{ne_eqb}
use lib.ListN.{length, get_or, get_or-replicate}
use lib.IntN.{pos}
use Rattle.lists.proofs.Choice.{yes, no, true_not_false, not_false_true}
use Rattle.lists.proofs.Ranges.{some_none, some_nowhere}
use Rattle.polygon.specs.Normal.{normal, no_normal, is_none}
use Rattle.polygon.specs.declared.normal.Normal.{Normal}
use Rattle.polygon.proofs.Normals.{none_is}
use Rattle.terms.specs.Limits.{max_vertices}
use Rattle.rim_file.specs.File.{u16_at, signed16, i16_at, is_edition2, marker, record_size1}
use Rattle.rim_file.specs.File.{header_start, record_size_of, first_record, record_count, length_wrong, offset}
use Rattle.rim_file.specs.Record.{normal_in}
use Rattle.rim_file.specs.Editions.{SameRim}
use Rattle.rim_file.proofs.Layouts.{start_1, start_2, size_1, size_2}
use Rattle.rim_file.proofs.Lengths.{Whole, whole}
use Rattle.rim_file.proofs.Normals.{normal_1, normal_2}
use Rattle.reader.specs.Chain.{link}
use Rattle.reader.proofs.FirstNumber.{Read, read_end}
use Rattle.conversion.specs.Converted.{laid_out, marker_bytes, zero_normal, converted, normal_lost}
use Rattle.conversion.proofs.Places.{header_at, field, count_same, right_again, record_byte, after_record}

-- the two directions
pub converted_up : (s : List ℕ) → is_edition2 s ≡ false → converted s ≡ laid_out marker_bytes zero_normal s
unfolding converted
converted_up s e = no _ _ e

pub converted_down : (s : List ℕ) → is_edition2 s ≡ true → converted s ≡ laid_out [] [] s
unfolding converted
converted_down s e = yes _ _ e

-- no record has a normal
pub none_lost : (s : List ℕ) → normal_lost s ≡ false → (k : ℕ) → 0 < k → k ≤ record_count s → normal_in s (offset s k) ≡ no_normal
unfolding normal_lost
none_lost s e k h l =
    none_is (normal_in s (offset s k))
    (not_false_true (is_none (normal_in s (offset s k)))
    (λ f. some_none 1 (suc (record_count s)) (λ k. not (is_none (normal_in s (offset s k)))) e k (omega arith) (omega arith) (ap not f)))

-- and where none has, none is lost: so 19 is never due on a file that goes up
pub nothing_lost : (s : List ℕ) → ((k : ℕ) → 0 < k → k ≤ record_count s → normal_in s (offset s k) ≡ no_normal) → normal_lost s ≡ false
unfolding normal_lost
nothing_lost s none =
    some_nowhere 1 (suc (record_count s)) (λ k. not (is_none (normal_in s (offset s k))))
    (λ k h l t. true_not_false t (ap (λ (n : Normal). not (is_none n)) (none k (omega arith) (omega arith))))

pub edition_1_loses_none : (s : List ℕ) → is_edition2 s ≡ false → normal_lost s ≡ false
edition_1_loses_none s one = nothing_lost s (λ k h l. normal_1 s (offset s k) one)

module _ (s : List ℕ) (w : Whole s) where
  -- a file laid out as its edition has it, with the normals of the first
  same_rim : (opening ending : List ℕ) →
      header_start (laid_out opening ending s) ≡ length opening → record_size_of (laid_out opening ending s) ≡ record_size1 + length ending →
      ((k : ℕ) → 0 < k → k ≤ record_count s → normal_in (laid_out opening ending s) (offset (laid_out opening ending s) k) ≡ normal_in s (offset s k)) →
      length_wrong s ≡ false → SameRim (laid_out opening ending s) s
  same_rim opening ending start stride normals right =
      let count = count_same s w opening ending start stride in
      record {
        right = right_again s w opening ending start stride;
        right' = right;
        first = first_same;
        count = count;
        area = field s w opening ending start stride 4 (omega arith);
        bend = field s w opening ending start stride 6 (omega arith);
        bytes = λ k j h l m. record_byte s w opening ending start stride k j h (omega arith) m;
        normals = λ k h l. normals k h (omega arith);
      }
    where
      first_same : first_record (laid_out opening ending s) ≡ first_record s
      first_same =
          let t = laid_out opening ending s in
          let a : header_start t ≡ header_start t + 0 = omega arith in
          let b : header_start s + 0 ≡ header_start s = omega arith in
          ap (λ (i : ℕ). u16_at t i) a ∙ field s w opening ending start stride 0 (omega arith) ∙ ap (λ (i : ℕ). u16_at s i) b

  -- ---- from edition 1 to 2
  module _ (one : is_edition2 s ≡ false) where
    abbrev raised : List ℕ
    raised = laid_out marker_bytes zero_normal s

    pub raised_edition : is_edition2 raised ≡ true
    raised_edition = refl

    pub raised_start : header_start raised ≡ 2
    raised_start = start_2 raised raised_edition

    pub raised_size : record_size_of raised ≡ 22
    raised_size = size_2 raised raised_edition

    -- each byte of a normal is zero
    zero_byte : (k j : ℕ) → 0 < k → k ≤ record_count s → j < 6 → get_or raised (offset raised k + (16 + j)) 0 ≡ 0
    zero_byte k j h l m = after_record s w marker_bytes zero_normal raised_start raised_size k j h l m ∙ get_or-replicate 6 j 0 0 m

    zero_number : (k j : ℕ) → 0 < k → k ≤ record_count s → j < 5 → i16_at raised (offset raised k + (16 + j)) ≡ pos 0
    zero_number k j h l m =
        let e : offset raised k + (16 + j) + 1 ≡ offset raised k + (16 + (j + 1)) = omega arith in
        let z : u16_at raised (offset raised k + (16 + j)) ≡ 0 =
        omega (arith, zero_byte k j h l (omega arith), ap (λ (i : ℕ). get_or raised i 0) e ∙ zero_byte k (j + 1) h l (omega arith)) in
        ap signed16 z

    raised_normal : (k : ℕ) → 0 < k → k ≤ record_count s → normal_in raised (offset raised k) ≡ normal_in s (offset s k)
    raised_normal k h l =
        let x = zero_number k 0 h l (omega arith) in
        let y = zero_number k 2 h l (omega arith) in
        let z = zero_number k 4 h l (omega arith) in
        normal_2 raised (offset raised k) raised_edition ∙ (λ i. normal (x i) (y i) (z i)) ∙ sym (normal_1 s (offset s k) one)

    raised_rim : length_wrong s ≡ false → SameRim raised s
    raised_rim right = same_rim marker_bytes zero_normal raised_start raised_size raised_normal right

  -- ---- from edition 2 to 1
  module _ (small : first_record s < marker) where
    abbrev lowered : List ℕ
    lowered = laid_out [] [] s

    -- its first u16 is the first record, which is no marker
    pub lowered_edition : is_edition2 lowered ≡ false
    lowered_edition =
        let a : header_start s + 0 ≡ header_start s = omega arith in
        let low = header_at s w [] [] 0 (omega arith) ∙ ap (λ (i : ℕ). get_or s i 0) a in
        let high = header_at s w [] [] 1 (omega arith) in
        ne_eqb (u16_at lowered 0) marker (λ e. omega (arith, low, high))

    pub lowered_start : header_start lowered ≡ 0
    lowered_start = start_1 lowered lowered_edition

    pub lowered_size : record_size_of lowered ≡ 16
    lowered_size = size_1 lowered lowered_edition

    lowered_rim : normal_lost s ≡ false → length_wrong s ≡ false → SameRim lowered s
    lowered_rim none right =
        same_rim [] [] lowered_start lowered_size
        (λ k h l. normal_1 lowered (offset lowered k) lowered_edition ∙ sym (none_lost s none k h l)) right

-- ---- a file that the reader takes
module _ (s : List ℕ) (r : Read max_vertices s) where
  -- its chain starts with a record of the file, of which there are at most 256
  pub first_small : first_record s < marker
  unfolding link
  first_small = let f = (read_end max_vertices s r).has.in_file 0 (omega (arith, r.enough)) in omega (arith, f.counted, (whole s r.right).few)

  -- converted, it has its other edition
  pub converted_edition : is_edition2 (converted s) ≡ not (is_edition2 s)
  converted_edition = by (is_edition2 s) refl
    where
      by : (b : Bool) → is_edition2 s ≡ b → is_edition2 (converted s) ≡ not (is_edition2 s)
      by true e = ap is_edition2 (converted_down s e) ∙ lowered_edition s (whole s r.right) first_small ∙ sym (ap not e)
      by false e = ap is_edition2 (converted_up s e) ∙ raised_edition s (whole s r.right) e ∙ sym (ap not e)

  -- and, where no normal is lost, the same rim
  pub converted_rim : normal_lost s ≡ false → SameRim (converted s) s
  converted_rim none = by (is_edition2 s) refl
    where
      by : (b : Bool) → is_edition2 s ≡ b → SameRim (converted s) s
      by true e = subst (λ (t : List ℕ). SameRim t s) (sym (converted_down s e)) (lowered_rim s (whole s r.right) first_small none r.right)
      by false e = subst (λ (t : List ℕ). SameRim t s) (sym (converted_up s e)) (raised_rim s (whole s r.right) e r.right)
