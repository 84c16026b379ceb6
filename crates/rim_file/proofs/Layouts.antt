-- Where the numbers of a file stand, in each edition. Assumes nothing.
use mathlib.Core.Path.{◌≡◌, refl, sym, ap, ◌∙◌}
use mathlib.Core.Bool.{Bool, true, false, not, cond}
use mathlib.Core.List.{List}
use Prim.Native.Nat.{ℕ, zero, suc, ◌+◌, ◌-◌, ◌*◌, ◌≤◌, ◌<◌}
use native.Mathlib.Omega.{arith}
use native.Mathlib.Nat.{mul-le-mul_left}
use borrow.Author.Tests.{eq-eqb, ne_eqb}
use lib.Dec.{ltb, eqb}
use lib.ListN.{length}
use Rattle.lists.specs.Lists.{either}
use Rattle.lists.proofs.Choice.{yes, no, not_true_false, not_false_true}
use Rattle.rim_file.specs.File.{u16_at, is_edition2, marker, marker_size, header_size, record_size1, record_size2, layout1}
use Rattle.rim_file.specs.File.{layout2, layout_of, header_start, record_size_of, record_count, max_records, length_wrong, offset}
use Rattle.rim_file.specs.Layouts.{Edition1, Edition2}
use Rattle.rim_file.specs.File.{edition_of, layout_in}
use Rattle.rim_file.specs.declared.Layout.{Layout}
use Rattle.rim_file.specs.declared.edition.Edition.{Edition}
use Rattle.rim_file.specs.declared.edition.Edition.TheVariants.{One, Two}
use Rattle.rim_file.proofs.Normals.{normal_1, normal_2}

module _ (s : List ℕ) where
  -- the two editions
  pub edition1 : is_edition2 s ≡ false → layout_of s ≡ layout1
  unfolding layout_of
  edition1 e = no _ _ e

  pub edition2 : is_edition2 s ≡ true → layout_of s ≡ layout2
  unfolding layout_of
  edition2 e = yes _ _ e

  pub start_1 : is_edition2 s ≡ false → header_start s ≡ 0
  start_1 e = ap (λ (l : Layout). l.header) (edition1 e)

  pub start_2 : is_edition2 s ≡ true → header_start s ≡ marker_size
  start_2 e = ap (λ (l : Layout). l.header) (edition2 e)

  pub size_1 : is_edition2 s ≡ false → record_size_of s ≡ record_size1
  size_1 e = ap (λ (l : Layout). l.record_size) (edition1 e)

  pub size_2 : is_edition2 s ≡ true → record_size_of s ≡ record_size2
  size_2 e = ap (λ (l : Layout). l.record_size) (edition2 e)

  -- the header starts within 2 bytes, and a record has 16 to 22
  pub record Bounds : Type 0 where
    pub header : header_start s ≤ marker_size
    pub least : record_size1 ≤ record_size_of s
    pub most : record_size_of s ≤ record_size2

  pub bounds : Bounds
  bounds = by (is_edition2 s) refl
    where
      by : (b : Bool) → is_edition2 s ≡ b → Bounds
      by true e =
          let h = start_2 e in
          let z = size_2 e in
          record { header = omega arith; least = omega arith; most = omega arith }
      by false e =
          let h = start_1 e in
          let z = size_1 e in
          record { header = omega arith; least = omega arith; most = omega arith }

  -- a record ends where the next one starts
  record_end : (k : ℕ) → 0 < k → offset s k + record_size_of s ≡ header_start s + header_size + record_size_of s * k
  record_end zero h = absurd (omega arith)
  record_end (suc k) h = let e : suc k - 1 ≡ k = omega arith in rw e (omega arith)

  -- where one record more would start, a file that has all R ends
  pub last_end : {r : ℕ} → r ≡ record_count s → offset s (r + 1) ≡ header_start s + header_size + record_size_of s * record_count s
  last_end {r} c =
      ap (λ (k : ℕ). header_start s + header_size + record_size_of s * k) (one_less r)
      ∙ ap (λ (k : ℕ). header_start s + header_size + record_size_of s * k) c
    where
      one_less : (r : ℕ) → r + 1 - 1 ≡ r
      one_less r = omega arith

  -- record k of R ends within a file that has all R
  pub record_within : (k : ℕ) → 0 < k → k ≤ record_count s → length s ≡ header_start s + header_size + record_size_of s * record_count s →
      offset s k + record_size_of s ≤ length s
  record_within k h l e = omega (arith, record_end k h, mul-le-mul_left (record_size_of s) l)

-- ---- the edition by its name
in_edition : (b : Bool) → layout_in (cond b Two One) ≡ cond b layout2 layout1
in_edition true = refl
in_edition false = refl

two_differ : One ≡ Two → ⊥
two_differ e = let z : ◌≡◌ {A = ℕ} 0 1 = cc in omega arith

module _ (s : List ℕ) {e : Edition} (h : e ≡ edition_of s) where
  pub layout_is : layout_in e ≡ layout_of s
  unfolding layout_of
  layout_is = ap layout_in h ∙ in_edition (is_edition2 s)

  pub is_one : e ≡ One → is_edition2 s ≡ false
  is_one o = not_true_false (is_edition2 s) (λ t. two_differ (sym o ∙ h ∙ ap (λ (b : Bool). cond b Two One) t))

  pub is_two : e ≡ Two → is_edition2 s ≡ true
  is_two o = not_false_true (is_edition2 s) (λ f. two_differ (sym (sym o ∙ h ∙ ap (λ (b : Bool). cond b Two One) f)))

-- ---- the layout as it is handed on
module _ (s : List ℕ) {l : Layout} (e : l ≡ layout_of s) where
  pub header_as : l.header ≡ header_start s
  header_as = ap (λ (m : Layout). m.header) e

  pub size_as : l.record_size ≡ record_size_of s
  size_as = ap (λ (m : Layout). m.record_size) e

  -- the number that stands j bytes into the header
  pub number_as : (j : ℕ) → u16_at s (l.header + j) ≡ u16_at s (header_start s + j)
  number_as j = ap (λ (h : ℕ). u16_at s (h + j)) header_as

  pub start_as : (k : ℕ) → l.header + header_size + l.record_size * (k - 1) ≡ offset s k
  start_as k = ap (λ (m : Layout). m.header + header_size + m.record_size * (k - 1)) e

  -- the test of the length
  wrong_as : length_wrong s ≡
      either (ltb (length s) (l.header + header_size))
      (either (ltb max_records (u16_at s (l.header + 2))) (not (eqb (length s) (l.header + header_size + l.record_size * u16_at s (l.header + 2)))))
  unfolding length_wrong
  wrong_as =
      ap (λ (m : Layout).
      either (ltb (length s) (m.header + header_size))
      (either (ltb max_records (u16_at s (m.header + 2))) (not (eqb (length s) (m.header + header_size + m.record_size * u16_at s (m.header + 2)))))) (sym e)

-- ---- each edition in figures (rule 1.12)
pub edition_1_layout : (file : List ℕ) → (u16_at file 0 ≡ 65535 → ⊥) → Edition1 file
edition_1_layout file other =
    let one : is_edition2 file ≡ false = ne_eqb (u16_at file 0) marker other in
    let e : layout1 ≡ layout_of file = sym (edition1 file one) in
    record {
      first = ap (u16_at file) (start_1 file one);
      count = sym (number_as file e 2);
      area = sym (number_as file e 4);
      bend = sym (number_as file e 6);
      records = λ k. sym (start_as file e k);
      normals = λ at. normal_1 file at one;
      number_1 = wrong_as file e;
    }

pub edition_2_layout : (file : List ℕ) → u16_at file 0 ≡ 65535 → Edition2 file
edition_2_layout file marked =
    let two : is_edition2 file ≡ true = eq-eqb (u16_at file 0) marker marked in
    let e : layout2 ≡ layout_of file = sym (edition2 file two) in
    record {
      first = ap (u16_at file) (start_2 file two);
      count = sym (number_as file e 2);
      area = sym (number_as file e 4);
      bend = sym (number_as file e 6);
      records = λ k. sym (start_as file e k);
      normals = λ at. normal_2 file at two;
      number_1 = wrong_as file e;
    }
