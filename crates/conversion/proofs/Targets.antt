-- The layout that a file is carried to, and the converted file in it. Assumes nothing.
use mathlib.Core.Path.{◌≡◌, refl, sym, ap, subst, ◌∙◌}
use mathlib.Core.Bool.{Bool, true, false, cond}
use mathlib.Core.List.{List, ◌++◌}
use Prim.Native.Nat.{ℕ, suc, ◌+◌, ◌-◌, ◌*◌, ◌≤◌}
use native.Mathlib.Omega.{arith}
use lib.ListN.{length, replicate, length-append, length-replicate}
use lib.Seq.{sets}
use lib.Dec.{eqb}
use Rattle.lists.specs.Lists.{over}
use Rattle.lists.proofs.Choice.{yes, no}
use Rattle.rim_file.specs.declared.Layout.{Layout}
use Rattle.rim_file.specs.File.{is_edition2, marker_size, header_size, record_size1, record_size2, layout1, layout2, layout_of, header_start, record_count}
use Rattle.rim_file.proofs.Layouts.{edition1, edition2, layout_is}
use Rattle.rim_file.proofs.Lengths.{Whole}
use Rattle.conversion.specs.Converted.{bytes_at, header_bytes, record_bytes, laid_out, marker_byte, converted, other_edition, target_edition}
use Rattle.conversion.specs.Steps.{other, target_of, ending_in, in_layout}
use Rattle.conversion.specs.declared.Target.{Target}
use Rattle.rim_file.specs.File.{edition_of, edition_number, layout_in}
use Rattle.rim_file.specs.declared.edition.Edition.{Edition}
use Rattle.rim_file.specs.declared.edition.Edition.TheVariants.{One, Two}
use Rattle.conversion.proofs.Storing.{stores_then}
use Rattle.conversion.proofs.Records.{header_length, pieces}

-- ---- the two layouts
pub record Bounds (l : Layout) : Type 0 where
  pub header : l.header ≤ marker_size
  pub least : record_size1 ≤ l.record_size
  pub most : l.record_size ≤ record_size2

pub edition_bounds : (e : Edition) → Bounds (layout_in e)
edition_bounds One = record { header = omega arith; least = omega arith; most = omega arith }
edition_bounds Two = record { header = omega arith; least = omega arith; most = omega arith }

-- of an edition's layout the target is the other edition with its own layout
pub target_of_edition : (e : Edition) → target_of (layout_in e) ≡ record { edition = other e; layout = layout_in (other e) }
target_of_edition One = refl
target_of_edition Two = refl

pub target_bounds : (l : Layout) → Bounds (target_of l).layout
target_bounds l = by (eqb l.record_size record_size1)
  where
    by : (b : Bool) → Bounds (cond {A = Target} b (record { edition = Two; layout = layout2 }) (record { edition = One; layout = layout1 })).layout
    by true = record { header = omega arith; least = omega arith; most = omega arith }
    by false = record { header = omega arith; least = omega arith; most = omega arith }

-- the number of the edition that a file is carried to
pub target_number : (s : List ℕ) → edition_number (target_edition s) ≡ other_edition s
target_number s = by (is_edition2 s)
  where
    by : (b : Bool) → edition_number (cond b One Two) ≡ cond b 1 2
    by true = refl
    by false = refl

-- ---- the file in them
module _ (s : List ℕ) where
  -- the target of the file's own layout, with the converted file in it
  pub record Carried (t : Target) : Type 0 where
    pub edition : t.edition ≡ target_edition s
    pub number : edition_number t.edition ≡ other_edition s
    pub bounds : Bounds t.layout
    pub bytes : in_layout t.layout s ≡ converted s

  pub carried : {t : Target} → t ≡ target_of (layout_of s) → Carried t
  unfolding converted
  carried {t} e = by (is_edition2 s) refl
    where
      bounded : Bounds t.layout
      bounded = subst (λ (u : Target). Bounds u.layout) (sym e) (target_bounds (layout_of s))

      by : (b : Bool) → is_edition2 s ≡ b → Carried t
      by true d =
          let is : t ≡ record { edition = One; layout = layout1 } = e ∙ ap target_of (edition2 s d) in
          let named = ap (λ (x : Target). x.edition) is ∙ sym (yes One Two d) in
          record {
            edition = named;
            number = ap edition_number named ∙ target_number s;
            bounds = bounded;
            bytes = ap (λ (x : Target). in_layout x.layout s) is ∙ sym (yes _ _ d);
          }
      by false d =
          let is : t ≡ record { edition = Two; layout = layout2 } = e ∙ ap target_of (edition1 s d) in
          let named = ap (λ (x : Target). x.edition) is ∙ sym (no One Two d) in
          record {
            edition = named;
            number = ap edition_number named ∙ target_number s;
            bounds = bounded;
            bytes = ap (λ (x : Target). in_layout x.layout s) is ∙ sym (no _ _ d);
          }

  -- and that of the file's edition
  pub carried_by_name : {e : Edition} → e ≡ other (edition_of s) → Carried (record { edition = e; layout = layout_in e })
  carried_by_name h =
      carried (ap (λ (x : Edition). record { edition = x; layout = layout_in x }) h
      ∙ sym (target_of_edition (edition_of s))
      ∙ ap target_of (layout_is s refl))

  module _ (w : Whole s) where
    -- its length, with any opening and ending, and in a layout
    pub laid_length : (opening ending : List ℕ) →
        length (laid_out opening ending s) ≡ length opening + header_size + (record_size1 + length ending) * record_count s
    laid_length opening ending =
        let records = over 1 (suc (record_count s)) (λ k. record_bytes s k ++ ending) in
        let count : suc (record_count s) - 1 ≡ record_count s = omega arith in
        omega (
          arith,
          length-append (opening ++ header_bytes s) records,
          length-append opening (header_bytes s),
          header_length s w,
          pieces s w ending (suc (record_count s)) (omega arith) ∙ ap (λ (k : ℕ). (record_size1 + length ending) * k) count,
        )

    pub layout_length : (l : Layout) → Bounds l → length (in_layout l s) ≡ l.header + header_size + l.record_size * record_count s
    layout_length l b =
        let opening : length (replicate l.header marker_byte) ≡ l.header = length-replicate l.header marker_byte in
        let ending : record_size1 + length (ending_in l) ≡ l.record_size =
        omega (arith, b.least, length-replicate {A = ℕ} (l.record_size - record_size1) 0) in
        laid_length (replicate l.header marker_byte) (ending_in l) ∙ (λ i. opening i + header_size + ending i * record_count s)

    -- opening, header and records stored one after the other
    pub file_stored : (d : List ℕ) (l : Layout) {o o' o'' : List ℕ} {at : ℕ} →
        o ≡ sets d 0 (replicate l.header marker_byte) → at ≡ header_start s → o' ≡ sets o l.header (bytes_at s at header_size) →
        o'' ≡ sets o' (l.header + header_size) (over 1 (suc (record_count s)) (λ k. record_bytes s k ++ ending_in l)) →
        o'' ≡ sets d 0 (in_layout l s)
    file_stored d l {o} opened at-is headed written =
        let opening : List ℕ = replicate l.header marker_byte in
        let records = over 1 (suc (record_count s)) (λ k. record_bytes s k ++ ending_in l) in
        let size = length-replicate l.header marker_byte in
        written
        ∙ ap (λ (x : List ℕ). sets x (l.header + header_size) records)
        (headed ∙ (λ i. sets (opened i) l.header (bytes_at s (at-is i) header_size)) ∙ stores_then opening (header_bytes s) d 0 l.header (omega arith))
        ∙ stores_then (opening ++ header_bytes s) records d 0 (l.header + header_size)
        (omega (arith, length-append opening (header_bytes s), header_length s w))
