-- The converter's answer from its tests. Assumes nothing.
use mathlib.Core.Path.{◌≡◌, refl, sym, ap, ◌∙◌}
use mathlib.Core.Bool.{Bool, true, false}
use mathlib.Core.List.{List}
use Prim.Native.Nat.{ℕ, zero, suc, ◌<◌}
use native.Mathlib.Omega.{arith}
use lib.ListN.{length}
use Rattle.codes.specs.declared.Refusal.{Refusal}
use Rattle.std.specs.Prelude.{Result, Ok, Err}
use Rattle.codes.specs.Refusals.{refusal, or_refused}
use Rattle.codes.proofs.Refusals.{none_answered, refused_answered}
use Rattle.lists.specs.Lists.{filled}
use Rattle.terms.specs.Numbers.{first_due}
use Rattle.terms.specs.Limits.{max_vertices}
use Rattle.rim_file.specs.File.{length_wrong}
use Rattle.reader.specs.Reading.{polygon_of, reading_of}
use Rattle.polygon.specs.declared.Polygon.{Polygon}
use Rattle.reader.specs.Reading as reader
use Rattle.reader.proofs.FirstNumber.{no_number_read}
use Rattle.rim_file.specs.declared.edition.Edition.{Edition}
use Rattle.conversion.specs.Converted.{converted, target_edition}
use Rattle.converter.specs.Call.{conversion_code, conversion_number, converting, convert_by, convert_call}

-- 13 is not due where no number is
pub not_short : (short lost : Bool) → conversion_code short lost ≡ 0 → short ≡ false
not_short true lost e = absurd (omega (arith, e))
not_short false lost e = refl

pub not_lost : (short lost : Bool) → conversion_code short lost ≡ 0 → lost ≡ false
not_lost true lost e = absurd (omega (arith, e))
not_lost false true e = absurd (omega (arith, e))
not_lost false false e = refl

module _ (file out : List ℕ) where
  -- a number that is due, and none
  pub refused_by : (n : ℕ) {r : Refusal} → ◌≡◌ {A = Result (Unit {0}) Refusal} (Err r) (or_refused n tt) → converting (Err r) out ≡ convert_by n file out
  refused_by n {r} e = by n (refused_answered n tt e)
    where
      by : (n : ℕ) → (0 < n) × (r ≡ refusal n) → converting (Err r) out ≡ convert_by n file out
      by zero p = absurd (omega arith)
      by (suc k) p = ap (λ (x : Refusal). converting (Err x) out) p.1

  pub taken_by : {edition : Edition} {size n : ℕ} {left : List ℕ} → n ≡ 0 → edition ≡ target_edition file →
      size ≡ length (converted file) → left ≡ filled (converted file) out →
      converting (Ok (record { edition = edition; length = size })) left ≡ convert_by n file out
  taken_by z a b c =
      (λ i. converting (Ok (record { edition = a i; length = b i })) (c i)) ∙ sym (ap (λ (i : ℕ). convert_by i file out) z)

  -- the call, by the reader's answer
  pub call_refused : {r : Refusal} → Err r ≡ reading_of max_vertices file → converting (Err r) out ≡ convert_call file out
  unfolding convert_call
  call_refused {r} e = by (reader.number_due max_vertices file) (refused_answered (reader.number_due max_vertices file) (polygon_of file) e)
    where
      by : (n : ℕ) → (0 < n) × (r ≡ refusal n) → converting (Err r) out ≡ convert_by (first_due n (conversion_number file out)) file out
      by zero p = absurd (omega arith)
      by (suc j) p = ap (λ (x : Refusal). converting (Err x) out) p.1

  pub call_read : reader.number_due max_vertices file ≡ 0 → convert_by (conversion_number file out) file out ≡ convert_call file out
  unfolding convert_call
  call_read e = sym (ap (λ (i : ℕ). convert_by (first_due i (conversion_number file out)) file out) e)

-- a file that is read
pub read_zero : (limit : ℕ) (file : List ℕ) {p : Polygon} → Ok p ≡ reading_of limit file → reader.number_due limit file ≡ 0
read_zero limit file e = (none_answered (reader.number_due limit file) e).0

pub right_length : (limit : ℕ) (file : List ℕ) → reader.number_due limit file ≡ 0 → length_wrong file ≡ false
right_length limit file e = (no_number_read limit file e).right

-- the same with the converter's limit: the conclusion shows the one argument, so that `grind` finds it
pub right_read : (file : List ℕ) → reader.number_due max_vertices file ≡ 0 → length_wrong file ≡ false
right_read = right_length max_vertices
