-- The numbers of a conversion (rules 4.30, 4.33, 4.35): of those due on a file and its output table one is the first, or none is due; the call gives exactly
-- that number and changes no place, and hands the converted file over exactly where none is due. Assumes nothing.
use mathlib.Core.Path.{◌≡◌, refl, sym, ap, ◌∙◌}
use mathlib.Core.Bool.{true, not}
use mathlib.Core.List.{List}
use mathlib.Core.Logic.{◌⊎◌}
use Prim.Native.Nat.{ℕ, zero, suc, ◌≤◌, ◌<◌}
use native.Mathlib.Omega.{arith}
use borrow.Author.Tests.{ltb-true, ltb-false}
use lib.Dec.{ltb}
use lib.ListN.{length}
use Rattle.codes.specs.Refusals.{refusal}
use Rattle.std.specs.Prelude.{Ok, Err}
use Rattle.codes.specs.Refusals.{number_of}
use Rattle.lists.specs.Lists.{filled}
use Rattle.lists.proofs.Choice.{Truth, holds, fails, truth, yes, no, true_not_false, not_true_false, not_false_true}
use Rattle.lists.proofs.Ranges.{some_here, Found, some_found}
use Rattle.polygon.specs.Normal.{no_normal, is_none}
use Rattle.terms.specs.Numbers.{first_due}
use Rattle.polygon.specs.declared.normal.Normal.{Normal}
use Rattle.polygon.proofs.Normals.{none_is}
use Rattle.terms.specs.Limits.{max_vertices}
use Rattle.rim_file.specs.File.{is_edition2, record_count, offset}
use Rattle.rim_file.specs.Record.{held_normal, normal_in}
use Rattle.rim_file.proofs.Layouts.{record_within}
use Rattle.rim_file.proofs.Lengths.{whole}
use Rattle.rim_file.proofs.Normals.{normal_1, normal_2}
use Rattle.reader.specs.Order.{FilePlace, rim, Precedes, by_place, by_number, First, NoneDue}
use Rattle.reader.specs.Due.{InFile, FileDue, too_few, vertex_repeated}
use Rattle.reader.specs.Reading as reader
use Rattle.reader.proofs.Order.{none_first, Verdict, first_due_lem, none_due, verdict_either, verdict_first, verdict_given, verdict_zero, verdict_none}
use Rattle.reader.proofs.FirstNumber.{number_first, no_number_read, read_none}
use Rattle.conversion.specs.Converted.{converted, normal_lost}
use Rattle.converter.specs.Call.{conversion_number, number_due, Converting, converting, converted_to, convert_by, convert_call}
use Rattle.converter.specs.Due.{ConvertDue, by_reader, thirteen, nineteen}
use Rattle.converter.proofs.Answers.{right_length}

-- ---- 19, as a test and as a statement
module _ (file out : List ℕ) where
  pub lost_due : reader.number_due max_vertices file ≡ 0 → normal_lost file ≡ true → ConvertDue file out rim 19
  unfolding normal_lost
  lost_due e lost = due (some_found 1 (suc (record_count file)) (λ k. not (is_none (normal_in file (offset file k)))) lost)
    where
      due : Found 1 (suc (record_count file)) (λ k. not (is_none (normal_in file (offset file k)))) → ConvertDue file out rim 19
      due f = nineteen f.at in_file two (λ n. some (normal_2 file (offset file f.at) two ∙ n))
        where
          in_file : InFile file f.at
          in_file = record {
            numbered = omega (arith, f.low);
            counted = omega (arith, f.high);
            bytes = record_within file f.at (omega (arith, f.low)) (omega (arith, f.high)) (whole file (right_length max_vertices file e)).records;
          }

          some : normal_in file (offset file f.at) ≡ no_normal → ⊥
          some n = true_not_false f.true_at (ap (λ (q : Normal). not (is_none q)) n)

          two : is_edition2 file ≡ true
          two = not_false_true (is_edition2 file) (λ one. some (normal_1 file (offset file f.at) one))

  pub due_lost : (k : ℕ) → InFile file k → is_edition2 file ≡ true → (held_normal file (offset file k) ≡ no_normal → ⊥) → normal_lost file ≡ true
  unfolding normal_lost
  due_lost k in_file two some =
      some_here 1 (suc (record_count file)) (λ k. not (is_none (normal_in file (offset file k)))) k
      (omega (arith, in_file.numbered)) (omega (arith, in_file.counted))
      (ap not (not_true_false (is_none (normal_in file (offset file k)))
      (λ t. some (sym (normal_2 file (offset file k) two) ∙ none_is (normal_in file (offset file k)) t))))

-- ---- the reader's numbers come first
module _ (file out : List ℕ) where
  rim_most : (n : ℕ) → FileDue max_vertices file rim n → n ≤ 11
  rim_most _ (too_few i has e l) = omega arith
  rim_most _ (vertex_repeated i j p l has a b) = omega arith

  later : (q : FilePlace) (n j : ℕ) → FileDue max_vertices file q n → Precedes rim j q n → 11 < j → ⊥
  later _ n j d (by_number l) h = omega (arith, rim_most n d)
  later q n j d (by_place x10) h = elim x10 [ ]

  reader_first : (k : ℕ) → First (FileDue max_vertices file) (suc k) → First (ConvertDue file out) (suc k)
  reader_first k f = record { place = f.place; is_due = by_reader f.is_due; none_before = before }
    where
      before : (p : FilePlace) (j : ℕ) → Precedes p j f.place (suc k) → ConvertDue file out p j → ⊥
      before p j h (by_reader d) = f.none_before p j h d
      before _ _ h (thirteen right short) = later f.place (suc k) 13 f.is_due h (omega arith)
      before _ _ h (nineteen i in_file two some) = later f.place (suc k) 19 f.is_due h (omega arith)

  -- ---- a file that is read
  abbrev Decided : Type 0
  Decided = Verdict (ConvertDue file out) (number_due file out)

  module _ (e : reader.number_due max_vertices file ≡ 0) where
    no_reader : (p : FilePlace) (k : ℕ) → FileDue max_vertices file p k → ⊥
    no_reader p k d = (read_none max_vertices file (no_number_read max_vertices file e)).none p k d

    number_is : number_due file out ≡ conversion_number file out
    number_is = ap (λ (k : ℕ). first_due k (conversion_number file out)) e

    decided : Truth (ltb (length out) (length (converted file))) → Truth (normal_lost file) → Decided
    decided (holds a) b =
        first_due_lem 12 (record {
          place = rim;
          is_due = thirteen (right_length max_vertices file e) (ltb-true (length out) (length (converted file)) a);
          none_before = before;
        })
        (number_is ∙ yes _ _ a)
      where
        before : (p : FilePlace) (j : ℕ) → Precedes p j rim 13 → ConvertDue file out p j → ⊥
        before p j h (by_reader d) = no_reader p j d
        before _ _ (by_number l) (thirteen right short) = omega arith
        before _ _ (by_number l) (nineteen k in_file two some) = omega arith
        before _ _ (by_place x8) (thirteen right short) = elim x8 [ ]
        before _ _ (by_place x9) (nineteen k in_file two some) = elim x9 [ ]
    decided (fails a) (holds b) =
        first_due_lem 18 (record { place = rim; is_due = lost_due file out e b; none_before = before })
        (number_is ∙ no _ _ a ∙ yes _ _ b)
      where
        before : (p : FilePlace) (j : ℕ) → Precedes p j rim 19 → ConvertDue file out p j → ⊥
        before p j h (by_reader d) = no_reader p j d
        before p j h (thirteen right short) = omega (arith, ltb-false (length out) (length (converted file)) a)
        before _ _ (by_number l) (nineteen k in_file two some) = omega arith
        before _ _ (by_place x9) (nineteen k in_file two some) = elim x9 [ ]
    decided (fails a) (fails b) =
        none_due (record { none = nothing })
        (number_is ∙ no _ _ a ∙ no _ _ b)
      where
        nothing : (p : FilePlace) (k : ℕ) → ConvertDue file out p k → ⊥
        nothing p k (by_reader d) = no_reader p k d
        nothing p k (thirteen right short) = omega (arith, ltb-false (length out) (length (converted file)) a)
        nothing p k (nineteen i in_file two some) = true_not_false (due_lost file out i in_file two some) b

  verdict : Decided
  verdict = by (reader.number_due max_vertices file) refl
    where
      by : (k : ℕ) → reader.number_due max_vertices file ≡ k → Decided
      by zero e = decided e (truth (ltb (length out) (length (converted file)))) (truth (normal_lost file))
      by (suc k) e =
          first_due_lem k (reader_first k (number_first max_vertices file k e))
          (ap (λ (j : ℕ). first_due j (conversion_number file out)) e)

  -- ---- the call
  pub call_by : (k : ℕ) → number_due file out ≡ k → convert_call file out ≡ convert_by k file out
  unfolding convert_call
  call_by k e = ap (λ (n : ℕ). convert_by n file out) e

  number_of_lem : (k : ℕ) → number_of (convert_by k file out).answer ≡ k
  number_of_lem zero = refl
  number_of_lem (suc k) = refl

  -- the number of the answer is that of the tests
  pub number_given : number_of (convert_call file out).answer ≡ number_due file out
  number_given = ap (λ (c : Converting). number_of c.answer) (call_by (number_due file out) refl) ∙ number_of_lem (number_due file out)

  -- one number is the first that is due, or none is due
  pub first_or_none : ((k : ℕ) × First (ConvertDue file out) k) ⊎ NoneDue (ConvertDue file out)
  first_or_none = verdict_either verdict

  -- the first number due is given, and the output table holds what it held
  pub refused_first : (k : ℕ) → First (ConvertDue file out) k → convert_call file out ≡ converting (Err (refusal k)) out
  refused_first zero f = absurd (none_first (verdict_none verdict (verdict_first verdict f)) f)
  refused_first (suc k) f = call_by (suc k) (verdict_first verdict f)

  -- and a number that is given is the first that is due
  pub given_first : (k : ℕ) → number_of (convert_call file out).answer ≡ suc k → First (ConvertDue file out) (suc k)
  given_first k e = verdict_given verdict (sym number_given ∙ e)

  -- the file is converted exactly when no number is due
  pub converted_when : NoneDue (ConvertDue file out) →
      convert_call file out ≡ converting (Ok (converted_to file)) (filled (converted file) out)
  converted_when none = call_by 0 (verdict_zero verdict none)

  pub converted_only_when : number_of (convert_call file out).answer ≡ 0 → NoneDue (ConvertDue file out)
  converted_only_when e = verdict_none verdict (sym number_given ∙ e)
