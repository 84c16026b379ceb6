-- Demands 1 and 2 for the finder's call on a rim file (rules 4.30, 4.31, 4.33), whatever the limit: of the numbers due on a limit, a file and the three
-- tables one is the first, or none is due; the call gives exactly that number and changes no table, and where none is due it leaves the lists of the rim.
-- Assumes nothing.
use mathlib.Core.Path.{◌≡◌, refl, sym, ap, ◌∙◌, subst}
use mathlib.Core.List.{List}
use mathlib.Core.Logic.{◌⊎◌}
use Prim.Native.Nat.{ℕ, zero, suc}
use lib.ListN.{take}
use native.Mathlib.Omega.{arith}
use Rattle.codes.specs.Refusals.{refusal, number_of}
use Rattle.lists.specs.Lists.{up_from}
use Rattle.polygon.specs.declared.Polygon.{Polygon}
use Rattle.polygon.specs.Polygon.{empty_polygon}
use Rattle.rim_file.specs.File.{Bytes}
use Rattle.reader.specs.Order.{First, NoneDue}
use Rattle.reader.specs.Reading.{polygon_of}
use Rattle.reader.specs.Reading as reader
use Rattle.reader.proofs.Order.{none_first, Verdict, verdict_either, verdict_first, verdict_given, verdict_zero, verdict_none}
use Rattle.std.specs.Prelude.{Ok, Err}
use Rattle.finder.specs.Finding.{Found, counts, Finding, finding, short_tables, find_by}
use Rattle.finder.specs.Sizes.{places_of}
use Rattle.pipeline.specs.Finding.{find_file_number, find_file}
use Rattle.demands.specs.Demand1.{polygon_in}
use Rattle.demands.specs.Finding.{FindTooShort, few_candidates, few_weights, few_rows, FindFileDue}
use Rattle.demands.specs.Demand2.{TablesHold}
use Rattle.demands.specs.Quarters.{InQuarters}
use Rattle.demands.proofs.Finding.{short_true, true_short}
use Rattle.demands.proofs.FileNumbers.{polygon_is, polygon_valid, file_verdict, none_read}
use Rattle.demands.proofs.Tables.{filled_hold}
use Rattle.demands.proofs.Quarters.{in_quarters}

-- no table is too short for the polygon that stands for a file which the reader refuses
nothing_13 : {candidates rows : List (List ℕ)} {weights : List ℕ} → FindTooShort (places_of empty_polygon) candidates weights rows → ⊥
unfolding up_from
nothing_13 (few_candidates h) = omega arith
nothing_13 (few_weights h) = omega arith
nothing_13 (few_rows h) = omega arith

module _ (limit : ℕ) (file : List ℕ) (bytes : Bytes file) (candidates : List (List ℕ)) (weights : List ℕ) (rows : List (List ℕ)) where
  abbrev Short : Polygon → Type 0
  Short p = FindTooShort (places_of p) candidates weights rows

  verdict : Verdict (FindFileDue limit file candidates weights rows) (find_file_number limit file candidates weights rows)
  verdict =
      file_verdict limit file bytes Short (λ p. short_tables p candidates weights rows) (λ p. short_true p candidates weights rows)
      (λ p. true_short p candidates weights rows) nothing_13

  by_number : {k : ℕ} → find_file_number limit file candidates weights rows ≡ k →
      find_file limit file candidates weights rows ≡ find_by k (polygon_of file) candidates weights rows
  unfolding find_file
  by_number e = ap (λ (k : ℕ). find_by k (polygon_of file) candidates weights rows) e

  -- one number is the first that is due, or none is due
  pub first_or_none : ((k : ℕ) × First (FindFileDue limit file candidates weights rows) k) ⊎ NoneDue (FindFileDue limit file candidates weights rows)
  first_or_none = verdict_either verdict

  -- the first number due is given, and every lent table holds what it held
  pub refused_first : (k : ℕ) → First (FindFileDue limit file candidates weights rows) k →
      find_file limit file candidates weights rows ≡ finding (Err (refusal k)) candidates weights rows
  refused_first zero f = absurd (none_first (verdict_none verdict (verdict_first verdict f)) f)
  refused_first (suc k) f = by_number (verdict_first verdict f)

  -- and a number that is given is the first that is due
  pub given_first : (k : ℕ) → number_of (find_file limit file candidates weights rows).answer ≡ suc k →
      First (FindFileDue limit file candidates weights rows) (suc k)
  unfolding find_file
  given_first k h = verdict_given verdict (sym (number_is (find_file_number limit file candidates weights rows)) ∙ h)
    where
      number_is : (n : ℕ) → number_of (find_by n (polygon_of file) candidates weights rows).answer ≡ n
      number_is zero = refl
      number_is (suc n) = refl

  -- the lists are found only where no number is due
  pub found_only_when : (count row_count : ℕ) → (find_file limit file candidates weights rows).answer ≡ Ok (counts count row_count) →
      NoneDue (FindFileDue limit file candidates weights rows)
  found_only_when count row_count e = verdict_none verdict (by (find_file_number limit file candidates weights rows) refl)
    where
      by : (n : ℕ) → find_file_number limit file candidates weights rows ≡ n → find_file_number limit file candidates weights rows ≡ 0
      by zero d = d
      by (suc n) d =
          let q : ◌≡◌ {A = Found} (Err (refusal (suc n))) (Ok (counts count row_count)) = sym (ap (λ (x : Finding). x.answer) (by_number d)) ∙ e in
          absurd (let z : ◌≡◌ {A = ℕ} 0 1 = cc in omega arith)

  -- ---- a call on which no number is due
  module _ (none : NoneDue (FindFileDue limit file candidates weights rows)) where
    read : reader.number_due limit file ≡ 0
    read =
        none_read limit file bytes Short (λ p. short_tables p candidates weights rows) (λ p. short_true p candidates weights rows)
        (λ p. true_short p candidates weights rows) nothing_13 none

    call_is : find_file limit file candidates weights rows ≡ find_by 0 (polygon_in limit file) candidates weights rows
    call_is = by_number (verdict_zero verdict none) ∙ ap (λ (p : Polygon). find_by 0 p candidates weights rows) (sym (polygon_is limit file read))

    -- the lists are found
    pub found_when : (find_file limit file candidates weights rows).answer
        ≡ Ok (counts (places_of (polygon_in limit file)).candidates (places_of (polygon_in limit file)).rows)
    found_when = ap (λ (x : Finding). x.answer) call_is

    -- Demand 2: the tables hold the lists of the rim in their first places, and what they held in all others
    pub found_hold : TablesHold (polygon_in limit file) (places_of (polygon_in limit file)).candidates (places_of (polygon_in limit file)).rows
        candidates weights rows (find_file limit file candidates weights rows).candidates (find_file limit file candidates weights rows).weights
        (find_file limit file candidates weights rows).rows
    found_hold =
        subst (λ (x : Finding). TablesHold (polygon_in limit file) (places_of (polygon_in limit file)).candidates (places_of (polygon_in limit file)).rows
        candidates weights rows x.candidates x.weights x.rows) (sym call_is)
        (filled_hold (polygon_in limit file) (polygon_valid limit file read bytes) candidates weights rows)

    -- lengths in quarters, of these lists
    pub found_quarters : InQuarters (polygon_in limit file)
        (take (places_of (polygon_in limit file)).candidates (find_file limit file candidates weights rows).candidates)
        (take (places_of (polygon_in limit file)).candidates (find_file limit file candidates weights rows).weights)
        (take (places_of (polygon_in limit file)).rows (find_file limit file candidates weights rows).rows)
    found_quarters = in_quarters (polygon_in limit file) (polygon_valid limit file read bytes) found_hold.lists
