-- The chain from its first position: it stops at the first number due, or ends at a link 0. Assumes nothing.
use mathlib.Core.Path.{◌≡◌, refl, sym, ap, ◌∙◌}
use mathlib.Core.Bool.{Bool, true, false}
use mathlib.Core.List.{List}
use mathlib.Core.Logic.{⊎_elim}
use Prim.Native.Nat.{ℕ, zero, suc, ◌+◌, ◌≤◌, ◌<◌}
use native.Mathlib.Omega.{arith}
use borrow.Author.Tests.{ltb-true, ltb-false, eqb-true, eqb-false}
use lib.Dec.{ltb, eqb}
use Rattle.lists.proofs.Choice.{yes, no, below_or_same}
use Rattle.terms.specs.Limits.{max_vertices}
use Rattle.polygon.specs.Normal.{normal_in_range}
use Rattle.terms.specs.Numbers.{first_due}
use Rattle.rim_file.specs.Record.{number_of}
use Rattle.rim_file.proofs.Lengths.{Whole}
use Rattle.reader.specs.Chain.{vertex_at_position, normal_at_position, link_code, record_code, position_code, code_from, end_from, chain_code, vertex_count}
use Rattle.reader.specs.Chain as chain
use Rattle.reader.specs.Order.{link_to, at_record}
use Rattle.reader.specs.Due.{HasRecords, FileDue}
use Rattle.reader.proofs.Answers.{code_step, end_step, past_limit, Passed, passed}
use Rattle.reader.proofs.Walking.{positive}
use Rattle.reader.proofs.Positions.{link_quiet, record_quiet, Reached, link_due_reached, record_due_reached, shorter, given_link, given_record, passing}

-- position i is reached, and no number is given before it
record Clear (limit : ℕ) (s : List ℕ) (i : ℕ) : Type 0 where
  has : HasRecords s i
  quiet : (j : ℕ) → j < i → position_code limit s j ≡ 0

-- number c is given at a position, on the link that leads there or else on the record, and none before
pub data Stops (limit : ℕ) (s : List ℕ) (c : ℕ) : Type 0 where
  on_link : (i : ℕ) → link_code limit s i ≡ c → FileDue limit s (link_to i) c → ((j : ℕ) → j < i → position_code limit s j ≡ 0) → Stops limit s c
  on_record : (i : ℕ) → link_code limit s i ≡ 0 → record_code s i ≡ c → FileDue limit s (at_record i) c →
      ((j : ℕ) → j < i → position_code limit s j ≡ 0) → Stops limit s c

-- the link to position n is 0, and no number is given before
pub record Ends (limit : ℕ) (s : List ℕ) (n : ℕ) : Type 0 where
  pub has : HasRecords s n
  pub quiet : (j : ℕ) → j < n → position_code limit s j ≡ 0
  pub ended : chain.link s n ≡ 0

module _ (limit : ℕ) (small : limit ≤ max_vertices) (s : List ℕ) (whole : Whole s) where
  module _ (i : ℕ) (clear : Clear limit s i) where
    reached : eqb (chain.link s i) 0 ≡ false → Reached s i
    reached z = record { has = clear.has; goes_on = positive (chain.link s i) (eqb-false (chain.link s i) 0 z) }

    -- position i is not past the last that may be
    within : i ≤ limit
    within = by (ltb limit i) refl
      where
        by : (b : Bool) → ltb limit i ≡ b → i ≤ limit
        by true e = absurd (past_limit limit s limit (omega arith) (clear.quiet limit (ltb-true limit i e)))
        by false e = ltb-false limit i e

    onward : eqb (chain.link s i) 0 ≡ false → position_code limit s i ≡ 0 → Clear limit s (suc i)
    onward z e = record {
      has = (passing limit s whole i (reached z) e).on.next;
      quiet = λ j h. ⊎_elim (λ l. clear.quiet j l) (λ d. ap (λ (m : ℕ). position_code limit s m) d ∙ e) (below_or_same j i (omega arith));
    }

    stops_here : (c : ℕ) → eqb (chain.link s i) 0 ≡ false → position_code limit s i ≡ suc c → Stops limit s (suc c)
    unfolding position_code
    stops_here c z e = by (link_code limit s i) refl e
      where
        by : (k : ℕ) → link_code limit s i ≡ k → first_due k (record_code s i) ≡ suc c → Stops limit s (suc c)
        by zero l d = on_record i l d (given_record limit s whole i (reached z) c l d) clear.quiet
        by (suc k) l d = on_link i (l ∙ d) (given_link limit s whole i (reached z) c small within (l ∙ d)) clear.quiet

  -- a number of the chain
  stops_from : (i k c : ℕ) → i + k ≡ suc max_vertices → Clear limit s i → code_from limit s i k ≡ suc c → Stops limit s (suc c)
  unfolding code_from
  stops_from i zero c t clear e = absurd (omega (arith, e))
  stops_from i (suc k) c t clear e = by (eqb (chain.link s i) 0) (eqb (position_code limit s i) 0) refl refl (λ f. stops_from (suc i) k c (omega arith) f)
    where
      by : (z p : Bool) → eqb (chain.link s i) 0 ≡ z → eqb (position_code limit s i) 0 ≡ p →
          (Clear limit s (suc i) → code_from limit s (suc i) k ≡ suc c → Stops limit s (suc c)) → Stops limit s (suc c)
      by true p x y go = absurd (omega (arith, sym (yes 0 _ x) ∙ sym (code_step limit s i k) ∙ e))
      by false true x y go = go (onward i clear x (eqb-true (position_code limit s i) 0 y)) (sym (no 0 _ x ∙ yes _ _ y) ∙ sym (code_step limit s i k) ∙ e)
      by false false x y go = stops_here i clear c x (sym (no 0 _ x ∙ no _ _ y) ∙ sym (code_step limit s i k) ∙ e)

  -- none
  ends_from : (i k : ℕ) → i + k ≡ suc max_vertices → Clear limit s i → code_from limit s i k ≡ 0 → Ends limit s (end_from s i k)
  unfolding code_from end_from
  ends_from i zero t clear e = absurd (omega (arith, within i clear))
  ends_from i (suc k) t clear e = by (eqb (chain.link s i) 0) refl (λ f. ends_from (suc i) k (omega arith) f)
    where
      by : (b : Bool) → eqb (chain.link s i) 0 ≡ b → (Clear limit s (suc i) → code_from limit s (suc i) k ≡ 0 → Ends limit s (end_from s (suc i) k)) →
          Ends limit s (end_from s i (suc k))
      by true p go = rw (end_step s i k ∙ yes i _ p) (record { has = clear.has; quiet = clear.quiet; ended = eqb-true (chain.link s i) 0 p })
      by false p go =
          let here : Passed limit s i k = passed limit s i k e p in
          rw (end_step s i k ∙ no i _ p) (go (onward i clear p here.position) here.rest)

  start : Clear limit s 0
  start = record {
    has = record { has_header = whole.header; in_file = λ i h. absurd (omega arith); different = λ i j h l. absurd (omega arith) };
    quiet = λ j h. absurd (omega arith);
  }

  pub stops : (c : ℕ) → chain_code limit s ≡ suc c → Stops limit s (suc c)
  stops c e = stops_from 0 (suc max_vertices) c refl start e

  pub ends : chain_code limit s ≡ 0 → Ends limit s (vertex_count s)
  ends e = ends_from 0 (suc max_vertices) refl start e

-- where the chain ends with no number, none is due at a position
module _ (limit : ℕ) (s : List ℕ) (n : ℕ) (end : Ends limit s n) where
  -- a position that a link leads to stands before the end
  pub before_end : (i : ℕ) → Reached s i → i < n
  before_end i r = by (ltb i n) refl
    where
      by : (b : Bool) → ltb i n ≡ b → i < n
      by true e = ltb-true i n e
      by false e =
          ⊎_elim (λ l. absurd (omega (arith, (r.has.in_file n l).numbered, end.ended)))
          (λ d. absurd (omega (arith, r.goes_on, ap (λ (m : ℕ). chain.link s m) d, end.ended)))
          (below_or_same n i (ltb-false i n e))

  pub no_link : (i k : ℕ) → FileDue limit s (link_to i) k → ⊥
  no_link i k d = link_quiet limit s i k (end.quiet i (before_end i (link_due_reached s i k d))) d

  pub no_record : (i k : ℕ) → FileDue limit s (at_record i) k → ⊥
  no_record i k d = record_quiet limit s i k (end.quiet i (before_end i (record_due_reached s i k d))) d

  -- each record before the end has a vertex, and a normal in range
  reached_before : (i : ℕ) → i < n → Reached s i
  reached_before i h = record { has = shorter i (omega arith) end.has; goes_on = (end.has.in_file i h).numbered }

  pub no_number : Whole s → (i : ℕ) → i < n → number_of (vertex_at_position s i) ≡ 0
  no_number whole i h = (passing limit s whole i (reached_before i h) (end.quiet i h)).no_number

  pub ranged : Whole s → (i : ℕ) → i < n → normal_in_range (normal_at_position s i) ≡ true
  ranged whole i h = (passing limit s whole i (reached_before i h) (end.quiet i h)).ranged
