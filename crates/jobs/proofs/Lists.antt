-- What each test of a direct job says of its lists where it holds. Assumes nothing.
use mathlib.Core.Path.{◌≡◌}
use mathlib.Core.Bool.{Bool, true}
use mathlib.Core.List.{List}
use mathlib.Core.Logic.{⊎_elim}
use Prim.Native.Nat.{ℕ, ◌-◌, ◌≤◌, ◌<◌}
use native.Mathlib.Omega.{arith}
use lib.ListN.{length, get_or}
use lib.Dec.{eqb, ltb, leb}
use borrow.Author.Tests.{ltb-true, lt-ltb, leb-true, eqb-true}
use Rattle.lists.specs.Lists.{both, either}
use Rattle.lists.proofs.Choice.{both_left, both_right, both_true, either_cases}
use Rattle.lists.proofs.Ranges.{every_at}
use Rattle.terms.specs.Limits.{max_weight}
use Rattle.terms.specs.Entries.{entry_at, vertex_a, vertex_b, vertex_c, outer, inner, row_weight, before, hangs, row_before}
use Rattle.jobs.specs.Job.{ascends, candidate_fits, candidates_fit, names_pair, row_fits, rows_fit, weights_fit, row_weights_fit}
use Rattle.jobs.proofs.Order.{Before, RowBefore, Hangs, before_true, before_trans, row_before_true, row_before_trans, hangs_true, true_hangs, in_order}

-- a < b < c < n
pub record Ordered (n : ℕ) (t : List ℕ) : Type 0 where
  pub a_b : vertex_a t < vertex_b t
  pub b_c : vertex_b t < vertex_c t
  pub c_n : vertex_c t < n

-- a row names two candidates, and its inner hangs on its outer
pub record Named (candidates : List (List ℕ)) (row : List ℕ) : Type 0 where
  pub outer_is : outer row < length candidates
  pub inner_is : inner row < length candidates
  pub hanging : Hangs (entry_at candidates (inner row)) (entry_at candidates (outer row))

-- every candidate is a < b < c < n, and the earlier of any two is before the later
pub record Candidates (n : ℕ) (candidates : List (List ℕ)) : Type 0 where
  pub ordered : (i : ℕ) → i < length candidates → Ordered n (entry_at candidates i)
  pub ascending : (i j : ℕ) → i < j → j < length candidates → Before (entry_at candidates i) (entry_at candidates j)

-- every row names a hanging pair, and the earlier of any two is before the later
pub record Rows (candidates rows : List (List ℕ)) : Type 0 where
  pub named : (i : ℕ) → i < length rows → Named candidates (entry_at rows i)
  pub ascending : (i j : ℕ) → i < j → j < length rows → RowBefore (entry_at rows i) (entry_at rows j)

-- no weight of a candidate or of a row is over the limit
pub record Weights (candidates : List (List ℕ)) (weights : List ℕ) (rows : List (List ℕ)) : Type 0 where
  pub own : (i : ℕ) → i < length candidates → get_or weights i 0 ≤ max_weight
  pub of_row : (i : ℕ) → i < length rows → row_weight (entry_at rows i) ≤ max_weight

-- ---- one entry
neighbour : (i : ℕ) (rest : Bool) → either (eqb i 0) rest ≡ true → 0 < i → rest ≡ true
neighbour i rest e h = ⊎_elim (λ z. absurd (omega (arith, eqb-true i 0 z))) (λ r. r) (either_cases (eqb i 0) rest e)

module _ (n : ℕ) (t : List ℕ) where
  pub ascends_true : ascends n (vertex_a t) (vertex_b t) (vertex_c t) ≡ true → Ordered n t
  unfolding ascends
  ascends_true e =
      let r = both_right (ltb (vertex_a t) (vertex_b t)) (both (ltb (vertex_b t) (vertex_c t)) (ltb (vertex_c t) n)) e in
      record {
        a_b = ltb-true (vertex_a t) (vertex_b t) (both_left (ltb (vertex_a t) (vertex_b t)) (both (ltb (vertex_b t) (vertex_c t)) (ltb (vertex_c t) n)) e);
        b_c = ltb-true (vertex_b t) (vertex_c t) (both_left (ltb (vertex_b t) (vertex_c t)) (ltb (vertex_c t) n) r);
        c_n = ltb-true (vertex_c t) n (both_right (ltb (vertex_b t) (vertex_c t)) (ltb (vertex_c t) n) r);
      }

  pub true_ascends : Ordered n t → ascends n (vertex_a t) (vertex_b t) (vertex_c t) ≡ true
  unfolding ascends
  true_ascends o = both_true (lt-ltb _ _ o.a_b) (both_true (lt-ltb _ _ o.b_c) (lt-ltb _ _ o.c_n))

module _ (candidates : List (List ℕ)) (row : List ℕ) where
  pub names_true : names_pair candidates (outer row) (inner row) ≡ true → Named candidates row
  unfolding names_pair
  names_true e =
      let o = ltb (outer row) (length candidates) in
      let i = ltb (inner row) (length candidates) in
      let h = hangs (entry_at candidates (inner row)) (entry_at candidates (outer row)) in
      let r = both_right o (both i h) e in
      record {
        outer_is = ltb-true _ _ (both_left o (both i h) e);
        inner_is = ltb-true _ _ (both_left i h r);
        hanging = hangs_true _ _ (both_right i h r);
      }

  pub true_names : Named candidates row → names_pair candidates (outer row) (inner row) ≡ true
  unfolding names_pair
  true_names m = both_true (lt-ltb _ _ m.outer_is) (both_true (lt-ltb _ _ m.inner_is) (true_hangs _ _ m.hanging))

-- ---- over the whole lists
module _ (n : ℕ) (candidates : List (List ℕ)) where
  abbrev own : ℕ → Bool
  own i = ascends n (vertex_a (entry_at candidates i)) (vertex_b (entry_at candidates i)) (vertex_c (entry_at candidates i))

  abbrev after : ℕ → Bool
  after i = before (entry_at candidates (i - 1)) (entry_at candidates i)

  pub candidates_true : candidates_fit n candidates ≡ true → Candidates n candidates
  unfolding candidate_fits
  candidates_true e =
      let at = every_at 0 (length candidates) (candidate_fits n candidates) e in
      record {
        ordered = λ i h. ascends_true n _ (both_left (own i) (either (eqb i 0) (after i)) (at i (omega arith) h));
        ascending = in_order (λ i j. Before (entry_at candidates i) (entry_at candidates j)) (λ i j k. before_trans) (length candidates)
            (λ i p h. before_true _ _ (neighbour i (after i) (both_right (own i) (either (eqb i 0) (after i)) (at i (omega arith) h)) p));
      }

module _ (candidates rows : List (List ℕ)) where
  abbrev pair : ℕ → Bool
  pair i = names_pair candidates (outer (entry_at rows i)) (inner (entry_at rows i))

  abbrev row_after : ℕ → Bool
  row_after i = row_before (entry_at rows (i - 1)) (entry_at rows i)

  pub rows_true : rows_fit candidates rows ≡ true → Rows candidates rows
  unfolding row_fits
  rows_true e =
      let at = every_at 0 (length rows) (row_fits candidates rows) e in
      record {
        named = λ i h. names_true candidates _ (both_left (pair i) (either (eqb i 0) (row_after i)) (at i (omega arith) h));
        ascending = in_order (λ i j. RowBefore (entry_at rows i) (entry_at rows j)) (λ i j k. row_before_trans) (length rows)
            (λ i p h. row_before_true _ _ (neighbour i (row_after i) (both_right (pair i) (either (eqb i 0) (row_after i)) (at i (omega arith) h)) p));
      }

module _ (candidates : List (List ℕ)) (weights : List ℕ) (rows : List (List ℕ)) where
  pub weights_true : both (weights_fit weights (length candidates)) (row_weights_fit rows) ≡ true → Weights candidates weights rows
  weights_true e = record {
    own = λ i h. leb-true _ _ (every_at 0 (length candidates) (λ i. leb (get_or weights i 0) max_weight)
        (both_left (weights_fit weights (length candidates)) (row_weights_fit rows) e) i (omega arith) h);
    of_row = λ i h. leb-true _ _ (every_at 0 (length rows) (λ i. leb (row_weight (entry_at rows i)) max_weight)
        (both_right (weights_fit weights (length candidates)) (row_weights_fit rows) e) i (omega arith) h);
  }
