-- Where rows that ascend turn from those before a pair to the others. Assumes nothing.
use Prim.Native.Nat.{ℕ, zero, suc, ◌+◌, ◌≤◌, ◌<◌}
use mathlib.Core.Path.{◌≡◌, refl, sym, ap, ◌∙◌}
use mathlib.Core.Bool.{Bool, true, false, cond}
use mathlib.Core.Logic.{◌⊎◌, inl, inr, ⊎_elim, ◌≢◌}
use mathlib.Core.List.{List, [], ◌∷◌}
use native.Mathlib.Omega.{arith}
use native.Mathlib.Nat.{eq-or-lt_of_le}
use lib.ListN.{length, drop, get_or, length-drop}
use lib.Seq.{drop-cons, drop-length, get_or-drop}
use lib.Dec.{eqb, ltb}
use borrow.Author.Tests.{eqb-true, eqb-false, eq-eqb, ltb-true, ltb-false, lt-ltb}
use Rattle.lists.specs.Lists.{both, either}
use Rattle.terms.specs.Entries.{entry_at, outer, inner, row_weight, lexicographic}
use Rattle.lists.proofs.Choice.{no, not_true_false, true_not_false}
use Rattle.lists.proofs.Fronts.{front_count, front_of}
use Rattle.triangulation.specs.Problems.{pair_weight}
use Rattle.rows.specs.Search.{RowsAscend, row_is_before, row_or_zero, rows_before}

-- (x, y) is before (o, i), or is not
pub before_true : (x y o i : ℕ) → lexicographic x o (ltb y i) ≡ true → (x < o) ⊎ ((x ≡ o) × (y < i))
before_true x y o i t = go (ltb x o) (eqb x o) refl refl t
  where
    go : (p q : Bool) → ltb x o ≡ p → eqb x o ≡ q → either p (both q (ltb y i)) ≡ true → (x < o) ⊎ ((x ≡ o) × (y < i))
    go true q e f t = inl (ltb-true x o e)
    go false true e f t = inr (eqb-true x o f, ltb-true y i t)
    go false false e f t = absurd (true_not_false t refl)

pub before_false : (x y o i : ℕ) → lexicographic x o (ltb y i) ≡ false → (o < x) ⊎ ((x ≡ o) × (i ≤ y))
before_false x y o i t = go (ltb x o) (eqb x o) refl refl t
  where
    go : (p q : Bool) → ltb x o ≡ p → eqb x o ≡ q → either p (both q (ltb y i)) ≡ false → (o < x) ⊎ ((x ≡ o) × (i ≤ y))
    go true q e f t = absurd (true_not_false refl t)
    go false true e f t = inr (eqb-true x o f, ltb-false y i t)
    go false false e f t = let h : o ≤ x = ltb-false x o e in let d : x ≢ o = eqb-false x o f in inl (omega arith)

pub is_before : (x y o i : ℕ) → (x < o) ⊎ ((x ≡ o) × (y < i)) → lexicographic x o (ltb y i) ≡ true
is_before x y o i (inl h) = ap (λ b. either b (both (eqb x o) (ltb y i))) (lt-ltb x o h)
is_before x y o i (inr h) = go (ltb x o) (eq-eqb x o h.0) (lt-ltb y i h.1)
  where
    go : (p : Bool) {q r : Bool} → q ≡ true → r ≡ true → either p (both q r) ≡ true
    go true e f = refl
    go false e f = rw (e, f)

pub names_false : (x y o i : ℕ) → (x ≡ o → y ≡ i → ⊥) → both (eqb x o) (eqb y i) ≡ false
names_false x y o i h = go (eqb x o) (eqb y i) refl refl
  where
    go : (p q : Bool) → eqb x o ≡ p → eqb y i ≡ q → both p q ≡ false
    go true true e f = absurd (h (eqb-true x o e) (eqb-true y i f))
    go true false e f = refl
    go false q e f = refl

-- the rows before `low` are before (o, i), those from `high` on are not
pub record Cut (rows : List (List ℕ)) (o i low high : ℕ) : Type 0 where
  pub order : low ≤ high
  pub within : high ≤ length rows
  pub left : (k : ℕ) → k < low → row_is_before (entry_at rows k) o i ≡ true
  pub right : (k : ℕ) → high ≤ k → k < length rows → row_is_before (entry_at rows k) o i ≡ false

module _ (o i : ℕ) where
  -- rows that are not (o, i) are passed over
  pub skip : (rows : List (List ℕ)) (low : ℕ) → ((k : ℕ) → k < low → both (eqb (outer (entry_at rows k)) o) (eqb (inner (entry_at rows k)) i) ≡ false)
      → pair_weight rows o i ≡ pair_weight (drop low rows) o i
  skip rows zero h = refl
  skip [] (suc low) h = refl
  skip (r ∷ rows) (suc low) h = no _ _ (h 0 (omega arith)) ∙ skip rows low (λ k l. h (suc k) (omega arith))

  pub none : (rows : List (List ℕ)) →
      ((k : ℕ) → k < length rows → both (eqb (outer (entry_at rows k)) o) (eqb (inner (entry_at rows k)) i) ≡ false) → pair_weight rows o i ≡ 0
  none rows h = skip rows (length rows) h ∙ ap (λ r. pair_weight r o i) (drop-length rows)

  module _ (rows : List (List ℕ)) where
    outer_at : ℕ → ℕ
    outer_at k = outer (entry_at rows k)

    inner_at : ℕ → ℕ
    inner_at k = inner (entry_at rows k)

    module _ (sorted : RowsAscend rows) where
      pub before_trans : (k l : ℕ) → k < l → l < length rows → row_is_before (get_or rows l []) o i ≡ true → row_is_before (entry_at rows k) o i ≡ true
      unfolding outer_at inner_at
      before_trans k l h m e = is_before (outer_at k) (inner_at k) o i
          (go (before_true (outer_at k) (inner_at k) (outer_at l) (inner_at l) (sorted.up k l h m)) (before_true (outer_at l) (inner_at l) o i e))
        where
          go : (outer_at k < outer_at l) ⊎ ((outer_at k ≡ outer_at l) × (inner_at k < inner_at l)) → (outer_at l < o) ⊎ ((outer_at l ≡ o) × (inner_at l < i)) →
              (outer_at k < o) ⊎ ((outer_at k ≡ o) × (inner_at k < i))
          go (inl a) (inl b) = inl (omega arith)
          go (inl a) (inr b) = inl (omega arith)
          go (inr a) (inl b) = inl (omega arith)
          go (inr a) (inr b) = inr (a.0 ∙ b.0, omega arith)

      pub cut_down : {low high : ℕ} (middle : ℕ) → Cut rows o i low high → low ≤ middle → middle < high →
          row_is_before (get_or rows middle []) o i ≡ false → Cut rows o i low middle
      cut_down middle c h l e = record {
        order = h;
        within = omega (arith, c.within);
        left = c.left;
        right = λ k m n. ⊎_elim (λ q. rw (← q) e) (λ q. not_true_false _ (λ t. true_not_false (before_trans middle k q n t) e)) (eq-or-lt_of_le m);
      }

      before_names : (k : ℕ) → row_is_before (entry_at rows k) o i ≡ true → both (eqb (outer_at k) o) (eqb (inner_at k) i) ≡ false
      unfolding outer_at inner_at
      before_names k e =
          names_false (outer_at k) (inner_at k) o i (λ p q. ⊎_elim (λ h. omega arith) (λ h. omega arith) (before_true (outer_at k) (inner_at k) o i e))

      pub cut_end : {low high : ℕ} → Cut rows o i low high → high ≤ low → low < length rows → row_or_zero (entry_at rows low) o i ≡ pair_weight rows o i
      unfolding outer_at inner_at
      cut_end {low} {high} c h l = sym (
          skip rows low (λ k m. before_names k (c.left k m))
          ∙ ap (λ r. pair_weight r o i) (drop-cons rows low [] l)
          ∙ ap (cond (both (eqb (outer_at low) o) (eqb (inner_at low) i)) (row_weight (entry_at rows low))) (none (drop (suc low) rows) after))
        where
          later : (k : ℕ) → low < k → k < length rows → both (eqb (outer_at k) o) (eqb (inner_at k) i) ≡ false
          later k a b =
              names_false (outer_at k) (inner_at k) o i
              (λ p q. go p q (before_true (outer_at low) (inner_at low) (outer_at k) (inner_at k) (sorted.up low k a b))
              (before_false (outer_at low) (inner_at low) o i (c.right low h l)))
            where
              go : outer_at k ≡ o → inner_at k ≡ i → (outer_at low < outer_at k) ⊎ ((outer_at low ≡ outer_at k) × (inner_at low < inner_at k)) →
                  (o < outer_at low) ⊎ ((outer_at low ≡ o) × (i ≤ inner_at low)) → ⊥
              go p q (inl u) (inl v) = omega arith
              go p q (inl u) (inr v) = omega arith
              go p q (inr u) (inl v) = omega arith
              go p q (inr u) (inr v) = omega arith

          after : (k : ℕ) → k < length (drop (suc low) rows) →
              both (eqb (get_or (get_or (drop (suc low) rows) k []) 0 0) o) (eqb (get_or (get_or (drop (suc low) rows) k []) 1 0) i) ≡ false
          after k m = rw (get_or-drop (suc low) rows k []) (later (suc low + k) (omega arith) (omega (arith, length-drop (suc low) rows)))

      -- where the two ends meet, as many rows are before (o, i)
      pub cut_count : {low high : ℕ} → Cut rows o i low high → high ≤ low → low ≡ rows_before rows o i
      cut_count c h = front_count (record { within = omega (arith, c.order, c.within); before = c.left; after = λ k m n. c.right k (omega arith) n })

      pub cut_of : {low : ℕ} → low ≡ rows_before rows o i → Cut rows o i low low
      cut_of e = let f = front_of (length rows) before_trans in rw e (record { order = omega arith; within = f.within; left = f.before; right = f.after })

      pub cut_out : {low high : ℕ} → Cut rows o i low high → length rows ≤ low → 0 ≡ pair_weight rows o i
      unfolding outer_at inner_at
      cut_out c h = sym (none rows (λ k m. before_names k (c.left k (omega arith))))
