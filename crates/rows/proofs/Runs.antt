-- The rows of one outer are a run of the rows. Assumes nothing.
use Prim.Native.Nat.{ℕ, zero, suc, ◌+◌, ◌-◌, ◌≤◌, ◌<◌}
use mathlib.Core.Path.{◌≡◌, refl, sym, ap, ◌∙◌}
use mathlib.Core.Bool.{true, false, cond}
use mathlib.Core.Logic.{inl, ⊎_elim}
use mathlib.Core.List.{List, [], ◌∷◌}
use native.Mathlib.Omega.{arith}
use lib.ListN.{length, take, drop, get_or, length-drop}
use lib.Seq.{get_or-take, get_or-drop}
use Rattle.std.proofs.lemmas.List.{length-take}
use lib.Dec.{eqb}
use Rattle.std.specs.List.{prefix_len}
use Rattle.lists.specs.Lists.{both}
use Rattle.lists.proofs.Choice.{true_not_false}
use Rattle.lists.proofs.Points.{prefix_count}
use Rattle.terms.specs.Entries.{entry_at, outer, inner, row_weight}
use Rattle.triangulation.specs.Problems.{pair_weight}
use Rattle.rows.specs.Search.{RowsAscend, Run, row_is_before, rows_before}
use Rattle.rows.proofs.Bisection.{Cut, cut_of, before_trans, before_true, before_false, is_before, names_false, skip, none}

-- the rows of later outers do not matter
front : (o i m : ℕ) (rows : List (List ℕ))
    → ((k : ℕ) → m ≤ k → k < length rows → both (eqb (outer (entry_at rows k)) o) (eqb (inner (entry_at rows k)) i) ≡ false)
    → pair_weight (take m rows) o i ≡ pair_weight rows o i
front o i zero rows h = sym (none o i rows (λ k l. h k (omega arith) l))
front o i (suc m) [] h = refl
front o i (suc m) (r ∷ rows) h =
    ap (cond (both (eqb (outer r) o) (eqb (inner r) i)) (row_weight r)) (front o i m rows (λ k a b. h (suc k) (omega arith) (omega arith)))

module _ (rows : List (List ℕ)) (t k : ℕ) where
  -- a row is before (t, 0) where its outer is below t
  below : row_is_before (get_or rows k []) t 0 ≡ true → outer (entry_at rows k) < t
  below e = ⊎_elim (λ h. h) (λ h. absurd (omega arith)) (before_true (outer (entry_at rows k)) (inner (entry_at rows k)) t 0 e)

  above : row_is_before (get_or rows k []) t 0 ≡ false → t ≤ outer (entry_at rows k)
  above e = ⊎_elim (λ h. omega arith) (λ h. omega arith) (before_false (outer (entry_at rows k)) (inner (entry_at rows k)) t 0 e)

-- the rows that are before (t, 0) are before (t + 1, 0)
pub run_start : {rows : List (List ℕ)} {t start : ℕ} → Cut rows t 0 start start → Cut rows (t + 1) 0 start (length rows)
run_start {rows} {t} c = record {
  order = c.within;
  within = omega arith;
  left = λ k h. is_before (outer (entry_at rows k)) (inner (entry_at rows k)) (t + 1) 0 (inl (let l = below rows t k (c.left k h) in omega arith));
  right = λ k h l. absurd (omega arith);
}

-- so the run of t ends after as many rows as are before (t + 1, 0) from its start on
pub run_count : (rows : List (List ℕ)) (t start : ℕ) → RowsAscend rows → start ≡ rows_before rows t 0
    → start + prefix_len (λ r. row_is_before r (t + 1) 0) (drop start rows) ≡ rows_before rows (t + 1) 0
run_count rows t start sorted e =
    let c = cut_of t 0 rows sorted e in
    prefix_count (λ r. row_is_before r (t + 1) 0) rows [] start (run_start c).left (before_trans (t + 1) 0 rows sorted) c.within

-- a part of rows that ascend ascends
pub part_ascends : {rows : List (List ℕ)} (first n : ℕ) → RowsAscend rows → RowsAscend (take n (drop first rows))
part_ascends {rows} first n sorted = record {
  up = λ k l h m. let e = length-take n (drop first rows) in let f = length-drop first rows in
      let m' : l < n = omega (arith, e) in let m'' : first + l < length rows = omega (arith, e, f) in
      rw (at k (omega arith), at l m') (sorted.up (first + k) (first + l) (omega arith) m'');
}
  where
    at : (k : ℕ) → k < n → get_or (take n (drop first rows)) k [] ≡ get_or rows (first + k) []
    at k h = get_or-take n (drop first rows) k [] h ∙ get_or-drop first rows k []

module _ {rows : List (List ℕ)} (t : ℕ) {first last : ℕ} (sorted : RowsAscend rows) (start : first ≡ rows_before rows t 0)
    (end : last ≡ rows_before rows (t + 1) 0) where
  a : Cut rows t 0 first first
  a = cut_of t 0 rows sorted start

  b : Cut rows (t + 1) 0 last last
  b = cut_of (t + 1) 0 rows sorted end

  pub run_within : last ≤ length rows
  run_within = b.within

  -- a run does not end before it starts
  pub run_order : first ≤ last
  run_order = go (first - last) refl
    where
      go : (d : ℕ) → first - last ≡ d → first ≤ last
      go zero e = omega arith
      go (suc d) e = absurd (true_not_false ((run_start a).left last (omega arith)) (b.right last (omega arith) (omega (arith, a.within))))

  abbrev run : List (List ℕ)
  run = take (last - first) (drop first rows)

  pub run_of : Run rows t run
  run_of = record {
    ascends = part_ascends first (last - first) sorted;
    same = λ u. front t u (last - first) (drop first rows) (λ k h l. after u k h (omega (arith, length-drop first rows)))
        ∙ sym (skip t u rows first (λ k h. names_false _ _ t u (λ p q. let l = below rows t k (a.left k h) in omega arith)));
  }
    where
      after : (u k : ℕ) → last - first ≤ k → k < length rows - first →
          both (eqb (outer (entry_at (drop first rows) k)) t) (eqb (inner (entry_at (drop first rows) k)) u) ≡ false
      after u k h l =
          rw (get_or-drop first rows k [])
          (names_false _ _ t u (λ p q. let g = above rows (t + 1) (first + k) (b.right (first + k) (omega arith) (omega arith)) in omega arith))
