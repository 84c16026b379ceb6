-- The rows that the one call leaves in a program's table are as many as are counted, and ascend. Assumes nothing.
use mathlib.Core.Path.{◌≡◌, refl, sym, ap, ◌∙◌, subst}
use mathlib.Core.Bool.{Bool, true, false, cond}
use mathlib.Core.List.{List, [], ◌∷◌, ◌++◌}
use Prim.Native.Nat.{ℕ, zero, suc, ◌-◌, ◌<◌}
use native.Mathlib.Omega.{arith}
use borrow.Author.Tests.{ne_eqb}
use lib.Dec.{eqb}
use lib.ListN.{length, take, drop, replicate}
use lib.Seq.{take_at}
use Rattle.lists.specs.Lists.{filled, both}
use Rattle.lists.proofs.Choice.{no}
use Rattle.terms.specs.Entries.{triple, entry_at, outer, inner, row_weight}
use Rattle.terms.specs.Numbers.{first_due}
use Rattle.polygon.specs.declared.Polygon.{Polygon}
use Rattle.polygon.specs.Polygon.{ValidPolygon}
use Rattle.polygon.proofs.Validity.{code_valid}
use Rattle.reader.specs.Reading.{polygon_of}
use Rattle.reader.specs.Reading as reader
use Rattle.delaunay.specs.Candidates.{candidates_of}
use Rattle.finder.proofs.Answers.{clear}
use Rattle.jobs.proofs.Lists.{Ordered}
use Rattle.jobs.proofs.Order.{Hangs, on_ab, on_bc}
use Rattle.triangulation.specs.Problems.{pair_weight}
use Rattle.rows.specs.Search.{RowsAscend}
use Rattle.triangulator.proofs.Accepting.{well_formed}
use Rattle.pipeline.specs.Patching.{Tables, rows_in, job_in, tables_short, patch_by, polygon_number, file_number, patch_file}
use Rattle.pipeline.proofs.Accepted.{lists_accepted}
use Rattle.patch_lines.specs.Places.{row_count_of}

-- ---- a table of zeros, and what is written into it
zeros : ℕ → List (List ℕ)
zeros n = replicate n (triple 0 0 0)

drop_zeros : (k n : ℕ) → drop k (zeros n) ≡ zeros (n - k)
unfolding zeros
drop_zeros zero n = let e : n ≡ n - 0 = omega arith in ap zeros e
drop_zeros (suc k) zero = let e : 0 ≡ 0 - suc k = omega arith in ap zeros e
drop_zeros (suc k) (suc n) = let e : n - k ≡ suc n - suc k = omega arith in drop_zeros k n ∙ ap zeros e

no_weight : (n o i : ℕ) → pair_weight (zeros n) o i ≡ 0
unfolding zeros
no_weight zero o i = refl
no_weight (suc n) o i = same (both (eqb 0 o) (eqb 0 i)) (no_weight n o i)
  where
    same : (b : Bool) {w : ℕ} → w ≡ 0 → cond b 0 w ≡ 0
    same true e = refl
    same false e = e

past_rows : (rows : List (List ℕ)) (n o i : ℕ) → pair_weight (rows ++ zeros n) o i ≡ pair_weight rows o i
past_rows [] n o i = no_weight n o i
past_rows (r ∷ rows) n o i = ap (λ (w : ℕ). cond (both (eqb (outer r) o) (eqb (inner r) i)) (row_weight r) w) (past_rows rows n o i)

-- rows in the first places of such a table weigh every pair alone
pub alone : (rows table : List (List ℕ)) (n : ℕ) → table ≡ replicate n (triple 0 0 0) → (o i : ℕ) →
    pair_weight (filled rows table) o i ≡ pair_weight rows o i
unfolding zeros
alone rows table n e o i =
    ap (λ (x : List (List ℕ)). pair_weight (rows ++ x) o i) (ap (drop (length rows)) e ∙ drop_zeros (length rows) n) ∙ past_rows rows (n - length rows) o i

-- every row names two candidates
abbrev Apart : List (List ℕ) → Type 0
Apart rows = (k : ℕ) → k < length rows → outer (entry_at rows k) ≡ inner (entry_at rows k) → ⊥

count_all : (rows : List (List ℕ)) (n : ℕ) → Apart rows → row_count_of (rows ++ zeros n) ≡ length rows
unfolding zeros
count_all [] zero h = refl
count_all [] (suc n) h = refl
count_all (r ∷ rows) n h = no _ _ (ne_eqb _ _ (h 0 (omega arith))) ∙ ap suc (count_all rows n (λ k l. h (suc k) (omega arith)))

-- the rows that are counted ascend, and give every pair its weight
pub record Counted (rows : List (List ℕ)) : Type 0 where
  pub ascend : RowsAscend (take (row_count_of rows) rows)
  pub same : (o i : ℕ) → pair_weight (take (row_count_of rows) rows) o i ≡ pair_weight rows o i

counted : (rows : List (List ℕ)) (n : ℕ) → RowsAscend rows → Apart rows → Counted (rows ++ zeros n)
counted rows n a h =
    let e : take (row_count_of (rows ++ zeros n)) (rows ++ zeros n)
    ≡ rows = take_at rows (zeros n) (row_count_of (rows ++ zeros n)) (sym (count_all rows n h)) in
    record {
      ascend = subst RowsAscend (sym e) a;
      same = λ o i. ap (λ (l : List (List ℕ)). pair_weight l o i) e ∙ sym (past_rows rows n o i);
    }

-- ---- a polygon's rows
module _ (p : Polygon) (v : ValidPolygon p) where
  ascends : RowsAscend (rows_in p)
  ascends = (well_formed (job_in p) v.least v.most (lists_accepted p v)).rows_ascend

  -- no candidate hangs on itself
  apart : Apart (rows_in p)
  apart k h e =
      let named = (lists_accepted p v).rows_are.named k h in
      not_itself ((lists_accepted p v).candidates_are.ordered (outer (entry_at (rows_in p) k)) named.outer_is)
      (subst (λ (i : ℕ). Hangs (entry_at (candidates_of p) i) (entry_at (candidates_of p) (outer (entry_at (rows_in p) k)))) (sym e) named.hanging)
    where
      not_itself : {n : ℕ} {t : List ℕ} → Ordered n t → Hangs t t → ⊥
      not_itself o (on_ab d f) = omega (arith, f, o.b_c)
      not_itself o (on_bc d f) = omega (arith, d, o.a_b)

-- ---- after the call
module _ (limit : ℕ) (file : List ℕ) (t : Tables) where
  -- no number is due: the polygon is valid
  pub file_valid : file_number limit file t ≡ 0 → ValidPolygon (polygon_of file)
  file_valid = by (reader.number_due limit file)
    where
      by : (k : ℕ) → first_due k (polygon_number (polygon_of file) t) ≡ 0 → ValidPolygon (polygon_of file)
      by zero e = code_valid (polygon_of file) (clear (polygon_of file) (tables_short (polygon_of file) t) e).code
      by (suc k) e = absurd (omega (arith, e))

  pub rows_left : (n : ℕ) → t.rows ≡ replicate n (triple 0 0 0) → Counted (patch_file limit file t).left.rows
  unfolding patch_file zeros
  rows_left n e = by (file_number limit file t) refl
    where
      by : (k : ℕ) → file_number limit file t ≡ k → Counted (patch_by k (polygon_of file) t).left.rows
      by zero d =
          let v : ValidPolygon (polygon_of file) = file_valid d in
          let size = length (rows_in (polygon_of file)) in
          let l : filled (rows_in (polygon_of file)) t.rows ≡ rows_in (polygon_of file) ++ zeros (n - size) =
          ap (λ (x : List (List ℕ)). rows_in (polygon_of file) ++ x) (ap (drop size) e ∙ drop_zeros size n) in
          subst Counted (sym l) (counted (rows_in (polygon_of file)) (n - size) (ascends (polygon_of file) v) (apart (polygon_of file) v))
      by (suc k) d = subst Counted (sym e) (counted [] n (record { up = λ k l h j. absurd (omega (arith, j)) }) (λ k h f. absurd (omega (arith, h))))
