-- A job on which no number is due has all that the dynamic programme needs. Assumes nothing.
use Prim.Native.Nat.{ℕ, suc, ◌+◌, ◌≤◌, ◌<◌}
use mathlib.Core.Path.{◌≡◌}
use mathlib.Core.Bool.{Bool, true, false, cond}
use mathlib.Core.List.{List, [], ◌∷◌}
use native.Mathlib.Omega.{arith}
use lib.ListN.{length}
use lib.Dec.{eqb}
use Rattle.lists.specs.Lists.{both}
use Rattle.triangulation.specs.Problems.{pair_weight}
use Rattle.terms.specs.Limits.{max_vertices, max_weight}
use Rattle.terms.specs.Entries.{entry_at, vertex_a, vertex_b, outer, inner, row_weight, row_before}
use Rattle.jobs.specs.Job.{Job, job_code}
use Rattle.jobs.proofs.Order.{Before, by_a, by_b, by_c, RowBefore, true_row_before}
use Rattle.jobs.proofs.Count.{candidates_bounded}
use Rattle.jobs.proofs.Acceptance.{ListsAccepted, fitting}
use Rattle.rows.specs.Search.{row_is_before}
use Rattle.minimum_weight.specs.Tables.{WellFormed}
use Rattle.rows.proofs.Bisection.{names_false, none}

row_le : (rows : List (List ℕ)) (b o i : ℕ) → ((k : ℕ) → k < length rows → row_weight (entry_at rows k) ≤ b) → pair_weight rows o i ≤ b
row_le [] b o i h = omega arith
row_le (r ∷ rows) b o i h = go (both (eqb (outer r) o) (eqb (inner r) i)) (row_le rows b o i (λ k l. h (suc k) (omega arith)))
  where
    go : (t : Bool) → pair_weight rows o i ≤ b → cond t (row_weight r) (pair_weight rows o i) ≤ b
    go true ih = h 0 (omega arith)
    go false ih = ih

a_up : {s t : List ℕ} → Before s t → vertex_a s ≤ vertex_a t
a_up (by_a h) = omega arith
a_up (by_b e h) = omega arith
a_up (by_c e f h) = omega arith

b_up : {s t : List ℕ} → Before s t → vertex_a s ≡ vertex_a t → vertex_b s ≤ vertex_b t
b_up (by_a h) e = absurd (omega arith)
b_up (by_b _ h) e = omega arith
b_up (by_c _ f h) e = omega arith

row_up : {r s : List ℕ} → RowBefore r s → row_is_before r (outer s) (inner s) ≡ true
unfolding row_before
row_up {r} {s} b = true_row_before r s b

module _ (job : Job) where
  abbrev n : ℕ
  n = job.n

  abbrev candidates : List (List ℕ)
  candidates = job.candidates

  abbrev weights : List ℕ
  weights = job.weights

  abbrev rows : List (List ℕ)
  rows = job.rows

  pub well_formed : 3 ≤ n → n ≤ max_vertices → ListsAccepted job → WellFormed n candidates weights rows
  well_formed low high ok =
      let c = ok.candidates_are in
      let r = ok.rows_are in
      let w = ok.weights_are in
      record {
        valid = record { n3 = low; ab = λ k h. (c.ordered k h).a_b; bc = λ k h. (c.ordered k h).b_c; cn = λ k h. (c.ordered k h).c_n };
        bounded = record { few = high; light = λ k h. w.own k h; row_light = λ o i. row_le rows max_weight o i (λ k h. w.of_row k h) };
        ascending = record { by_first = record { up = λ k l h m. a_up (c.ascending k l h m) }; b_up = λ k l h m. b_up (c.ascending k l h m) };
        weights_there = ok.weight_places;
        few = omega (arith, candidates_bounded n candidates c high);
        rows_ascend = record { up = λ k l h m. row_up (r.ascending k l h m) };
        no_row = λ u. none (length candidates) u rows (λ k h. names_false _ _ (length candidates) u (λ e f. omega (arith, (r.named k h).outer_is, e)));
      }

  pub accepted_well_formed : (places work_places : ℕ) → job_code job places work_places ≡ 0 →
      WellFormed n candidates weights rows × (length candidates ≤ work_places) × (n ≤ places + 2)
  accepted_well_formed places work_places e =
      let a = fitting job places work_places e in
      (well_formed a.at_least a.at_most a.lists, a.work_room, omega (arith, a.triangle_room))
