-- A direct job is accepted exactly when its number is 0, and the number is exactly the first that is due. Assumes nothing.
use mathlib.Core.Path.{◌≡◌, refl, sym, subst}
use mathlib.Core.Bool.{Bool, true, false}
use mathlib.Core.List.{List}
use mathlib.Core.Logic.{◌⊎◌, inl, inr}
use Prim.Native.Nat.{ℕ, zero, suc, ◌+◌, ◌-◌, ◌≤◌}
use native.Mathlib.Omega.{arith}
use lib.ListN.{length}
use lib.Dec.{leb}
use borrow.Author.Tests.{leb-true}
use Rattle.lists.proofs.Choice.{true_not_false, both_left, both_right, not_false_true}
use Rattle.terms.specs.Limits.{min_vertices, max_vertices, count_fits}
use Rattle.terms.proofs.Order.{first_unique, verdict_first, verdict_given, verdict_zero, verdict_none}
use Rattle.jobs.specs.Job.{Job, enough, candidates_fit, rows_fit, job_code}
use Rattle.jobs.specs.Due.{JobPlace, JobDue, few_vertices, many_vertices, few_triangles, little_work, few_weights}
use Rattle.jobs.specs.Due.{no_triangle, candidate_not_after, no_pair, row_not_after, heavy, heavy_row, FirstDue, Accepted}
use Rattle.jobs.proofs.Order.{true_before, true_row_before}
use Rattle.jobs.proofs.Lists.{Candidates, Rows, Weights, true_ascends, true_names, candidates_true, rows_true, weights_true}
use Rattle.jobs.proofs.Failing.{places_fit, weight_tests, Fails, fails_14, fails_13, fails_15, fails_16, fails_17, due_fails, fails_due}
use Rattle.jobs.proofs.FirstNumber.{verdict, ordered}

-- what holds where 13 (for the weights), 15, 16 and 17 are not due
pub record ListsAccepted (job : Job) : Type 0 where
  pub weight_places : length job.candidates ≤ length job.weights
  pub candidates_are : Candidates job.n job.candidates
  pub rows_are : Rows job.candidates job.rows
  pub weights_are : Weights job.candidates job.weights job.rows

-- what holds where no number is due
pub record Fitting (job : Job) (triangle_places work_places : ℕ) : Type 0 where
  pub at_least : min_vertices ≤ job.n
  pub at_most : job.n ≤ max_vertices
  pub triangle_room : job.n - 2 ≤ triangle_places
  pub work_room : length job.candidates ≤ work_places
  pub lists : ListsAccepted job

module _ (job : Job) (tp wp : ℕ) where
  abbrev n : ℕ
  n = job.n

  abbrev candidates : List (List ℕ)
  candidates = job.candidates

  abbrev weights : List ℕ
  weights = job.weights

  abbrev rows : List (List ℕ)
  rows = job.rows

  -- accepted exactly when the number is 0
  pub accepted_zero : Accepted job tp wp → job_code job tp wp ≡ 0
  accepted_zero a = verdict_zero (verdict job tp wp) a

  pub zero_accepted : job_code job tp wp ≡ 0 → Accepted job tp wp
  zero_accepted e = verdict_none (verdict job tp wp) e

  -- a number is given exactly when it is the first due
  pub code_due : (k : ℕ) → job_code job tp wp ≡ suc k → FirstDue job tp wp (suc k)
  code_due k e = verdict_given (verdict job tp wp) e

  pub due_code : (k : ℕ) → FirstDue job tp wp k → job_code job tp wp ≡ k
  due_code k f = verdict_first ordered (verdict job tp wp) f

  -- a job is accepted or has a first number due, and one at most
  pub accepted_or_first : Accepted job tp wp ⊎ FirstDue job tp wp (job_code job tp wp)
  accepted_or_first = go (job_code job tp wp) refl
    where
      go : (j : ℕ) → job_code job tp wp ≡ j → Accepted job tp wp ⊎ FirstDue job tp wp (job_code job tp wp)
      go zero e = inl (zero_accepted e)
      go (suc j) e = inr (subst (λ (i : ℕ). FirstDue job tp wp i) (sym e) (code_due j e))

  pub first_only : (j k : ℕ) → FirstDue job tp wp j → FirstDue job tp wp k → j ≡ k
  first_only j k f g = first_unique ordered f g

  -- each test of an accepted job holds
  holds : job_code job tp wp ≡ 0 → {p : JobPlace} {k : ℕ} (t : Bool) → (t ≡ false → Fails job tp wp p k) → t ≡ true
  holds e {p} {k} t h = not_false_true t (λ f. (zero_accepted e).none p k (fails_due job tp wp (h f)))

  -- no number of a job is over 17
  pub at_most_17 : {p : JobPlace} {k : ℕ} → JobDue job tp wp p k → k ≤ 17
  at_most_17 d = by (due_fails job tp wp d)
    where
      by : {p : JobPlace} {k : ℕ} → Fails job tp wp p k → k ≤ 17
      by (fails_14 e) = omega arith
      by (fails_13 e) = omega arith
      by (fails_15 e) = omega arith
      by (fails_16 e) = omega arith
      by (fails_17 e) = omega arith

  -- what holds of an accepted job
  pub fitting : job_code job tp wp ≡ 0 → Fitting job tp wp
  fitting e =
      let c = holds e (count_fits n) fails_14 in
      let p = holds e (places_fit job tp wp) fails_13 in
      let q = both_right (enough (n - 2) tp) _ p in
      record {
        at_least = leb-true min_vertices n (both_left (leb min_vertices n) (leb n max_vertices) c);
        at_most = leb-true n max_vertices (both_right (leb min_vertices n) (leb n max_vertices) c);
        triangle_room = leb-true (n - 2) tp (both_left (enough (n - 2) tp) _ p);
        work_room = leb-true (length candidates) wp (both_left (enough (length candidates) wp) _ q);
        lists = record {
          weight_places = leb-true (length candidates) (length weights) (both_right (enough (length candidates) wp) _ q);
          candidates_are = candidates_true n candidates (holds e (candidates_fit n candidates) fails_15);
          rows_are = rows_true candidates rows (holds e (rows_fit candidates rows) fails_16);
          weights_are = weights_true candidates weights rows (holds e (weight_tests job tp wp) fails_17);
        };
      }

  -- and the other way round
  pub fitting_accepted : Fitting job tp wp → Accepted job tp wp
  fitting_accepted f = record { none = λ p k d. nothing d }
    where
      nothing : {p : JobPlace} {k : ℕ} → JobDue job tp wp p k → ⊥
      nothing (few_vertices h) = omega (arith, f.at_least)
      nothing (many_vertices h) = omega (arith, f.at_most)
      nothing (few_triangles h) = omega (arith, f.triangle_room)
      nothing (little_work h) = omega (arith, f.work_room)
      nothing (few_weights h) = omega (arith, f.lists.weight_places)
      nothing (no_triangle i h e) = true_not_false (true_ascends n _ (f.lists.candidates_are.ordered i h)) e
      nothing (candidate_not_after i h e) = true_not_false (true_before _ _ (f.lists.candidates_are.ascending i (i + 1) (omega arith) h)) e
      nothing (no_pair i h e) = true_not_false (true_names candidates _ (f.lists.rows_are.named i h)) e
      nothing (row_not_after i h e) = true_not_false (true_row_before _ _ (f.lists.rows_are.ascending i (i + 1) (omega arith) h)) e
      nothing (heavy i h e) = omega (arith, f.lists.weights_are.own i h)
      nothing (heavy_row i h e) = omega (arith, f.lists.weights_are.of_row i h)

-- a job that is accepted beside some tables is accepted beside any work table that is long enough, where no triangle table is lent
pub accepted_beside : (job : Job) (tp wp wp' : ℕ) → Accepted job tp wp → length job.candidates ≤ wp' → Accepted job (job.n - 2) wp'
accepted_beside job tp wp wp' a h =
    let f = fitting job tp wp (accepted_zero job tp wp a) in
    fitting_accepted job (job.n - 2) wp'
    (record { at_least = f.at_least; at_most = f.at_most; triangle_room = omega arith; work_room = h; lists = f.lists })
