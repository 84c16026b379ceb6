-- The number that the tests of a direct job give is the first that is due. Assumes nothing.
use mathlib.Core.Path.{◌≡◌, refl, sym, ap, ◌∙◌, subst}
use mathlib.Core.Bool.{Bool, true, false}
use mathlib.Core.List.{List}
use Prim.Native.Nat.{ℕ, suc, ◌-◌, ◌<◌}
use native.Mathlib.Omega.{arith}
use lib.ListN.{length}
use Rattle.lists.proofs.Choice.{true_not_false}
use Rattle.terms.specs.Limits.{count_fits}
use Rattle.terms.specs.Order.{Precedes, by_place, by_number}
use Rattle.terms.proofs.Order.{Ordered, earlier, later, one_place, Verdict, none_due}
use Rattle.jobs.specs.Job.{Job, enough, unless, candidates_fit, rows_fit, lists_code, job_code}
use Rattle.jobs.specs.Due.{JobPlace, count, tables, lists, JobBefore, count_tables, count_lists, tables_lists, JobDue}
use Rattle.jobs.proofs.First.{unless_both, verdict_unless}
use Rattle.jobs.proofs.Failing.{places_fit, weight_tests, Fails, fails_14, fails_13, fails_15, fails_16, fails_17, due_fails, fails_due}

module _ (job : Job) (tp wp : ℕ) where
  abbrev n : ℕ
  n = job.n

  abbrev candidates : List (List ℕ)
  candidates = job.candidates

  abbrev weights : List ℕ
  weights = job.weights

  abbrev rows : List (List ℕ)
  rows = job.rows

  abbrev D : JobPlace → ℕ → Type 0
  D = JobDue job tp wp

  -- the number is that of the first test that fails
  by_tests : job_code job tp wp ≡
      unless (count_fits n) 14 (unless (places_fit job tp wp) 13
      (unless (candidates_fit n candidates) 15 (unless (rows_fit candidates rows) 16 (unless (weight_tests job tp wp) 17 0))))
  unfolding job_code lists_code
  by_tests =
      ap (λ x. unless (count_fits n) 14 (unless (enough (n - 2) tp) 13 x))
      (unless_both (enough (length candidates) wp) (enough (length candidates) (length weights)) 13 _)
      ∙ ap (unless (count_fits n) 14) (unless_both (enough (n - 2) tp) _ 13 _)

  -- ---- what fails before each number, where the tests before it hold
  before_14 : (q : JobPlace) (j : ℕ) → Precedes JobBefore q j count 14 → Fails job tp wp q j → ⊥
  before_14 _ _ (by_number l) (fails_14 e) = omega arith
  before_14 q j (by_place x10) _ = elim x10 [ ]

  module _ (c : count_fits n ≡ true) where
    before_13 : (q : JobPlace) (j : ℕ) → Precedes JobBefore q j tables 13 → Fails job tp wp q j → ⊥
    before_13 _ _ (by_place count_tables) (fails_14 e) = true_not_false c e
    before_13 _ _ (by_number l) (fails_13 e) = omega arith

    module _ (t : places_fit job tp wp ≡ true) where
      before_lists : (k : ℕ) → ((j : ℕ) → j < k → Fails job tp wp lists j → ⊥) → (q : JobPlace) (j : ℕ)
          → Precedes JobBefore q j lists k → Fails job tp wp q j → ⊥
      before_lists k number _ _ (by_place count_lists) (fails_14 e) = true_not_false c e
      before_lists k number _ _ (by_place tables_lists) (fails_13 e) = true_not_false t e
      before_lists k number _ j (by_number l) f = number j l f

      before_15 : (j : ℕ) → j < 15 → Fails job tp wp lists j → ⊥
      before_15 _ l (fails_15 e) = omega arith
      before_15 _ l (fails_16 e) = omega arith
      before_15 _ l (fails_17 e) = omega arith

      module _ (a : candidates_fit n candidates ≡ true) where
        before_16 : (j : ℕ) → j < 16 → Fails job tp wp lists j → ⊥
        before_16 _ l (fails_15 e) = true_not_false a e
        before_16 _ l (fails_16 e) = omega arith
        before_16 _ l (fails_17 e) = omega arith

        module _ (r : rows_fit candidates rows ≡ true) where
          before_17 : (j : ℕ) → j < 17 → Fails job tp wp lists j → ⊥
          before_17 _ l (fails_15 e) = true_not_false a e
          before_17 _ l (fails_16 e) = true_not_false r e
          before_17 _ l (fails_17 e) = omega arith

          none_fails : weight_tests job tp wp ≡ true → {p : JobPlace} {k : ℕ} → Fails job tp wp p k → ⊥
          none_fails w (fails_14 e) = true_not_false c e
          none_fails w (fails_13 e) = true_not_false t e
          none_fails w (fails_15 e) = true_not_false a e
          none_fails w (fails_16 e) = true_not_false r e
          none_fails w (fails_17 e) = true_not_false w e

  -- one of the tests, by what fails before it
  tested : (p : JobPlace) (k : ℕ) (t : Bool) {next : ℕ} → ((q : JobPlace) (j : ℕ) → Precedes JobBefore q j p (suc k) → Fails job tp wp q j → ⊥)
      → (t ≡ false → Fails job tp wp p (suc k)) → (t ≡ true → Verdict JobBefore D next) → Verdict JobBefore D (unless t (suc k) next)
  tested p k t clear here after = verdict_unless p k t _ (λ q j h d. clear q j h (due_fails job tp wp d)) (λ e. fails_due job tp wp (here e)) after

  -- the number is the first due, or 0 where none is
  pub verdict : Verdict JobBefore (JobDue job tp wp) (job_code job tp wp)
  verdict = subst (λ (i : ℕ). Verdict JobBefore D i) (sym by_tests)
      (tested count 13 (count_fits n) before_14 fails_14
      (λ c. tested tables 12 (places_fit job tp wp) (before_13 c) fails_13
      (λ t. tested lists 14 (candidates_fit n candidates) (before_lists c t 15 (before_15 c t)) fails_15
      (λ a. tested lists 15 (rows_fit candidates rows) (before_lists c t 16 (before_16 c t a)) fails_16
      (λ r. tested lists 16 (weight_tests job tp wp) (before_lists c t 17 (before_17 c t a r)) fails_17
      (λ w. none_due (record { none = λ p k d. none_fails c t a r w (due_fails job tp wp d) }) refl))))))

-- of two places one comes first
pub ordered : (p q : JobPlace) → Ordered JobBefore p q
ordered count count = one_place refl
ordered count tables = earlier count_tables
ordered count lists = earlier count_lists
ordered tables count = later count_tables
ordered tables tables = one_place refl
ordered tables lists = earlier tables_lists
ordered lists count = later count_lists
ordered lists tables = later tables_lists
ordered lists lists = one_place refl
