-- The number of the first test that fails, and the first number due. Assumes nothing.
use mathlib.Core.Path.{◌≡◌, refl, sym, ap, ◌∙◌}
use mathlib.Core.Bool.{Bool, true, false}
use Prim.Native.Nat.{ℕ, suc, ◌-◌, ◌<◌, ◌≤◌}
use native.Mathlib.Omega.{arith}
use borrow.Author.Tests.{le-leb}
use Rattle.lists.specs.Lists.{both}
use Rattle.lists.proofs.Choice.{yes}
use Rattle.terms.specs.Limits.{count_fits}
use Rattle.terms.specs.Order.{Precedes}
use Rattle.terms.proofs.Order.{Verdict, first_due_lem}
use Rattle.jobs.specs.Job.{Job, unless, job_code}

-- no number: the test holds, and so do all after it
pub unless_zero : (test : Bool) (number next : ℕ) → 0 < number → unless test number next ≡ 0 → (test ≡ true) × (next ≡ 0)
unless_zero true number next h e = (refl, e)
unless_zero false number next h e = absurd (omega arith)

-- a number, and none after it: the test fails
pub unless_fails : (test : Bool) (number : ℕ) → (unless test number 0 ≡ 0 → ⊥) → test ≡ false
unless_fails true number h = absurd (h refl)
unless_fails false number h = refl

-- two tests of one number are one test
pub unless_both : (s t : Bool) (number next : ℕ) → unless s number (unless t number next) ≡ unless (both s t) number next
unless_both true t number next = refl
unless_both false t number next = refl

-- of a triangle table that is long enough the length does not matter
pub long_enough : (job : Job) (trianglePlaces workPlaces : ℕ) → job.n - 2 ≤ trianglePlaces
    → job_code job trianglePlaces workPlaces ≡ job_code job (job.n - 2) workPlaces
unfolding job_code
long_enough job trianglePlaces workPlaces h =
    ap (unless (count_fits job.n) 14) (yes _ _ (le-leb (job.n - 2) trianglePlaces h) ∙ sym (yes _ _ (le-leb (job.n - 2) (job.n - 2) (omega arith))))

-- a test at a place, where nothing that comes before is due: its number is given where it fails, else what comes after it decides
pub verdict_unless : {P : Type 0} {Before : P → P → Type 0} {due : P → ℕ → Type 0} (p : P) (k : ℕ) (test : Bool) (next : ℕ)
    → ((q : P) (j : ℕ) → Precedes Before q j p (suc k) → due q j → ⊥) → (test ≡ false → due p (suc k)) → (test ≡ true → Verdict Before due next)
    → Verdict Before due (unless test (suc k) next)
verdict_unless p k true next clear here after = after refl
verdict_unless p k false next clear here after = first_due_lem k (record { place = p; is_due = here refl; none_before = clear }) refl
