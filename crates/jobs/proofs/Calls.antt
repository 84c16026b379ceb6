-- Calls that go on testing once the job is accepted: the job's numbers come first. Assumes nothing.
use mathlib.Core.Path.{◌≡◌, refl, sym, ap, subst}
use Prim.Native.Nat.{ℕ}
use Rattle.terms.specs.Numbers.{first_due}
use Rattle.terms.specs.Order.{Precedes, by_place, by_number, First, NoneDue}
use Rattle.terms.proofs.Numbers.{due_on}
use Rattle.terms.proofs.Order.{Ordered, earlier, later, one_place, Verdict, first_due_lem, none_due}
use Rattle.jobs.specs.Due.{JobPlace, JobBefore, JobCallPlace, job_at, after_job, JobCallBefore, job_job, job_after}
use Rattle.jobs.proofs.FirstNumber as jobs

-- of two places one comes first
job_ordered : {p q : JobPlace} → Ordered JobBefore p q → Ordered JobCallBefore (job_at p) (job_at q)
job_ordered (earlier h) = earlier (job_job h)
job_ordered (later h) = later (job_job h)
job_ordered (one_place e) = one_place (ap job_at e)

pub ordered : (p q : JobCallPlace) → Ordered JobCallBefore p q
ordered (job_at p) (job_at q) = job_ordered (jobs.ordered p q)
ordered (job_at p) after_job = earlier job_after
ordered after_job (job_at q) = later job_after
ordered after_job after_job = one_place refl

-- the numbers due on a job, and those due on a call, which are the job's at the job's places
module _ {J : JobPlace → ℕ → Type 0} {D : JobCallPlace → ℕ → Type 0}
    (to-call : (p : JobPlace) (k : ℕ) → J p k → D (job_at p) k) (to_job : (p : JobPlace) (k : ℕ) → D (job_at p) k → J p k) where
  -- the first number due on the job is the first due on the call
  pub job_first : {k : ℕ} → First JobBefore J k → First JobCallBefore D k
  job_first {k} f = record { place = job_at f.place; is_due = to-call f.place k f.is_due; none_before = none }
    where
      none : (q : JobCallPlace) (j : ℕ) → Precedes JobCallBefore q j (job_at f.place) k → D q j → ⊥
      none _ j (by_place (job_job {p} h)) d = f.none_before p j (by_place h) (to_job p j d)
      none _ j (by_number l) d = f.none_before f.place j (by_number l) (to_job f.place j d)

  -- a call gives the job's number, or where there is none the number of what comes after
  pub call_verdict : {number further : ℕ} → Verdict JobBefore J number → (NoneDue J → Verdict JobCallBefore D further)
      → Verdict JobCallBefore D (first_due number further)
  call_verdict {further = further} (first_due_lem k f e) h = first_due_lem k (job_first f) (ap (λ (i : ℕ). first_due i further) e)
  call_verdict {further = further} (none_due a e) h = subst (λ (i : ℕ). Verdict JobCallBefore D i) (sym (due_on further e)) (h a)

  -- where a number is due after the job and comes first, none is due on the job
  pub none_on_job : {k : ℕ} (f : First JobCallBefore D k) → f.place ≡ after_job → NoneDue J
  none_on_job {k} f e = record {
    none = λ p j d.
        f.none_before (job_at p) j (subst (λ (q : JobCallPlace). Precedes JobCallBefore (job_at p) j q k) (sym e) (by_place job_after)) (to-call p j d);
  }
