-- The first number due, whatever the places: at most one is the first; and what follows for a number that tests give. Assumes nothing.
use mathlib.Core.Path.{◌≡◌, sym, subst, ◌∙◌}
use mathlib.Core.Logic.{◌⊎◌, inl, inr}
use Prim.Native.Nat.{ℕ, suc}
use native.Mathlib.Omega.{arith}
use Rattle.lists.proofs.Choice.{Compared, less, same, more, compared}
use Rattle.terms.specs.Order.{Precedes, by_place, by_number, First, NoneDue}

module _ {P : Type 0} (Before : P → P → Type 0) where
  -- of two places one comes first, or they are one place
  pub data Ordered (p q : P) : Type 0 where
    earlier : Before p q → Ordered p q
    later : Before q p → Ordered p q
    one_place : p ≡ q → Ordered p q

  -- a number that tests give: the first that is due, or 0 where none is
  pub data Verdict (due : P → ℕ → Type 0) (n : ℕ) : Type 0 where
    first_due_lem : (k : ℕ) → First Before due (suc k) → n ≡ suc k → Verdict due n
    none_due : NoneDue due → n ≡ 0 → Verdict due n

module _ {P : Type 0} {Before : P → P → Type 0} {due : P → ℕ → Type 0} where
  -- where no number is due, none is the first
  pub none_first : {k : ℕ} → NoneDue due → First Before due k → ⊥
  none_first {k} n f = n.none f.place k f.is_due

  -- at most one number is the first
  pub first_unique : ((p q : P) → Ordered Before p q) → {j k : ℕ} → First Before due j → First Before due k → j ≡ k
  first_unique ordered {j} {k} a b = by (ordered a.place b.place) (compared j k)
    where
      by : Ordered Before a.place b.place → Compared j k → j ≡ k
      by (earlier h) c = absurd (b.none_before a.place j (by_place h) a.is_due)
      by (later h) c = absurd (a.none_before b.place k (by_place h) b.is_due)
      by (one_place e) (same c) = c
      by (one_place e) (less c) = absurd (b.none_before a.place j (subst (λ (q : P). Precedes Before a.place j q k) e (by_number c)) a.is_due)
      by (one_place e) (more c) = absurd (a.none_before b.place k (subst (λ (q : P). Precedes Before b.place k q j) (sym e) (by_number c)) b.is_due)

  module _ {n : ℕ} where
    -- there is a first number due, or none is due
    pub verdict_either : Verdict Before due n → ((k : ℕ) × First Before due k) ⊎ NoneDue due
    verdict_either (first_due_lem k f e) = inl (suc k, f)
    verdict_either (none_due none e) = inr none

    -- the first that is due is given, and what is given is the first that is due
    pub verdict_first : ((p q : P) → Ordered Before p q) → {k : ℕ} → Verdict Before due n → First Before due k → n ≡ k
    verdict_first ordered (first_due_lem j g e) f = e ∙ first_unique ordered g f
    verdict_first ordered (none_due none e) f = absurd (none_first none f)

    pub verdict_given : {k : ℕ} → Verdict Before due n → n ≡ suc k → First Before due (suc k)
    verdict_given (first_due_lem j g e) d = subst (λ (i : ℕ). First Before due i) (sym e ∙ d) g
    verdict_given (none_due none e) d = absurd (omega arith)

    -- none is given exactly when none is due
    pub verdict_zero : Verdict Before due n → NoneDue due → n ≡ 0
    verdict_zero (first_due_lem k f e) none = absurd (none_first none f)
    verdict_zero (none_due none e) h = e

    pub verdict_none : Verdict Before due n → n ≡ 0 → NoneDue due
    verdict_none (first_due_lem k f e) d = absurd (omega arith)
    verdict_none (none_due none e) d = none
