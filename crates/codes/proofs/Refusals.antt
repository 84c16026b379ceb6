-- What an answer by the first number due says of that number (rules 4.30, 5.2). Assumes nothing.
use mathlib.Core.Path.{◌≡◌, refl}
use Prim.Native.Nat.{ℕ, zero, suc, ◌<◌}
use native.Mathlib.Omega.{arith}
use Rattle.std.specs.Prelude.{Result, Ok, Err, IsOk}
use Rattle.codes.specs.declared.Refusal.{Refusal}
use Rattle.codes.specs.Refusals.{refusal, number_of, or_refused}

module _ {A : Type 0} where
  -- the number of the answer is the number that is due
  pub number_answered : (k : ℕ) (a : A) → number_of (or_refused k a) ≡ k
  number_answered zero a = refl
  number_answered (suc k) a = refl

  -- a number that is due is refused
  pub due_refused : (k : ℕ) (a : A) → 0 < k → ◌≡◌ {A = Result A Refusal} (Err (refusal k)) (or_refused k a)
  due_refused zero a h = absurd (omega arith)
  due_refused (suc k) a h = refl

  -- an answer with a value: no number is due, and the value is the one that was to be given
  pub none_answered : (k : ℕ) {x a : A} → Ok x ≡ or_refused k a → (k ≡ 0) × (x ≡ a)
  none_answered zero e = (refl, cc)
  none_answered (suc k) e = absurd cc

  pub ok_answered : (k : ℕ) (a : A) → IsOk (or_refused k a) → k ≡ 0
  ok_answered zero a e = refl
  ok_answered (suc k) a e = absurd cc

  -- a refusal: its number is due
  pub refused_answered : (k : ℕ) {r : Refusal} (a : A) → Err r ≡ or_refused k a → (0 < k) × (r ≡ refusal k)
  refused_answered zero a e = absurd cc
  refused_answered (suc k) a e = (omega arith, cc)

-- a refusal that is handed on in place of an answer of another type
pub handed_on : {A B : Type 0} (k : ℕ) {r : Refusal} (a : A) (b : B) → Err r ≡ or_refused k a → Err r ≡ or_refused k b
handed_on zero a b e = absurd cc
handed_on (suc k) a b e = cc
