-- What a refusal tells (rule 4.30). Definitions only.
use Rattle.std.specs.Prelude.{ℕ, zero, suc, Result, Ok, Err}
use Rattle.codes.specs.declared.Refusal.{Refusal}

-- the refusal with this number (rule 4.30)
abbrev pub refusal : ℕ → Refusal
refusal k = record { number = k }

-- the number of a refusal, 0 where there is none (rule 5.2)
abbrev pub number_of : {A : Type 0} → Result A Refusal → ℕ
number_of (Ok a) = 0
number_of (Err r) = r.number

-- what is answered where no number is due, else the refusal with the first number due (rule 4.30)
abbrev pub or_refused : {A : Type 0} → ℕ → A → Result A Refusal
or_refused zero a = Ok a
or_refused (suc k) a = Err (refusal (suc k))
