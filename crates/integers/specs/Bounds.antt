-- How far an integer is from 0: what functions on i64 ask, so that no sum or product wraps. What functions say to each other; nobody has to believe it.
use Rattle.std.specs.Prelude.{ℕ, ◌≤◌, ℤ, nat_abs}

-- z is at most n away from 0
pub record AtMost (n : ℕ) (z : ℤ) : Type 0 where
  pub size : nat_abs z ≤ n

-- the largest i64
abbrev pub largest : ℕ
largest = 9223372036854775807

-- a number that is divided: its quotient, and one less, are i64 with room to spare
abbrev pub max_dividend : ℕ
max_dividend = 4000000000000000000
