-- Which of two numbers is given. Definitions only.
use Rattle.std.specs.Prelude.{ℕ, zero, suc}

-- the first of two numbers that is due, 0 for none (rules 4.31, 4.34 to 4.37)
abbrev pub first_due : ℕ → ℕ → ℕ
first_due zero k = k
first_due (suc j) k = suc j
