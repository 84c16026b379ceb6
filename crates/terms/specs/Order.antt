-- Which of the numbers due is the first, where each is due at a place. Definitions only.
use Rattle.std.specs.Prelude.{ℕ, ◌<◌}

module _ {P : Type 0} (Before : P → P → Type 0) where
  -- of places with an order, number j at one comes before number k at another (rules 4.31, 4.32, 4.34 to 4.37): by the place, and at one place by the number
  pub data Precedes : P → ℕ → P → ℕ → Type 0 where
    by_place : {p q : P} {j k : ℕ} → Before p q → Precedes p j q k
    by_number : {p : P} {j k : ℕ} → j < k → Precedes p j p k

  -- k is the first of the numbers that are due (rules 4.31, 4.32, 4.34 to 4.37): it is due at a place, and no number that comes before it is
  pub record First (due : P → ℕ → Type 0) (k : ℕ) : Type 0 where
    pub place : P
    pub is_due : due place k
    pub none_before : (p : P) (j : ℕ) → Precedes p j place k → due p j → ⊥

-- no number is due (rule 4.33)
pub record NoneDue {P : Type 0} (due : P → ℕ → Type 0) : Type 0 where
  pub none : (p : P) (k : ℕ) → due p k → ⊥
