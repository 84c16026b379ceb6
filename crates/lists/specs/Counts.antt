-- How many numbers pass a test. What functions say to each other; nobody has to believe it.
use Rattle.std.specs.Prelude.{Bool, ℕ, length}
use Rattle.lists.specs.Lists.{over, when}

-- how many of the numbers 0, .. , n - 1 pass the test P
abbrev pub how_many : ℕ → (ℕ → Bool) → ℕ
how_many n P = length (over 0 n (λ i. when (P i) i))
