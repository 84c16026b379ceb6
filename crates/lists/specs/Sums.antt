-- Numbers of a list: kept, summed, tested, one list after another. Definitions only.
use Rattle.std.specs.Prelude.{Bool, true, false, cond, List, [], ◌∷◌, ◌++◌, ℕ, zero, suc, ◌+◌}
use Rattle.lists.specs.Lists.{both}

-- v where the test holds, and 0 where not
abbrev pub only : Bool → ℕ → ℕ
only true v = v
only false v = 0

-- the sum of f over the elements of a list, as `all_of` tests them
abbrev pub sum : (ℕ → ℕ) → List ℕ → ℕ
sum f [] = 0
sum f (x ∷ xs) = f x + sum f xs

-- the elements that pass a test
abbrev pub keep : {A : Type 0} → (A → Bool) → List A → List A
keep p [] = []
keep p (x ∷ xs) = cond (p x) (x ∷ keep p xs) (keep p xs)

-- f of each element, one list after another
abbrev pub joined : (ℕ → List ℕ) → List ℕ → List ℕ
joined f [] = []
joined f (x ∷ xs) = f x ++ joined f xs

-- k numbers from i on, in ascending order
abbrev pub numbers_from : ℕ → ℕ → List ℕ
numbers_from i zero = []
numbers_from i (suc k) = i ∷ numbers_from (suc i) k

-- f 0 + f 1 + .. + f (k - 1): over numbers, as `every` tests them
unfoldable pub sum_below : ℕ → (ℕ → ℕ) → ℕ
sum_below zero f = 0
sum_below (suc k) f = sum_below k f + f k

-- P at each element of a list; over numbers it is `every`
abbrev pub all_of : {A : Type 0} → (A → Bool) → List A → Bool
all_of P [] = true
all_of P (v ∷ vs) = both (P v) (all_of P vs)
