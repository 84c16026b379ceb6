-- Lists made in the order of loops, tests over a range, and tables whose first places are filled. Definitions only.
use Rattle.std.specs.Prelude.{Bool, true, false, cond, List, [], ◌∷◌, ◌++◌, ℕ, zero, suc, ◌-◌, leb, length, take, drop}

-- the first places hold the list l, all further places what the table t held (rule 3.9)
abbrev pub filled : {A : Type 0} → List A → List A → List A
filled l t = l ++ drop (length l) t

-- the first n places of the table t handed back as a part, none where it has fewer
abbrev pub first_places : {A : Type 0} → ℕ → List A → List A
first_places n t = cond (leb n (length t)) (take n t) []

-- f lo, then f (lo + 1), and so on for k numbers
unfoldable pub up_from : {A : Type 0} → (ℕ → List A) → ℕ → ℕ → List A
up_from f lo zero = []
up_from f lo (suc k) = f lo ++ up_from f (suc lo) k

-- f lo, .. , f (hi - 1), one after the other
abbrev pub over : {A : Type 0} → ℕ → ℕ → (ℕ → List A) → List A
over lo hi f = up_from f lo (hi - lo)

-- x where the test holds, else nothing
abbrev pub when : {A : Type 0} → Bool → A → List A
when b x = cond b (x ∷ []) []

-- one test and another
abbrev pub both : Bool → Bool → Bool
both a b = cond a b false

-- one test or another
abbrev pub either : Bool → Bool → Bool
either a b = cond a true b

-- P lo and P (lo + 1) and so on for k numbers
unfoldable pub every_from : (ℕ → Bool) → ℕ → ℕ → Bool
every_from P lo zero = true
every_from P lo (suc k) = both (P lo) (every_from P (suc lo) k)

-- P at each of lo, .. , hi - 1; over the elements of a list it is `all_of`
abbrev pub every : ℕ → ℕ → (ℕ → Bool) → Bool
every lo hi P = every_from P lo (hi - lo)

-- P lo or P (lo + 1) or so on for k numbers
unfoldable pub some_from : (ℕ → Bool) → ℕ → ℕ → Bool
some_from P lo zero = false
some_from P lo (suc k) = either (P lo) (some_from P (suc lo) k)

-- P at one of lo, .. , hi - 1
abbrev pub some : ℕ → ℕ → (ℕ → Bool) → Bool
some lo hi P = some_from P lo (hi - lo)
