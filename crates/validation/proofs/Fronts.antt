-- Sums that a loop makes from the front. Assumes nothing.
use Prim.Native.Nat.{ℕ, ◌+◌, ◌≤◌, ◌<◌}
use mathlib.Core.Path.{◌≡◌, sym, ap, ◌∙◌}
use mathlib.Core.List.{List, [], ◌∷◌}
use native.Mathlib.Omega.{arith}
use native.Mathlib.Numerals.{add-one}
use lib.ListN.{length, get_or, take}
use lib.Seq.{take-suc, take-length}
use Rattle.lists.specs.Sums.{sum}
use Rattle.triangulation.proofs.Sums.{sum_append}

pub sum_next : (f : ℕ → ℕ) (list : List ℕ) (i : ℕ) → i < length list → sum f (take (i + 1) list) ≡ sum f (take i list) + f (get_or list i 0)
sum_next f list i h =
    ap (λ (k : ℕ). sum f (take k list)) (add-one i) ∙ ap (sum f) (take-suc list i 0 h) ∙ sum_append f (take i list) (get_or list i 0 ∷ []) ∙ omega arith

-- and at the end the whole
pub sum_whole : (f : ℕ → ℕ) (list : List ℕ) (i : ℕ) → i ≡ length list → sum f (take i list) ≡ sum f list
sum_whole f list i e = ap (λ (k : ℕ). sum f (take k list)) e ∙ ap (sum f) (take-length list)

-- the same with the next element by its value
pub sum_with : (f : ℕ → ℕ) (list : List ℕ) (i k : ℕ) → i < length list → k ≡ get_or list i 0 → sum f (take (i + 1) list) ≡ sum f (take i list) + f k
sum_with f list i k h e = sum_next f list i h ∙ ap (λ (x : ℕ). sum f (take i list) + f x) (sym e)

pub sum_le : (f : ℕ → ℕ) (list : List ℕ) → ((k : ℕ) → f k ≤ 1) → sum f list ≤ length list
sum_le f [] h = omega arith
sum_le f (x ∷ list) h = omega (arith, h x, sum_le f list h)
