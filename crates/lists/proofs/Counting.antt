-- A loop that counts what a list made in order would hold, by what is left to count. Assumes nothing.
use mathlib.Core.Path.{◌≡◌, sym, subst}
use mathlib.Core.List.{List, [], ◌∷◌, ◌++◌}
use Prim.Native.Nat.{ℕ, ◌+◌}
use native.Mathlib.Omega.{arith}
use lib.ListN.{length, length-append}

-- the count so far and the rest make up the whole
pub record Counting {A : Type 0} (total rest : List A) (count : ℕ) : Type 0 where
  pub sum : count + length rest ≡ length total

pub count_start : {A : Type 0} (total : List A) → Counting total total 0
count_start total = record { sum = omega arith }

pub count_turn : {A : Type 0} {total rest rest' : List A} {n : ℕ} → rest ≡ rest' → Counting total rest n → Counting total rest' n
count_turn {total = t} {n = n} e s = subst (λ r. Counting t r n) e s

pub count_push : {A : Type 0} {total rest : List A} {x : A} {n : ℕ} → Counting total (x ∷ rest) n → Counting total rest (n + 1)
count_push s = record { sum = omega (arith, s.sum) }

pub count_part : {A : Type 0} {total : List A} (part : List A) {rest : List A} {n : ℕ} → Counting total (part ++ rest) n → Counting total rest (n + length part)
count_part part {rest} s = record { sum = omega (arith, s.sum, length-append part rest) }

pub count_moved : {A : Type 0} {total rest : List A} {n n' : ℕ} → n ≡ n' → Counting total rest n' → Counting total rest n
count_moved {total = t} {rest = r} e s = subst (λ (k : ℕ). Counting t r k) (sym e) s

pub count_all : {A : Type 0} {total : List A} {n : ℕ} → Counting total [] n → n ≡ length total
count_all s = omega (arith, s.sum)
