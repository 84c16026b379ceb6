-- Laws of `either` and `both`; where the first test is known they are `yes` and `no` of Choice. Assumes nothing.
use mathlib.Core.Path.{◌≡◌, refl}
use mathlib.Core.Bool.{Bool, true, false}
use Rattle.lists.specs.Lists.{both, either}

pub either_assoc : (p q r : Bool) → either p (either q r) ≡ either (either p q) r
either_assoc true q r = refl
either_assoc false q r = refl

pub either_swap : (p q r : Bool) → either (either p q) r ≡ either q (either p r)
either_swap true true r = refl
either_swap true false r = refl
either_swap false q r = refl

pub either_no : (p : Bool) → either p false ≡ p
either_no true = refl
either_no false = refl

pub both_no : (p : Bool) {q : Bool} → q ≡ false → both p q ≡ false
both_no true e = e
both_no false e = refl

pub both_yes : (p : Bool) {q : Bool} → q ≡ true → both p q ≡ p
both_yes true e = e
both_yes false e = refl
