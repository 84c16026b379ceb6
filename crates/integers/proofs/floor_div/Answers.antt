-- `integers::floor_div` meets its contract: the machine's quotient is rounded toward zero, one too many where the remainder is negative.
use mathlib.Core.Path.{◌≡◌, refl, sym, ◌∙◌, ap, subst}
use Prim.Native.Nat.{◌<◌}
use lib.IntN.{ℤ, pos, nat_abs}
use lib.Signed.{lt_z}
use mir.Syntax.{w64}
use mir.Val.{to_z, of_z}
use mir.ValLaws.{to_z-of_z}
use Rattle.integers.specs.Bounds.{max_dividend}
use Rattle.integers.proofs.Bounds.{Holds, given, stored, fits, ◌-!◌}
use Rattle.integers.proofs.Rounding.{quotient_less_one, quotient_kept, positive_divisor, quotient_held, remainder_held}
use Rattle.integers.proofs.floor_div.Goals.{Start}
use Rattle.integers.proofs.floor_div.Goals as goal

module _ (s : goal.Start) where
  k! : to_z w64 (of_z w64 s.args.k) ≡ pos (nat_abs s.args.k)
  k! = to_z-of_z w64 s.args.k s.ranges.k ∙ (positive_divisor s.args.k s.requires.1).1

  n! : Holds max_dividend s.args.n (to_z w64 (of_z w64 s.args.n))
  n! = given tt s.requires.0

  above : 0 < of_z w64 s.args.k
  above = subst (λ (z : ℤ). 0 < of_z w64 z) (sym (positive_divisor s.args.k s.requires.1).1) (positive_divisor s.args.k s.requires.1).0

one! : Holds 1 (pos 1) (pos 1)
one! = record { value = refl; bound = record { size = lib.Dec.lit≤ tt } }

pub nonzero_div-q : goal.nonzero_div-q
nonzero_div-q c = (above (goal.at.nonzero_div-q c).Start, fits tt (quotient_held (n! (goal.at.nonzero_div-q c).Start) (k! (goal.at.nonzero_div-q c).Start)))

pub nonzero_rem-n : goal.nonzero_rem-n
nonzero_rem-n c = (above (goal.at.nonzero_rem-n c).Start, fits tt (quotient_held (n! (goal.at.nonzero_rem-n c).Start) (k! (goal.at.nonzero_rem-n c).Start)))

pub overflow_sub-result : goal.overflow_sub-result
overflow_sub-result c = let s = (goal.at.overflow_sub-result c).Start in fits tt (stored tt (quotient_held (n! s) (k! s)) -! one!)

pub returns-then-n-k-lt0 : goal.returns-then-n-k-lt0
returns-then-n-k-lt0 c =
    let s = (goal.at.returns-then-n-k-lt0 c).Start in
    (stored tt (stored tt (quotient_held (n! s) (k! s)) -! one!)).value
    ∙ quotient_less_one s.args.n (nat_abs s.args.k) (positive_divisor s.args.k s.requires.1).0
    (sym (ap (λ (z : ℤ). lt_z z (pos 0)) (stored tt (remainder_held (n! s) (k! s))).value) ∙ c.if-n-k-lt0.true)

pub returns-else-n-k-lt0 : goal.returns-else-n-k-lt0
returns-else-n-k-lt0 c =
    let s = (goal.at.returns-else-n-k-lt0 c).Start in
    (stored tt (quotient_held (n! s) (k! s))).value
    ∙ quotient_kept s.args.n (nat_abs s.args.k) (positive_divisor s.args.k s.requires.1).0
    (sym (ap (λ (z : ℤ). lt_z z (pos 0)) (stored tt (remainder_held (n! s) (k! s))).value) ∙ c.if-n-k-lt0.false)
