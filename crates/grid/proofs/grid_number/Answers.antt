-- `grid::grid_number` meets its contract. Assumes nothing.
use mathlib.Core.Path.{sym, ap, ◌∙◌, subst}
use Prim.Native.Nat.{◌%◌, ◌^◌, ◌<◌}
use native.Mathlib.Omega.{arith}
use borrow.Author.Tests.{le-leb, lt-leb}
use lib.Dec.{T, leb}
use lib.Ieee.{binary32, fits, to_bits, mul}
use Rattle.std.proofs.Common.{Ok}
use Rattle.grid.proofs.Signs.{negated_fits, plus, less}
use Rattle.grid.proofs.Cases.{at_not_finite, finite_below, ok_on_grid}
use Rattle.grid.proofs.Product.{eight, product_no_nan, too_far, grid_is, rounded_small}
use Rattle.grid.proofs.grid_number.Goals.{After-rounded, Start, Else-not-is_finite}
use Rattle.grid.proofs.grid_number.Goals as goal

-- what owning an `f32` tells: the format holds it
held : (c : goal.Start) → T (fits binary32 c.args.v)
held c = subst T (sym c.well_formed.0.1) tt

-- its pattern is below that of infinity
size : (c : goal.Else-not-is_finite) → to_bits binary32 c.args.v % 2147483648 < 2139095040
size c = finite_below _ (held (goal.at.Else-not-is_finite c).Start) (sym c.is_finite.ensures.value ∙ c.if-not-is_finite.false)

below : (c : goal.After-rounded) → c.rounded.result < 2 ^ 63
below c = rounded_small c.rounded.ensures c.if-pattern-gt1148846080.false (omega arith)

pub returns-then-not-is_finite-clause-number : goal.returns-then-not-is_finite-clause-number
returns-then-not-is_finite-clause-number c = at_not_finite _ (sym c.is_finite.ensures.value ∙ c.if-not-is_finite.true)

pub float_to_bits-bits : goal.float_to_bits-bits
float_to_bits-bits c = product_no_nan _ _ (held (goal.at.float_to_bits-bits c).Start) (size c) (omega arith)

pub returns-then-pattern-gt1148846080-clause-number : goal.returns-then-pattern-gt1148846080-clause-number
returns-then-pattern-gt1148846080-clause-number c = too_far _ (held (goal.at.returns-then-pattern-gt1148846080-clause-number c).Start)
    (size (goal.at.returns-then-pattern-gt1148846080-clause-number c).Else-not-is_finite) (omega (arith, c.if-pattern-gt1148846080.true))

pub rounded-requires : goal.rounded-requires
rounded-requires c = omega (arith, c.if-pattern-gt1148846080.false)

pub overflow_sub-result : goal.overflow_sub-result
overflow_sub-result c = negated_fits (below (goal.at.overflow_sub-result c).After-rounded) c.from-number.ensures

pub returns-then-bits-lt2147483648 : goal.returns-then-bits-lt2147483648
returns-then-bits-lt2147483648 c =
    let at = goal.at.returns-then-bits-lt2147483648 c in
    let b = to_bits binary32 (mul binary32 at.Start.args.v eight) in
    let e = ap Ok (plus (leb 2147483648 b) (below at.After-rounded) c.from-number.ensures c.rounded.ensures (lt-leb 2147483648 b c.if-bits-lt2147483648.true))
    ∙ sym (grid_is _ (held at.Start) (size at.Else-not-is_finite) c.if-pattern-gt1148846080.false) in
    record { number = e; on_grid = ok_on_grid _ _ e }

pub returns-else-bits-lt2147483648 : goal.returns-else-bits-lt2147483648
returns-else-bits-lt2147483648 c =
    let at = goal.at.returns-else-bits-lt2147483648 c in
    let b = to_bits binary32 (mul binary32 at.Start.args.v eight) in
    let e = ap Ok (less (leb 2147483648 b) (below at.After-rounded) c.from-number.ensures c.rounded.ensures (le-leb 2147483648 b c.if-bits-lt2147483648.false))
    ∙ sym (grid_is _ (held at.Start) (size at.Else-not-is_finite) c.if-pattern-gt1148846080.false) in
    record { number = e; on_grid = ok_on_grid _ _ e }
