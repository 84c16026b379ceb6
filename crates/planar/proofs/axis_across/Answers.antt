-- `planar::axis_across` meets its contract: each test is of the coordinate, read from its bits. Assumes nothing.
use mathlib.Core.Path.{◌≡◌, refl}
use mathlib.Core.Logic.{inl, inr}
use mathlib.Core.Bool.{true, false}
use native.Mathlib.Omega.{arith}
use lib.IntN.{pos}
use Rattle.integers.specs.Order.{equal}
use Rattle.integers.proofs.Bounds.{signed_fits}
use Rattle.integers.proofs.Order.{equal_yes, zero_bits, other_bits}
use Rattle.planar.specs.Seen.{axis_x, axis_y}
use Rattle.planar.proofs.Axes.{along_x, along_y, not_along, last_along}
use Rattle.planar.proofs.axis_across.Goals as goal

pub returns-then-normal-ne0 : goal.returns-then-normal-ne0
returns-then-normal-ne0 c =
    let n = c.args.normal in
    let x : equal n.x (pos 0) ≡ false = other_bits n.x c.if-normal-ne0.true in
    record { along = not_along n axis_x (along_x n) x; first = inl refl }

pub returns-then-normal-ne0-2 : goal.returns-then-normal-ne0-2
returns-then-normal-ne0-2 c =
    let s = c in
    let n = s.args.normal in
    let x : equal n.x (pos 0) ≡ true = zero_bits n.x (signed_fits tt s.requires.in_x) c.if-normal-ne0.false in
    let y : equal n.y (pos 0) ≡ false = other_bits n.y (λ z. omega (arith, z, c.if-normal-ne0-2.true)) in
    record { along = not_along n axis_y (along_y n) y; first = inr (inl (equal_yes n.x (pos 0) x, refl)) }

pub returns : goal.returns
returns c =
    let s = c in
    let n = s.args.normal in
    let x : equal n.x (pos 0) ≡ true = zero_bits n.x (signed_fits tt s.requires.in_x) c.if-normal-ne0.false in
    let y : equal n.y (pos 0) ≡ true = zero_bits n.y (signed_fits tt s.requires.in_y) (omega (arith, c.if-normal-ne0-2.false)) in
    record { along = last_along n x y; first = inr (inr (equal_yes n.x (pos 0) x, equal_yes n.y (pos 0) y, refl)) }
