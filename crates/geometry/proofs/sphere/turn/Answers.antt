-- `geometry::sphere::turn` meets its contract.
use mathlib.Core.Bool.{false}
use mathlib.Core.Path.{◌≡◌, refl, sym, ◌∙◌, ap}
use lib.IntN.{ℤ, pos}
use lib.Signed.{lt_z}
use mir.Syntax.{w64}
use mir.Val.{to_z, of_z}
use Rattle.integers.proofs.Bounds.{Holds, given, stored, fits, at_most_held, ◌-!◌}
use Rattle.geometry.proofs.Vectors.{within_as, within_le, within_opposite}
use Rattle.geometry.proofs.sphere.turn.Goals as goal

nothing : Holds 0 (pos 0) (pos 0)
nothing = record { value = refl; bound = record { size = lib.Dec.lit≤ tt } }

pub overflow_sub-result : goal.overflow_sub-result
overflow_sub-result c = fits tt (nothing -! given tt c.requires.0)

pub neg-requires : goal.neg-requires
neg-requires c = within_le tt c.requires.1

pub invariant_of-result : goal.invariant_of-result
invariant_of-result c = record {
  orient_in = at_most_held (stored tt (nothing -! given tt c.requires.0));
  centre_in = within_as c.neg.ensures (within_opposite c.requires.1);
}

pub invariant_of-result-2 : goal.invariant_of-result-2
invariant_of-result-2 c = record { orient_in = at_most_held (given tt c.requires.0); centre_in = c.requires.1 }

pub returns-then-orient-lt0 : goal.returns-then-orient-lt0
returns-then-orient-lt0 c =
    let t = sym (ap (λ (z : ℤ). lt_z z (pos 0)) (given tt c.requires.0).value) ∙ c.if-orient-lt0.true in
    (λ i. record { orient = (stored tt (nothing -! given tt c.requires.0)).value i; centre = c.neg.ensures i }) ∙ rw t

pub returns : goal.returns
returns c =
    let positive : lt_z (to_z w64 (of_z w64 c.args.orient)) (pos 0) ≡ false = assumption in
    let t = sym (ap (λ (z : ℤ). lt_z z (pos 0)) (given tt c.requires.0).value) ∙ positive in
    (λ i. record { orient = (given tt c.requires.0).value i; centre = c.args.centre }) ∙ rw t
