-- `geometry::sphere::locate` meets its contract: the sign of the power. The bounds are those of the sphere and of the lifted point.
use mathlib.Core.Path.{◌≡◌, sym, ◌∙◌, ap}
use lib.IntN.{ℤ, pos, ◌-ℤ◌, ◌*ℤ◌}
use lib.Signed.{lt_z}
use Rattle.geometry.specs.Vectors.{dot_of}
use Rattle.geometry.specs.Lifting.{power_of}
use Rattle.integers.specs.Order.{equal}
use Rattle.integers.proofs.Bounds.{Holds, bits, given, stored, returned, fits, at_most_as, ◌*!◌, ◌-!◌}
use Rattle.integers.proofs.Order.{zero_bits, other_bits}
use Rattle.geometry.proofs.Vectors.{at_most_dot, products_fit}
use Rattle.geometry.proofs.sphere.locate.Goals.{After-dot}
use Rattle.geometry.proofs.sphere.locate.Goals as goal

module _ (c : goal.After-dot) where
  abbrev computed : ℤ
  computed = bits (bits c.sphere.inside.orient *ℤ bits c.w.inside.square) -ℤ bits c.dot.result

  abbrev seen : ℤ
  seen = c.sphere.inside.orient *ℤ c.w.inside.square -ℤ dot_of c.sphere.inside.centre c.w.inside.vector

  seen_is : seen ≡ power_of c.args.sphere c.args.w
  seen_is = λ i. power_of (c.sphere.view_is i) (c.w.view_is i)

  power : Holds 2304000000000000000 (power_of c.args.sphere c.args.w) computed
  power =
      let p : Holds 2304000000000000000 seen computed =
      stored tt (given tt c.sphere.invariant.orient_in *! given tt c.w.invariant.square_in)
      -! returned tt c.dot.ensures (at_most_dot c.sphere.invariant.centre_in c.w.invariant.vector_in) in
      record { value = p.value ∙ seen_is; bound = at_most_as (sym seen_is) p.bound }

  less : lt_z (bits computed) (pos 0) ≡ lt_z (power_of c.args.sphere c.args.w) (pos 0)
  less = ap (λ (z : ℤ). lt_z z (pos 0)) (stored tt power).value

  same : equal computed (pos 0) ≡ equal (power_of c.args.sphere c.args.w) (pos 0)
  same = ap (λ (z : ℤ). equal z (pos 0)) power.value

pub dot-requires : goal.dot-requires
dot-requires c = products_fit tt tt tt c.sphere.invariant.centre_in c.w.invariant.vector_in

pub overflow_mul-power : goal.overflow_mul-power
overflow_mul-power c = fits tt (given tt c.sphere.invariant.orient_in *! given tt c.w.invariant.square_in)

pub overflow_sub-power : goal.overflow_sub-power
overflow_sub-power c = fits tt (power (goal.at.overflow_sub-power c).After-dot)

pub returns-then-power-lt0 : goal.returns-then-power-lt0
returns-then-power-lt0 c = rw (sym (less (goal.at.returns-then-power-lt0 c).After-dot) ∙ c.if-power-lt0.true)

pub returns-then-power-eq0 : goal.returns-then-power-eq0
returns-then-power-eq0 c =
    let d = (goal.at.returns-then-power-eq0 c).After-dot in
    rw (sym (less d) ∙ c.if-power-lt0.false, sym (same d) ∙ zero_bits (computed d) (fits tt (power d)) c.if-power-eq0.true)

pub returns : goal.returns
returns c =
    let d = (goal.at.returns c).After-dot in
    rw (sym (less d) ∙ c.if-power-lt0.false, sym (same d) ∙ other_bits (computed d) c.if-power-eq0.false)
