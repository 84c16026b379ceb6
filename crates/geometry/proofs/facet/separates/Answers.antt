-- `geometry::facet::separates` meets its contract. The bounds are those of the pencil and of the lifted points.
use mathlib.Core.Path.{◌≡◌, sym, ◌∙◌, ap}
use mathlib.Core.Bool.{Bool}
use lib.IntN.{ℤ, pos}
use lib.Signed.{lt_z, le_z}
use Rattle.integers.proofs.Bounds.{bits, returned}
use Rattle.geometry.specs.Vectors.{dot_of}
use Rattle.geometry.proofs.Vectors.{at_most_dot, products_fit}
use Rattle.geometry.proofs.facet.separates.Goals.{After-dot-j}
use Rattle.geometry.proofs.facet.separates.Goals as goal

-- the two orientations
module _ (c : goal.After-dot-j) where
  first : bits c.dot-i.result ≡ dot_of c.args.pencil.normal c.args.s.vector
  first =
      (returned tt c.dot-i.ensures (at_most_dot c.pencil.invariant.normal_in c.s.invariant.vector_in)).value
      ∙ (λ i. dot_of (c.pencil.view_is i).normal (c.s.view_is i).vector)

  second : bits c.dot-j.result ≡ dot_of c.args.pencil.normal c.args.w.vector
  second =
      (returned tt c.dot-j.ensures (at_most_dot c.pencil.invariant.normal_in c.w.invariant.vector_in)).value
      ∙ (λ i. dot_of (c.pencil.view_is i).normal (c.w.view_is i).vector)

  negative : {b : Bool} → lt_z (bits c.dot-i.result) (pos 0) ≡ b → lt_z (dot_of c.args.pencil.normal c.args.s.vector) (pos 0) ≡ b
  negative e = sym (ap (λ (z : ℤ). lt_z z (pos 0)) first) ∙ e

  positive : {b : Bool} → lt_z (pos 0) (bits c.dot-i.result) ≡ b → lt_z (pos 0) (dot_of c.args.pencil.normal c.args.s.vector) ≡ b
  positive e = sym (ap (λ (z : ℤ). lt_z (pos 0) z) first) ∙ e

pub dot-i-requires : goal.dot-i-requires
dot-i-requires c = products_fit tt tt tt c.pencil.invariant.normal_in c.s.invariant.vector_in

pub dot-j-requires : goal.dot-j-requires
dot-j-requires c = products_fit tt tt tt c.pencil.invariant.normal_in c.w.invariant.vector_in

pub returns-then-i-lt0 : goal.returns-then-i-lt0
returns-then-i-lt0 c =
    let d = (goal.at.returns-then-i-lt0 c).After-dot-j in
    rw (negative d c.if-i-lt0.true) (ap (λ (z : ℤ). le_z (pos 0) z) (second d))

pub returns-then-i-gt0 : goal.returns-then-i-gt0
returns-then-i-gt0 c =
    let d = (goal.at.returns-then-i-gt0 c).After-dot-j in
    rw (negative d c.if-i-lt0.false, positive d c.if-i-gt0.true) (ap (λ (z : ℤ). le_z z (pos 0)) (second d))

pub returns-else-i-gt0 : goal.returns-else-i-gt0
returns-else-i-gt0 c =
    let d = (goal.at.returns-else-i-gt0 c).After-dot-j in
    rw (negative d c.if-i-lt0.false, positive d c.if-i-gt0.false) c.if-i-gt0.false
