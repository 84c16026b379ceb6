-- `weights::outside::weight` meets its contract. Assumes nothing.
use mathlib.Core.Path.{◌≡◌, sym, ◌∙◌, ap, subst}
use Prim.Native.Nat.{ℕ, ◌≤◌, ◌<◌}
use native.Mathlib.Omega.{arith}
use Rattle.integers.proofs.Bounds.{Holds, bits, returned, at_most_held}
use Rattle.geometry.specs.declared.Vector.{Vector}
use Rattle.polygon.specs.declared.normal.Normal.{Normal}
use Rattle.polygon.specs.Normal.{NormalInRange}
use Rattle.geometry.specs.Vectors.{dot_of}
use Rattle.geometry.specs.Bounds.{max_normal, max_dot, max_bend, Within}
use Rattle.geometry.specs.Faces.{length_of, bend_of, bend_weight_of}
use Rattle.geometry.proofs.Vectors.{products_fit, within_as}
use Rattle.geometry.proofs.Lengths.{length_bound}
use Rattle.geometry.proofs.Faces.{normals_dot}
use Rattle.geometry.proofs.Bends.{bend_bound}
use Rattle.weights.specs.Weights.{vector_of}
use Rattle.weights.proofs.Surfaces.{outside_within, outside_above_0, outside_none, outside_some}
use Rattle.weights.proofs.outside.weight.Goals.{After-dot-d}
use Rattle.weights.proofs.outside.weight.Goals as goal

-- the surface's normal as a vector
within : {k : Vector} (outside : Normal) → k ≡ vector_of outside → NormalInRange outside → Within max_normal k
within outside e h = within_as e (outside_within h)

-- the dot product, as the machine hands it on
dot-held : (c : goal.After-dot-d) → Holds max_dot (dot_of c.args.inside.normal c.vector-k.result) (bits c.dot-d.result)
dot-held c = returned tt c.dot-d.ensures (normals_dot c.args.inside.measured.within (within c.args.outside c.vector-k.ensures c.requires.1))

pub returns-then-is_none : goal.returns-then-is_none
returns-then-is_none c =
    sym (outside_none c.args.factor c.args.inside.normal c.args.outside (sym c.is_none.ensures ∙ c.if-is_none.true))

pub dot-d-requires : goal.dot-d-requires
dot-d-requires c = products_fit tt tt tt c.args.inside.measured.within (within c.args.outside c.vector-k.ensures c.requires.1)

pub normal_length-requires : goal.normal_length-requires
normal_length-requires c = within c.args.outside c.vector-k.ensures c.requires.1

pub bend-requires : goal.bend-requires
bend-requires c =
    let m = c.args.inside.measured in
    let is : c.normal_length.result ≡ length_of (vector_of c.args.outside) = c.normal_length.ensures ∙ ap length_of c.vector-k.ensures in
    let some = sym c.is_none.ensures ∙ c.if-is_none.false in (
      at_most_held (dot-held (goal.at.bend-requires c).After-dot-d),
      m.above_0,
      omega (arith, m.is, length_bound m.within),
      subst (λ (k : ℕ). 0 < k) (sym is) (outside_above_0 c.args.outside c.requires.1 some),
      omega (arith, c.normal_length.ensures, length_bound (within c.args.outside c.vector-k.ensures c.requires.1)),
    )

pub bend_weight-requires : goal.bend_weight-requires
bend_weight-requires c = (c.requires.0, subst (λ (b : ℕ). b ≤ max_bend) (sym c.bend.ensures) (bend_bound _ _ _))

pub returns : goal.returns
returns c =
    let a = c.args in
    let is = c.normal_length.ensures ∙ ap length_of c.vector-k.ensures in
    let some = sym c.is_none.ensures ∙ c.if-is_none.false in
    let d = (dot-held (goal.at.returns c).After-dot-d).value ∙ ap (dot_of a.inside.normal) c.vector-k.ensures in
    c.bend_weight.ensures
    ∙ ap (bend_weight_of a.factor) (c.bend.ensures ∙ (λ i. bend_of (d i) (a.inside.measured.is i) (is i)))
    ∙ sym (outside_some a.factor a.inside.normal a.outside some)
