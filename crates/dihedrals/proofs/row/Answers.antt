-- `dihedrals::row` meets its contract. Assumes nothing.
use mathlib.Core.Path.{sym, ◌∙◌, ap, subst}
use mathlib.Core.List.{[], ◌∷◌}
use Prim.Native.Nat.{ℕ, ◌≤◌}
use native.Mathlib.Omega.{arith}
use Rattle.integers.proofs.Bounds.{Holds, bits, returned, at_most_held}
use Rattle.geometry.specs.Vectors.{dot_of}
use Rattle.geometry.specs.Bounds.{max_dot, max_bend}
use Rattle.geometry.specs.Faces.{bend_of, bend_weight_of}
use Rattle.geometry.proofs.Vectors.{products_fit}
use Rattle.geometry.proofs.Lengths.{length_bound}
use Rattle.geometry.proofs.Faces.{normals_dot}
use Rattle.geometry.proofs.Bends.{bend_bound}
use Rattle.dihedrals.proofs.row.Goals.{After-dot-d}
use Rattle.dihedrals.proofs.row.Goals as goal

-- the dot product, as the machine hands it on
dot-held : (c : goal.After-dot-d) → Holds max_dot (dot_of c.args.inner.normal c.args.outer.normal) (bits c.dot-d.result)
dot-held c = returned tt c.dot-d.ensures (normals_dot c.args.inner.measured.within c.args.outer.measured.within)

pub dot-d-requires : goal.dot-d-requires
dot-d-requires c = products_fit tt tt tt c.args.inner.measured.within c.args.outer.measured.within

pub bend-requires : goal.bend-requires
bend-requires c =
    let inner = c.args.inner.measured in
    let outer = c.args.outer.measured in (
      at_most_held (dot-held (goal.at.bend-requires c).After-dot-d),
      inner.above_0,
      omega (arith, inner.is, length_bound inner.within),
      outer.above_0,
      omega (arith, outer.is, length_bound outer.within),
    )

pub bend_weight-weight-requires : goal.bend_weight-weight-requires
bend_weight-weight-requires c = (c.requires.0, subst (λ (b : ℕ). b ≤ max_bend) (sym c.bend.ensures) (bend_bound _ _ _))

pub returns : goal.returns
returns c =
    ap (λ (w : ℕ). c.args.o ∷ c.args.i ∷ w ∷ [])
    (c.bend_weight-weight.ensures
    ∙ ap (λ (b : ℕ). bend_weight_of c.args.factor b)
    (c.bend.ensures ∙ (λ i. bend_of ((dot-held (goal.at.returns c).After-dot-d).value i) (c.args.inner.measured.is i) (c.args.outer.measured.is i))))
