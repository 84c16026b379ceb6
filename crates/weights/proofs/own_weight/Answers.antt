-- `weights::own_weight` meets its contract: four weights, whose sum is below 2 ^ 32. Assumes nothing.
use mathlib.Core.Path.{◌≡◌, sym, ◌∙◌, ap, subst}
use Prim.Native.Nat.{ℕ, ◌+◌, ◌*◌, ◌≤◌}
use native.Mathlib.Omega.{arith}
use borrow.Author.Rules.{rules}
use Rattle.terms.specs.Limits.{max_area_factor, max_bend_factor}
use Rattle.polygon.specs.declared.normal.Normal.{Normal}
use Rattle.geometry.specs.Bounds.{max_length, max_bend}
use Rattle.geometry.specs.declared.Vector.{Vector}
use Rattle.geometry.specs.Faces.{length_of, area_weight_of}
use Rattle.geometry.proofs.Lengths.{length_bound}
use Rattle.geometry.proofs.Faces.{area_weight_bound}
use Rattle.dihedrals.specs.Dihedrals.{face_normal}
use Rattle.weights.specs.declared.outside.EdgeNormals.{EdgeNormals}
use Rattle.weights.specs.Edges.{outside_weight_of, own_weight_of}
use Rattle.weights.proofs.Surfaces.{outside_bound}
use Rattle.weights.proofs.Edges.{EdgesInRange, edges_in_range, none_outside}
use Rattle.weights.proofs.own_weight.Goals.{After-edge_normals-edges}
use Rattle.weights.proofs.own_weight.Goals as goal

-- the area weight, and the largest it can be; the normals outside
module _ (g : goal.After-edge_normals-edges) where
  abbrev normal : Vector
  normal = face_normal g.args.rim.now.polygon g.args.t

  area_is : g.area_weight-area.result ≡ area_weight_of g.args.rim.now.polygon.area_factor (length_of normal)
  area_is = g.area_weight-area.ensures ∙ ap (area_weight_of g.args.rim.now.polygon.area_factor) g.requires.1.is

  area_most : g.area_weight-area.result ≤ max_area_factor * max_length
  area_most =
      subst (λ (w : ℕ). w ≤ max_area_factor * max_length) (sym area_is)
      (area_weight_bound g.args.rim.now.valid.area_factor (length_bound g.requires.1.within))

  in_range : EdgesInRange g.edge_normals-edges.result
  in_range = subst (λ (e : EdgeNormals). EdgesInRange e) (sym g.edge_normals-edges.ensures) (edges_in_range g.args.rim.now.valid g.requires.0)

-- the largest weight of a bend
bend_most : {factor r : ℕ} (n : Vector) (x : Normal) → factor ≤ max_bend_factor → r ≡ outside_weight_of factor n x → r ≤ max_bend_factor * max_bend
bend_most n x h e = subst (λ (w : ℕ). w ≤ max_bend_factor * max_bend) (sym e) (outside_bound _ n x h)

pub area_weight-area-requires : goal.area_weight-area-requires
area_weight-area-requires c = let m = c.requires.1 in (c.args.rim.now.valid.area_factor, omega (arith, m.is, length_bound m.within))

pub returns-then-all_none : goal.returns-then-all_none
returns-then-all_none c =
    let g = (goal.at.returns-then-all_none c).After-edge_normals-edges in
    let p = c.args.rim.now.polygon in
    area_is g ∙ sym (none_outside p.area_factor p.bend_factor (normal g) c.edge_normals-edges.result (sym c.all_none.ensures ∙ c.if-all_none.true))
    ∙ ap (own_weight_of p.area_factor p.bend_factor (normal g)) c.edge_normals-edges.ensures

pub weight-requires : goal.weight-requires
weight-requires c = let r = in_range (goal.at.weight-requires c).After-edge_normals-edges in (c.args.rim.now.valid.bend_factor, search rules)

pub weight-requires-2 : goal.weight-requires-2
weight-requires-2 c = let r = in_range (goal.at.weight-requires-2 c).After-edge_normals-edges in (c.args.rim.now.valid.bend_factor, search rules)

pub weight-requires-3 : goal.weight-requires-3
weight-requires-3 c = let r = in_range (goal.at.weight-requires-3 c).After-edge_normals-edges in (c.args.rim.now.valid.bend_factor, search rules)

pub overflow_add-result : goal.overflow_add-result
overflow_add-result c =
    omega (arith, area_most (goal.at.overflow_add-result c).After-edge_normals-edges, bend_most _ _ c.args.rim.now.valid.bend_factor c.weight.ensures)

pub overflow_add-result-2 : goal.overflow_add-result-2
overflow_add-result-2 c =
    let b = c.args.rim.now.valid.bend_factor in
    omega (arith, area_most (goal.at.overflow_add-result-2 c).After-edge_normals-edges, bend_most _ _ b c.weight.ensures, bend_most _ _ b c.weight-2.ensures)

pub overflow_add-result-3 : goal.overflow_add-result-3
overflow_add-result-3 c =
    let b = c.args.rim.now.valid.bend_factor in
    omega (
      arith,
      area_most (goal.at.overflow_add-result-3 c).After-edge_normals-edges,
      bend_most _ _ b c.weight.ensures,
      bend_most _ _ b c.weight-2.ensures,
      bend_most _ _ b c.weight-3.ensures,
    )

pub returns : goal.returns
returns c =
    let g = (goal.at.returns c).After-edge_normals-edges in
    let f = c.args.rim.now.polygon.bend_factor in
    let n = c.normal.ensures in
    let e = c.edge_normals-edges.ensures in
    λ i. area_is g i + (c.weight.ensures ∙ (λ j. outside_weight_of f (n j) (e j).ab)) i
    + (c.weight-2.ensures ∙ (λ j. outside_weight_of f (n j) (e j).bc)) i
    + (c.weight-3.ensures ∙ (λ j. outside_weight_of f (n j) (e j).ac)) i
