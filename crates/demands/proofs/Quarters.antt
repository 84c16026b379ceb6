-- Lengths in quarters, of any lists of which demand 2 holds. Assumes nothing.
use mathlib.Core.Path.{◌≡◌, sym, ◌∙◌, ap, subst}
use mathlib.Core.List.{List, []}
use Prim.Native.Nat.{ℕ, zero, suc, ◌+◌, ◌*◌, ◌≤◌, ◌<◌}
use native.Mathlib.Nat.{mul-le-mul_left}
use native.Mathlib.Omega.{arith}
use lib.ListN.{length}
use Rattle.polygon.specs.declared.Polygon.{Polygon}
use Rattle.polygon.specs.Polygon.{ValidPolygon}
use Rattle.geometry.specs.declared.Vector.{Vector}
use Rattle.geometry.specs.Bounds.{max_normal, Within}
use Rattle.geometry.specs.Faces.{length_of}
use Rattle.geometry.proofs.Faces.{normal_within}
use Rattle.geometry.proofs.Lengths.{longer_is_more}
use Rattle.terms.specs.Entries.{entry_at, outer, inner, vertex_a, vertex_b, vertex_c}
use Rattle.lists.proofs.Members.{entry_member}
use Rattle.dihedrals.specs.Dihedrals.{face_normal}
use Rattle.dihedrals.proofs.Faces.{face_within}
use Rattle.dihedrals.proofs.Quarters.{hinge_in_quarters}
use Rattle.weights.proofs.Surfaces.{outside_within}
use Rattle.weights.proofs.Quarters.{own_weight_in_quarters, rim_bend_in_quarters}
use Rattle.finder.proofs.Candidates.{candidate_length}
use Rattle.demands.specs.Demand2.{Demand2}
use Rattle.demands.specs.Quarters.{IsNormal, of_triangle, of_surface, InQuarters}
use Rattle.demands.proofs.Candidates.{true_candidate}

-- every normal is within the bounds of the code
pub within : {n : Vector} → IsNormal n → Within max_normal n
within (of_triangle a b c ha hb hc) = normal_within ha hb hc
within (of_surface k r) = outside_within r

module _ (p : Polygon) (v : ValidPolygon p) {candidates : List (List ℕ)} {weights : List ℕ} {rows : List (List ℕ)}
    (d : Demand2 p candidates weights rows) where
  -- a candidate's normal, within its bounds and not zero
  face : (i : ℕ) → i < length candidates → Within max_normal (face_normal p (entry_at candidates i)) × (0 < length_of (face_normal p (entry_at candidates i)))
  face i h =
      let f = d.only_listed (entry_at candidates i) (entry_member candidates [] i h) in
      let r = true_candidate p f.0 f.1 f.2 f.4 in (
        face_within {t = entry_at candidates i} v (record {
          a<n = omega (arith, ap vertex_a f.3, r.0, r.1, r.2);
          b<n = omega (arith, ap vertex_b f.3, r.1, r.2);
          c<n = omega (arith, ap vertex_c f.3, r.2);
        }),
        subst (λ (t : List ℕ). 0 < length_of (face_normal p t)) (sym f.3) (candidate_length p v f.0 f.1 f.2 r.3),
      )

  -- a longer length at the same factor, unless that is 0
  more : (f l m b c : ℕ) → 0 < f → l < m → b ≡ c → f * l + b < f * m + c
  more zero l m b c p h e = absurd (omega arith)
  more (suc f) l m b c p h e =
      let n : l ≤ m = omega arith in
      let k = mul-le-mul_left f n in
      omega arith

  pub in_quarters : InQuarters p candidates weights rows
  in_quarters = record {
    weight = λ i h. let f = face i h in let w = own_weight_in_quarters p (entry_at candidates i) f.0 f.1 in (w.0, w.1, w.2, d.weight i h ∙ w.3);
    outside = λ i u h k some. let f = face i h in rim_bend_in_quarters p (entry_at candidates i) f.0 f.1 u (v.normals_in_range u k) some;
    row = λ k h.
        let t = entry_at candidates (inner (entry_at rows k)) in
        let u = entry_at candidates (outer (entry_at rows k)) in
        let f = face (inner (entry_at rows k)) (d.hinge_inner k h) in
        let g = face (outer (entry_at rows k)) (d.hinge_outer k h) in
        let w = hinge_in_quarters p t u f.0 g.0 f.1 g.1 in
        (w.0, w.1, d.hinge_weights k h ∙ w.2);
    told_apart = λ i j hi hj longer above same.
        let f = face i hi in
        let g = face j hj in
        let x = own_weight_in_quarters p (entry_at candidates i) f.0 f.1 in
        let y = own_weight_in_quarters p (entry_at candidates j) g.0 g.1 in
        let l = longer_is_more (face_normal p (entry_at candidates i)) (face_normal p (entry_at candidates j)) longer x.0 y.0 x.1 y.1 in
        omega (arith, d.weight i hi, d.weight j hj, x.3, y.3, more p.area_factor x.0 y.0 _ _ above l same);
  }
