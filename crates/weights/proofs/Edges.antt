-- The edges of a candidate of a polygon: which normals they have. Assumes nothing.
use mathlib.Core.Path.{◌≡◌}
use mathlib.Core.Bool.{true}
use mathlib.Core.List.{List, []}
use Prim.Native.Nat.{ℕ, ◌<◌}
use native.Mathlib.Omega.{arith}
use lib.ListN.{length, get_or}
use Rattle.lists.specs.Lists.{both}
use Rattle.lists.proofs.Choice.{both_left, both_right}
use Rattle.lists.proofs.Maps.{map_at}
use Rattle.polygon.specs.declared.Polygon.{Polygon}
use Rattle.polygon.specs.Polygon.{ValidPolygon}
use Rattle.polygon.specs.Normal.{is_none, NormalInRange}
use Rattle.geometry.specs.declared.Vector.{Vector}
use Rattle.geometry.specs.Faces.{length_of, area_weight_of}
use Rattle.terms.specs.Entries.{entry_at, vertex_a, vertex_b, vertex_c}
use Rattle.dihedrals.specs.Lists.{Corners}
use Rattle.weights.specs.declared.outside.EdgeNormals.{EdgeNormals}
use Rattle.weights.specs.Weights.{own_weight, weights_of}
use Rattle.weights.specs.Edges.{edges_of, all_none, own_weight_of}
use Rattle.weights.proofs.Surfaces.{edge_in_range, outside_none}

-- the normals outside the edges are those of a polygon
pub record EdgesInRange (e : EdgeNormals) : Type 0 where
  pub of_ab : NormalInRange e.ab
  pub of_bc : NormalInRange e.bc
  pub of_ac : NormalInRange e.ac

pub edges_in_range : {p : Polygon} {t : List ℕ} → ValidPolygon p → Corners p t → EdgesInRange (edges_of p t)
edges_in_range {p} {t} v c =
    let a = v.normals_in_range (vertex_a t) c.a<n in
    let b = v.normals_in_range (vertex_b t) c.b<n in
    let k = v.normals_in_range (vertex_c t) c.c<n in
    record {
      of_ab = edge_in_range p.n (vertex_a t) (vertex_b t) a b;
      of_bc = edge_in_range p.n (vertex_b t) (vertex_c t) b k;
      of_ac = edge_in_range p.n (vertex_a t) (vertex_c t) a k;
    }

-- where no edge has a surface outside, the own weight is the area weight
pub none_outside : (area bend : ℕ) (normal : Vector) (e : EdgeNormals) → all_none e ≡ true → own_weight_of area bend normal e
    ≡ area_weight_of area (length_of normal)
none_outside area bend normal e h =
    let rest = both_right (is_none e.ab) (both (is_none e.bc) (is_none e.ac)) h in
    omega (
      arith,
      outside_none bend normal e.ab (both_left (is_none e.ab) (both (is_none e.bc) (is_none e.ac)) h),
      outside_none bend normal e.bc (both_left (is_none e.bc) (is_none e.ac) rest),
      outside_none bend normal e.ac (both_right (is_none e.bc) (is_none e.ac) rest),
    )

pub weight_at : (p : Polygon) (cs : List (List ℕ)) (i : ℕ) → i < length cs → get_or (weights_of p cs) i 0 ≡ own_weight p (entry_at cs i)
weight_at p cs i h = map_at (own_weight p) cs [] 0 i h
