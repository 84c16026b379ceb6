-- A candidate's face as it is computed. Assumes nothing.
use mathlib.Core.Path.{◌≡◌, sym, ◌∙◌, ap, subst}
use mathlib.Core.List.{List, []}
use Prim.Native.Nat.{ℕ, ◌<◌}
use lib.ListN.{length, take, get_or, length-map}
use Rattle.lists.specs.Lists.{filled}
use Rattle.lists.proofs.Maps.{map_at}
use Rattle.lists.proofs.Writing.{taken}
use Rattle.polygon.specs.declared.Polygon.{Polygon}
use Rattle.polygon.specs.Polygon.{ValidPolygon}
use Rattle.geometry.specs.declared.Vector.{Vector}
use Rattle.geometry.specs.Bounds.{max_normal, Within}
use Rattle.geometry.specs.Faces.{length_of}
use Rattle.geometry.proofs.Vectors.{within_as}
use Rattle.geometry.proofs.Faces.{normal_within}
use Rattle.terms.specs.Entries.{entry_at, vertex_a, vertex_b, vertex_c}
use Rattle.dihedrals.specs.Dihedrals.{face_normal, lengths_of}
use Rattle.dihedrals.specs.Lists.{Corners, ProperCandidates, Measured}

pub face_within : {p : Polygon} {t : List ℕ} → ValidPolygon p → Corners p t → Within max_normal (face_normal p t)
face_within {p} {t} v c = normal_within (v.on_grid (vertex_a t) c.a<n) (v.on_grid (vertex_b t) c.b<n) (v.on_grid (vertex_c t) c.c<n)

pub length_at : (p : Polygon) (cs : List (List ℕ)) (i : ℕ) → i < length cs → get_or (lengths_of p cs) i 0 ≡ length_of (face_normal p (entry_at cs i))
length_at p cs i h = map_at (λ t. length_of (face_normal p t)) cs [] 0 i h

-- the bend with a candidate can be computed
pub face_measured : {p : Polygon} {cs : List (List ℕ)} (s : ProperCandidates p cs) (i : ℕ) → i < length cs → {n : Vector} {m : ℕ} →
    n ≡ face_normal p (entry_at cs i) → m ≡ length_of (face_normal p (entry_at cs i)) → Measured n m
face_measured {p} {cs} s i h {n} {m} en em = record {
  within = within_as en (face_within s.valid (s.corners i h));
  is = em ∙ ap length_of (sym en);
  above_0 = subst (λ (k : ℕ). 0 < k) (sym em) (s.normals i h);
}

-- the lengths in the first places of a table
pub first_lengths : (p : Polygon) (cs : List (List ℕ)) (table : List ℕ) {lengths : List ℕ} → lengths ≡ filled (lengths_of p cs) table →
    take (length cs) lengths ≡ lengths_of p cs
first_lengths p cs table e = taken (lengths_of p cs) table (sym (length-map cs (λ t. length_of (face_normal p t)))) e
