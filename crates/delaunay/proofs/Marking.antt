-- What the two searches mark is the set of candidates, and what is marked in an empty set lists them. Assumes nothing.
use mathlib.Core.Path.{◌≡◌, sym, ◌∙◌, ap}
use mathlib.Core.Bool.{Bool, true, false}
use mathlib.Core.List.{List}
use Prim.Native.Nat.{ℕ, ◌≤◌, ◌<◌}
use native.Mathlib.Omega.{arith}
use Rattle.terms.specs.Limits.{max_vertices}
use Rattle.polygon.specs.declared.Polygon.{Polygon}
use Rattle.lists.specs.Lists.{either}
use Rattle.lists.proofs.Choice.{yes, no}
use Rattle.faces.specs.Faces.{triples_of}
use Rattle.std.proofs.Common.{Result}
use Rattle.codes.specs.declared.Refusal.{Refusal}
use Rattle.faces.specs.Masks.{has}
use Rattle.faces.proofs.Sets.{triples_same}
use Rattle.delaunay_search.specs.Search.{twelve_if, Marked}
use Rattle.delaunay_tetrahedra.specs.Tetrahedra.{is_face_of_four, cospherical}
use Rattle.delaunay_triangles.specs.Triangles.{is_counted_three, cocircular}
use Rattle.delaunay.specs.Candidates.{is_flat, is_candidate, candidates_of, degenerate}

module _ (p : Polygon) {marks₀ marks : List ℕ} {answer : Result (Unit {0}) Refusal} where
  -- of a flat polygon the threes that count, of another the faces of the fours
  pub marked_flat : is_flat p ≡ true → Marked (is_counted_three p) (cocircular p) marks₀ answer marks → Marked (is_candidate p) (degenerate p) marks₀ answer marks
  unfolding is_candidate degenerate
  marked_flat e s = let d = yes (cocircular p) (cospherical p) e in record {
    searched = record {
      found = s.searched.found ∙ ap twelve_if (sym d);
      put = λ h. record {
        at = λ x y z hx hy hz. (s.searched.put (sym d ∙ h)).at x y z hx hy hz
            ∙ ap (λ (t : Bool). either (has marks₀ x y z) t) (sym (yes (is_counted_three p x y z) (is_face_of_four p x y z) e));
      };
    };
    empty = λ h. s.empty (sym d ∙ h);
  }

  pub marked_solid : is_flat p ≡ false → Marked (is_face_of_four p) (cospherical p) marks₀ answer marks → Marked (is_candidate p) (degenerate p) marks₀ answer marks
  unfolding is_candidate degenerate
  marked_solid e s = let d = no (cocircular p) (cospherical p) e in record {
    searched = record {
      found = s.searched.found ∙ ap twelve_if (sym d);
      put = λ h. record {
        at = λ x y z hx hy hz. (s.searched.put (sym d ∙ h)).at x y z hx hy hz
            ∙ ap (λ (t : Bool). either (has marks₀ x y z) t) (sym (no (is_counted_three p x y z) (is_face_of_four p x y z) e));
      };
    };
    empty = λ h. s.empty (sym d ∙ h);
  }

module _ (p : Polygon) where
  -- what was marked in an empty set lists the candidates
  pub listed_are : {marks₀ marks : List ℕ} {answer : Result (Unit {0}) Refusal} → p.n ≤ max_vertices →
      ((x y z : ℕ) → x < max_vertices → y < max_vertices → z < max_vertices → has marks₀ x y z ≡ false) → degenerate p ≡ false →
      Marked (is_candidate p) (degenerate p) marks₀ answer marks → triples_of p.n (has marks) ≡ candidates_of p
  listed_are {marks₀} {marks} h none e m =
      triples_same p.n (has marks) (is_candidate p)
      (λ x y z hx hy hz. (m.searched.put e).at x y z (omega arith) (omega arith) (omega arith)
      ∙ ap (λ (t : Bool). either t (is_candidate p x y z)) (none x y z (omega arith) (omega arith) (omega arith)))
