-- The lists of a valid polygon are those of a direct job that no number of 15, 16 and 17 is due on. Assumes nothing.
use mathlib.Core.Path.{◌≡◌, sym, ◌∙◌, ap, subst}
use mathlib.Core.List.{List, [], Memᴰ}
use Prim.Native.Nat.{ℕ, ◌≤◌, ◌<◌}
use native.Mathlib.Nat.{le_trans}
use native.Mathlib.Omega.{arith}
use lib.Dec.{lit≤}
use lib.ListN.{length}
use Rattle.polygon.specs.declared.Polygon.{Polygon}
use Rattle.polygon.specs.Polygon.{ValidPolygon}
use Rattle.geometry.specs.Vectors.{dot_of}
use Rattle.geometry.specs.Faces.{length_of}
use Rattle.geometry.proofs.Faces.{bend_weight_bound}
use Rattle.geometry.proofs.Bends.{bend_bound}
use Rattle.terms.specs.Limits.{max_weight}
use Rattle.terms.specs.Entries.{entry_at, vertex_a, vertex_b, vertex_c, outer, inner, row_weight, hangs}
use Rattle.jobs.proofs.Order.{RowBefore, by_outer, by_inner, Hangs, hangs_true, true_hangs}
use Rattle.jobs.proofs.Lists as lists
use Rattle.lists.specs.Lists.{when}
use Rattle.lists.proofs.Members.{Ascending, over_member, over_put, when_member, when_put, over_ascending, when_ascending, ascending_at, entry_member}
use Rattle.delaunay.specs.Candidates.{is_candidate, candidates_of}
use Rattle.dihedrals.specs.Dihedrals.{face_normal, row_at, rows_on, rows_of}
use Rattle.weights.specs.Weights.{weights_of}
use Rattle.weights.proofs.Edges.{weight_at}
use Rattle.weights.proofs.RimEdges.{own_weight_bound}
use Rattle.finder.proofs.Candidates.{triples_ascend, candidate_at_lem}

-- ---- rows, of any list of candidates
module _ (p : Polygon) (cs : List (List ℕ)) where
  -- a row is that of a hanging pair
  pub record Hinge (r : List ℕ) : Type 0 where
    pub o : ℕ
    pub i : ℕ
    pub is : r ≡ row_at p cs o i
    pub o_is : o < length cs
    pub i_is : i < length cs
    pub hanging : Hangs (entry_at cs i) (entry_at cs o)

  pub row_hinge : (r : List ℕ) → Memᴰ r (rows_of p cs) → Hinge r
  row_hinge r m =
      let w = over_member 0 (length cs) (rows_on p cs) r m in
      let v = over_member 0 (length cs) (λ i. when (hangs (entry_at cs i) (entry_at cs w.at)) (row_at p cs w.at i)) r w.member in
      let e = when_member (hangs (entry_at cs v.at) (entry_at cs w.at)) (row_at p cs w.at v.at) r v.member in
      record {
        o = w.at;
        i = v.at;
        is = e.1;
        o_is = w.high;
        i_is = v.high;
        hanging = hangs_true (entry_at cs v.at) (entry_at cs w.at) e.0;
      }

  pub hinge_row : (o i : ℕ) → o < length cs → i < length cs → Hangs (entry_at cs i) (entry_at cs o) → Memᴰ (row_at p cs o i) (rows_of p cs)
  hinge_row o i h k e =
      over_put 0 (length cs) o (rows_on p cs) (row_at p cs o i) (omega arith) h
      (over_put 0 (length cs) i (λ i. when (hangs (entry_at cs i) (entry_at cs o)) (row_at p cs o i)) (row_at p cs o i)
      (omega arith) k (when_put (row_at p cs o i) (true_hangs (entry_at cs i) (entry_at cs o) e)))

  pub rows_ascend : Ascending RowBefore (rows_of p cs)
  rows_ascend =
      over_ascending 0 (length cs) (rows_on p cs)
      (λ o. over_ascending 0 (length cs) (λ i. when (hangs (entry_at cs i) (entry_at cs o)) (row_at p cs o i))
      (λ i. when_ascending (hangs (entry_at cs i) (entry_at cs o)) (row_at p cs o i))
      (λ i j x y h mx my. within o i j x y h (when_member (hangs (entry_at cs i) (entry_at cs o)) (row_at p cs o i) x mx).1
      (when_member (hangs (entry_at cs j) (entry_at cs o)) (row_at p cs o j) y my).1))
      (λ o u x y h mx my. by_outer (omega (arith, of_outer o x mx, of_outer u y my)))
    where
      within : (o i j : ℕ) (x y : List ℕ) → i < j → x ≡ row_at p cs o i → y ≡ row_at p cs o j → RowBefore x y
      within o i j x y h ex ey = by_inner (ap outer ex ∙ sym (ap outer ey)) (omega (arith, ap inner ex, ap inner ey))

      of_outer : (o : ℕ) (x : List ℕ) → Memᴰ x (rows_on p cs o) → outer x ≡ o
      of_outer o x m =
          let v = over_member 0 (length cs) (λ i. when (hangs (entry_at cs i) (entry_at cs o)) (row_at p cs o i)) x m in
          ap outer (when_member (hangs (entry_at cs v.at) (entry_at cs o)) (row_at p cs o v.at) x v.member).1

  pub rows_in_order : lists.Rows cs (rows_of p cs)
  rows_in_order = record {
    named = λ k h. let f = row_hinge (entry_at (rows_of p cs) k) (entry_member (rows_of p cs) [] k h) in record {
      outer_is = subst (λ (n : ℕ). n < length cs) (sym (ap outer f.is)) f.o_is;
      inner_is = subst (λ (n : ℕ). n < length cs) (sym (ap inner f.is)) f.i_is;
      hanging = subst (λ (r : List ℕ). Hangs (entry_at cs (inner r)) (entry_at cs (outer r))) (sym f.is) f.hanging;
    };
    ascending = λ i j h k. ascending_at [] rows_ascend i j h k;
  }

-- ---- the candidates of a valid polygon, and the weights
module _ (p : Polygon) (v : ValidPolygon p) where
  pub candidates_in_order : lists.Candidates p.n (candidates_of p)
  candidates_in_order = record {
    ordered = λ i h. let t = candidate_at_lem p v i h in record {
      a_b = omega (arith, ap vertex_a t.is, ap vertex_b t.is, t.a<b);
      b_c = omega (arith, ap vertex_b t.is, ap vertex_c t.is, t.b<c);
      c_n = omega (arith, ap vertex_c t.is, t.c<n);
    };
    ascending = λ i j h k. ascending_at [] (triples_ascend p.n (is_candidate p)) i j h k;
  }

  pub weights_allowed : lists.Weights (candidates_of p) (weights_of p (candidates_of p)) (rows_of p (candidates_of p))
  weights_allowed = record {
    own = λ i h. let o = candidates_in_order.ordered i h in subst (λ (w : ℕ). w ≤ max_weight) (sym (weight_at p (candidates_of p) i h))
        (own_weight_bound p (entry_at (candidates_of p) i) o.a_b o.b_c o.c_n v);
    of_row = λ k h. let f = row_hinge p (candidates_of p) (entry_at (rows_of p (candidates_of p)) k) (entry_member (rows_of p (candidates_of p)) [] k h) in
        subst (λ (w : ℕ). w ≤ max_weight) (sym (ap row_weight f.is))
        (le_trans (bend_weight_bound v.bend_factor
        (bend_bound (dot_of (face_normal p (entry_at (candidates_of p) f.i)) (face_normal p (entry_at (candidates_of p) f.o)))
        (length_of (face_normal p (entry_at (candidates_of p) f.i))) (length_of (face_normal p (entry_at (candidates_of p) f.o))))) (lit≤ tt));
  }
