-- Demand 2 of the lists of a valid polygon. Assumes nothing.
use mathlib.Core.Path.{◌≡◌, refl, sym, ◌∙◌, ap, subst}
use mathlib.Core.List.{List, []}
use Prim.Native.Nat.{ℕ, zero, suc, ◌-◌, ◌≤◌, ◌<◌}
use native.Mathlib.Omega.{arith}
use lib.ListN.{length, length-map}
use Rattle.polygon.specs.declared.Polygon.{Polygon}
use Rattle.polygon.specs.Polygon.{ValidPolygon}
use Rattle.terms.specs.Entries.{entry_at, outer, inner, row_weight}
use Rattle.jobs.proofs.Order.{true_before, true_row_before, hangs_true, true_hangs, row_before_same}
use Rattle.lists.proofs.Members.{entry_member, member_entry}
use Rattle.faces.proofs.Members.{triples_member, triples_put}
use Rattle.delaunay.specs.Candidates.{is_candidate, candidates_of}
use Rattle.dihedrals.specs.Dihedrals.{hinge_weight, row_at, rows_of}
use Rattle.weights.specs.Weights.{own_weight, weights_of}
use Rattle.weights.proofs.Edges.{weight_at}
use Rattle.demands.specs.Demand2.{IsRow, Demand2}
use Rattle.demands.proofs.Candidates.{true_candidate, candidate_true}
use Rattle.finder.proofs.Accepted.{row_hinge, hinge_row, rows_in_order, candidates_in_order, weights_allowed}

module _ (p : Polygon) (v : ValidPolygon p) where
  abbrev cs : List (List ℕ)
  cs = candidates_of p

  abbrev rows : List (List ℕ)
  rows = rows_of p cs

  same_row : (o i j k : ℕ) → IsRow rows j o i → IsRow rows k o i → (d : ℕ) → k - j ≡ d → k ≤ j
  same_row o i j k a b zero e = omega arith
  same_row o i j k a b (suc d) e =
      absurd (row_before_same (a.outer_is ∙ sym b.outer_is) (a.inner_is ∙ sym b.inner_is)
      ((rows_in_order p cs).ascending j k (omega arith) b.below))

  pub demand_2 : Demand2 p cs (weights_of p cs) rows
  demand_2 = record {
    listed = λ a b c f. let r = true_candidate p a b c f in triples_put p.n (is_candidate p) a b c r.0 r.1 r.2 r.3;
    only_listed = λ t m. let r = triples_member p.n (is_candidate p) t m in (r.a, r.b, r.c, r.is, candidate_true p r.a r.b r.c r.holds_of);
    ascending = λ i j h k. true_before (entry_at cs i) (entry_at cs j) ((candidates_in_order p v).ascending i j h k);
    weight_count = length-map cs (own_weight p);
    weight = weight_at p cs;
    hinge = λ k h. true_hangs (entry_at cs (inner (entry_at rows k))) (entry_at cs (outer (entry_at rows k))) ((rows_in_order p cs).named k h).hanging;
    hinge_outer = λ k h. ((rows_in_order p cs).named k h).outer_is;
    hinge_inner = λ k h. ((rows_in_order p cs).named k h).inner_is;
    hinge_weights = λ k h. weigh k h;
    row = λ o i ho hi e. let f = member_entry rows [] (row_at p cs o i) (hinge_row p cs o i ho hi (hangs_true (entry_at cs i) (entry_at cs o) e)) in
        (f.at, record { below = f.below; outer_is = ap outer f.is; inner_is = ap inner f.is });
    one_row = λ o i j k a b. let l = same_row o i j k a b (k - j) refl in let m = same_row o i k j b a (j - k) refl in omega arith;
    rows_ascending = λ j k h l. true_row_before (entry_at rows j) (entry_at rows k) ((rows_in_order p cs).ascending j k h l);
    light = λ i h. (weights_allowed p v).own i h;
    row_light = λ k h. (weights_allowed p v).of_row k h;
  }
    where
      weigh : (k : ℕ) → k < length rows → row_weight (entry_at rows k)
          ≡ hinge_weight p (entry_at cs (inner (entry_at rows k))) (entry_at cs (outer (entry_at rows k)))
      weigh k h =
          let f = row_hinge p cs (entry_at rows k) (entry_member rows [] k h) in
          subst (λ (r : List ℕ). row_weight r ≡ hinge_weight p (entry_at cs (inner r)) (entry_at cs (outer r))) (sym f.is) refl
