-- Demand 2 of the tables that the finder's call leaves. Assumes nothing.
use mathlib.Core.Path.{◌≡◌, refl, sym, ap, ◌∙◌}
use mathlib.Core.List.{List}
use Prim.Native.Nat.{ℕ, zero, suc}
use lib.ListN.{length, take, drop, length-map}
use lib.Seq.{drop_at}
use Rattle.lists.specs.Lists.{filled}
use Rattle.lists.proofs.Writing.{filled_take}
use Rattle.polygon.specs.declared.Polygon.{Polygon}
use Rattle.polygon.specs.Polygon.{ValidPolygon}
use Rattle.polygon.proofs.Validity.{code_valid}
use Rattle.delaunay.specs.Candidates.{candidates_of}
use Rattle.dihedrals.specs.Dihedrals.{rows_of}
use Rattle.weights.specs.Weights.{own_weight, weights_of}
use Rattle.std.specs.Prelude.{Ok}
use Rattle.finder.specs.Finding.{counts, candidate_count_of, row_count_of, short_tables, find_by, find_number, find_call}
use Rattle.finder.proofs.Answers.{clear}
use Rattle.demands.specs.Demand2.{TablesHold}
use Rattle.demands.proofs.Demand2.{demand_2}

-- the lists in the first places
pub filled_hold : (p : Polygon) → ValidPolygon p → (candidates : List (List ℕ)) (weights : List ℕ) (rows : List (List ℕ)) →
    TablesHold p (length (candidates_of p)) (length (rows_of p (candidates_of p))) candidates weights rows
    (filled (candidates_of p) candidates) (filled (weights_of p (candidates_of p)) weights) (filled (rows_of p (candidates_of p)) rows)
filled_hold p v candidates weights rows =
    let cs = candidates_of p in
    let same_count : length cs ≡ length (weights_of p cs) = sym (length-map cs (own_weight p)) in
    let of-candidates : take (length cs) (filled cs candidates) ≡ cs = filled_take cs candidates (length cs) refl in
    let of-weights : take (length cs) (filled (weights_of p cs) weights) ≡ weights_of p cs = filled_take (weights_of p cs) weights (length cs) same_count in
    let of-rows : take (length (rows_of p cs)) (filled (rows_of p cs) rows) ≡ rows_of p cs = filled_take (rows_of p cs) rows (length (rows_of p cs)) refl in
    record {
      lists = rw (of-candidates, of-weights, of-rows) (demand_2 p v);
      counted = ap length of-candidates;
      rows_counted = ap length of-rows;
      further_candidates = drop_at cs (drop (length cs) candidates) (length cs) refl;
      further_weights = drop_at (weights_of p cs) (drop (length (weights_of p cs)) weights) (length cs) (sym same_count)
          ∙ ap (λ (k : ℕ). drop k weights) (sym same_count);
      further_rows = drop_at (rows_of p cs) (drop (length (rows_of p cs)) rows) (length (rows_of p cs)) refl;
    }

-- the finder's call, where it finds the lists
pub find_hold : (p : Polygon) (candidates : List (List ℕ)) (weights : List ℕ) (rows : List (List ℕ)) (count row_count : ℕ) →
    (find_call p candidates weights rows).answer ≡ Ok (counts count row_count) →
    TablesHold p count row_count candidates weights rows (find_call p candidates weights rows).candidates
    (find_call p candidates weights rows).weights (find_call p candidates weights rows).rows
find_hold p candidates weights rows count row_count e = by (find_number p candidates weights rows) refl e
  where
    by : (k : ℕ) → find_number p candidates weights rows ≡ k → (find_by k p candidates weights rows).answer ≡ Ok (counts count row_count) →
        TablesHold p count row_count candidates weights rows (find_by k p candidates weights rows).candidates
        (find_by k p candidates weights rows).weights (find_by k p candidates weights rows).rows
    by (suc k) n d = absurd cc
    by zero n d =
        let v : ValidPolygon p = code_valid p (clear p (short_tables p candidates weights rows) n).code in
        let c : count ≡ length (candidates_of p) = sym (ap candidate_count_of d) in
        let r : row_count ≡ length (rows_of p (candidates_of p)) = sym (ap row_count_of d) in
        rw (c, r) (filled_hold p v candidates weights rows)
