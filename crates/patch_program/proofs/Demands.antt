-- The lines that are printed for a file add up to the total, and each has the row of the one triangle that its own hangs on. Assumes nothing.
use mathlib.Core.Path.{◌≡◌, refl, sym, ap, ap₂, ◌∙◌, subst}
use mathlib.Core.List.Memᴰ
use mathlib.Core.List.{List, [], ◌∷◌, map, Memᴰ}
use Prim.Native.Nat.{ℕ, zero, suc, ◌+◌, ◌-◌, ◌≤◌, ◌<◌}
use native.Mathlib.Omega.{arith}
use lib.ListN.{get_or, length, replicate, length-map}
use Rattle.std.proofs.Common.{Some, None, Ok, Err}
use Rattle.codes.specs.Refusals.{refusal}
use Rattle.lists.specs.Lists.{filled}
use Rattle.lists.proofs.Writing.{filled_at}
use Rattle.lists.proofs.Maps.{map_at}
use Rattle.lists.proofs.Members.{entry_member}
use Rattle.terms.specs.Entries.{triple, entry_at, vertex_a, vertex_b, vertex_c, hangs}
use Rattle.polygon.specs.declared.Polygon.{Polygon}
use Rattle.polygon.specs.Polygon.{ValidPolygon}
use Rattle.reader.specs.Reading.{polygon_of}
use Rattle.faces.proofs.Members.{triples_member}
use Rattle.delaunay.specs.Candidates.{candidates_of, is_candidate}
use Rattle.weights.specs.Weights.{own_weight}
use Rattle.weights.proofs.Edges.{weight_at}
use Rattle.lists.specs.Sums.{sum}
use Rattle.triangulation.specs.Triangulations.{Problem}
use Rattle.triangulation.specs.Triangulations as triangulations
use Rattle.triangulation.specs.Problems.{pair_weight}
use Rattle.triangulation.specs.Demand3.{HandedBack}
use Rattle.triangulation.proofs.Sums.{Mem, count, sum_ext}
use Rattle.triangulation.proofs.Demand3.{members}
use Rattle.triangulator.specs.Call.{Outcome, patch_with, total_of, part_of}
use Rattle.triangulator.specs.Demands.{Handed, with_patch, with_none, with_refusal}
use Rattle.triangulator.proofs.Settling.{part_empty}
use Rattle.triangulator.proofs.Demands.{settled_handed}
use Rattle.pipeline.specs.Patching.{Tables, tables, patching, weights_in, rows_in, problem_in, patched, patch_by, file_number, patch_file}
use Rattle.pipeline.proofs.Accepted.{weight_count}
use Rattle.pipeline.proofs.Values.{valid_job}
use Rattle.patch_lines.specs.declared.Line.{Line}
use Rattle.patch_program.specs.Run.{empty_tables}
use Rattle.patch_lines.specs.Lines.{row_under, line_of, no_line}
use Rattle.patch_program.specs.Demands.{weights_on, LinesHold}
use Rattle.patch_lines.proofs.Hanging.{under_same, under_members}
use Rattle.patch_program.proofs.Rows.{alone, file_valid}
use Rattle.patch_program.proofs.Outers.{adds_up, few_outers, the_outer, outers_same, root_row}

weights_sum : (f : ℕ → Line) (l : List ℕ) → weights_on (map f l) ≡ sum (λ t. (f t).weight + (f t).row) l
weights_sum f [] = refl
weights_sum f (t ∷ l) = ap (λ (x : ℕ). (f t).weight + (f t).row + x) (weights_sum f l)

-- where nothing is handed back
empty : (file : List ℕ) (o : Outcome) (left : Tables) → part_of o left.triangles ≡ [] → total_of o ≡ 0
    → ((count total : ℕ) → o ≡ Ok (Some (patch_with count total)) → ⊥) → LinesHold file (patching o left)
empty file o left e z n = record {
  line_count = length-map (part_of o left.triangles) (line_of left.candidates left.weights left.rows (part_of o left.triangles));
  corners = λ k h. absurd (none h);
  own_weights = λ k h. absurd (none h);
  one_outer = λ t u v m. absurd (Memᴰ.not-nil (subst (Memᴰ t) e m));
  row_is = λ k u h. absurd (none h);
  first = λ h. absurd (none h);
  adds_up = ap (λ (l : List ℕ). weights_on (map (line_of left.candidates left.weights left.rows (part_of o left.triangles)) l)) e ∙ sym z;
  vertices = λ count total d. absurd (n count total d);
}
  where
    none : {k : ℕ} → k < length (part_of o left.triangles) → ⊥
    none h = omega (arith, h, ap length e)

-- a call on which no number is due, over a row table of zeros
module _ (file : List ℕ) (v : ValidPolygon (polygon_of file)) (lent : Tables) (places : ℕ) (zeros : lent.rows ≡ replicate places (triple 0 0 0)) where
  abbrev p : Polygon
  p = polygon_of file

  abbrev job : Problem
  job = problem_in p

  good : triangulations.ValidProblem (problem_in (polygon_of file))
  good = valid_job p v

  abbrev left : List ℕ → List ℕ → Tables
  left triangles work =
      tables triangles (filled (candidates_of p) lent.candidates) (filled (weights_in p) lent.weights) (filled (rows_in p) lent.rows) work

  module _ (triangles work : List ℕ) (size total : ℕ) (many : size ≡ job.n - 2)
      (h : HandedBack job total (part_of (Ok (Some (patch_with size total))) triangles)) where
    abbrev patch : List ℕ
    patch = part_of (Ok (Some (patch_with size total))) triangles

    abbrev all : List (List ℕ)
    all = (left triangles work).candidates

    in_size : (k : ℕ) → Mem k patch → k < length (candidates_of p)
    in_size k m = members job good h.right.set h.right.tiles k (h.once.only k m)

    same_candidate : (k : ℕ) → Mem k patch → entry_at all k ≡ entry_at (candidates_of p) k
    same_candidate k m = filled_at (candidates_of p) lent.candidates k [] (in_size k m)

    same_weight : (k : ℕ) → Mem k patch → get_or (left triangles work).weights k 0 ≡ get_or (weights_in p) k 0
    same_weight k m = filled_at (weights_in p) lent.weights k 0 (omega (arith, weight_count p, in_size k m))

    same_row : (o i : ℕ) → pair_weight (left triangles work).rows o i ≡ pair_weight (rows_in p) o i
    same_row = alone (rows_in p) lent.rows places zeros

    same_under : (t : ℕ) → Mem t patch → row_under all (left triangles work).rows patch t ≡ row_under (candidates_of p) (rows_in p) patch t
    same_under t m =
        under_members all (candidates_of p) (left triangles work).rows patch t (same_candidate t m) same_candidate
        ∙ under_same (candidates_of p) (left triangles work).rows (rows_in p) same_row patch t

    few : (t : ℕ) → Mem t patch → count (λ o. hangs (entry_at (candidates_of p) t) (entry_at (candidates_of p) o)) patch ≤ 1
    few =
        subst (λ (l : List ℕ). (t : ℕ) → Mem t l → count (λ o. hangs (entry_at (candidates_of p) t) (entry_at (candidates_of p) o)) l ≤ 1) (sym h.right.walk)
        (few_outers p.n (candidates_of p) (weights_in p) (rows_in p) good h.right.set h.right.tiles)

    same_hangs : (t o : ℕ) → Mem t patch → Mem o patch →
        hangs (entry_at all t) (entry_at all o) ≡ hangs (entry_at (candidates_of p) t) (entry_at (candidates_of p) o)
    same_hangs t o m k = (λ i. hangs (same_candidate t m i) (same_candidate o k i))

    total_is : sum (λ t. get_or (weights_in p) t 0 + row_under (candidates_of p) (rows_in p) patch t) patch ≡ total
    total_is =
        ap (λ (l : List ℕ). sum (λ t. get_or (weights_in p) t 0 + row_under (candidates_of p) (rows_in p) l t) l) h.right.walk
        ∙ adds_up p.n (candidates_of p) (weights_in p) (rows_in p) good h.right.set h.right.tiles
        ∙ sym h.right.weight

    -- triangle k of the patch and its line
    abbrev at : ℕ → ℕ
    at k = get_or patch k 0

    listed : (k : ℕ) → k < length patch → Mem (at k) patch
    listed k h = entry_member patch 0 k h

    abbrev line : ℕ → Line
    line k = get_or (map (line_of all (left triangles work).weights (left triangles work).rows patch) patch) k no_line

    line_is : (k : ℕ) → k < length patch → line k ≡ line_of all (left triangles work).weights (left triangles work).rows patch (at k)
    line_is k h = map_at (line_of all (left triangles work).weights (left triangles work).rows patch) patch 0 no_line k h

    row_of : (k : ℕ) → k < length patch → (line k).row ≡ row_under (candidates_of p) (rows_in p) patch (at k)
    row_of k h = ap (λ (x : Line). x.row) (line_is k h) ∙ same_under (at k) (listed k h)

    three : (e : List ℕ) → Memᴰ e (candidates_of p) → triple (vertex_a e) (vertex_b e) (vertex_c e) ≡ e
    three e m = subst (λ (x : List ℕ). triple (vertex_a x) (vertex_b x) (vertex_c x) ≡ x) (sym (triples_member p.n (is_candidate p) e m).is) refl

    first_row : (part : List ℕ) → patch ≡ part → 0 < length part → row_under (candidates_of p) (rows_in p) patch (get_or part 0 0) ≡ 0
    first_row [] e m = absurd (omega arith)
    first_row (t ∷ part) e m =
        ap (λ (x : List ℕ). row_under (candidates_of p) (rows_in p) x t) h.right.walk
        ∙ root_row p.n (candidates_of p) (weights_in p) (rows_in p) good h.right.set h.right.tiles t part (sym h.right.walk ∙ e)

    of_patch : LinesHold file (patching (Ok (Some (patch_with size total))) (left triangles work))
    of_patch = record {
      line_count = length-map patch (line_of all (left triangles work).weights (left triangles work).rows patch);
      corners = λ k h.
          ap (λ (x : Line). triple x.a x.b x.c) (line_is k h)
          ∙ subst (λ (e : List ℕ). triple (vertex_a e) (vertex_b e) (vertex_c e) ≡ e) (sym (same_candidate (at k) (listed k h)))
          (three (entry_at (candidates_of p) (at k)) (entry_member (candidates_of p) [] (at k) (in_size (at k) (listed k h))));
      own_weights = λ k h.
          ap (λ (x : Line). x.weight) (line_is k h)
          ∙ same_weight (at k) (listed k h)
          ∙ weight_at p (candidates_of p) (at k) (in_size (at k) (listed k h))
          ∙ ap (own_weight p) (sym (same_candidate (at k) (listed k h)));
      one_outer = λ t o u m mo mu eo eu.
          outers_same p.n (candidates_of p) (weights_in p) (rows_in p) t patch (few t m) o u mo mu (sym (same_hangs t o m mo) ∙ eo)
          (sym (same_hangs t u m mu) ∙ eu);
      row_is = λ k o h mo e.
          row_of k h
          ∙ the_outer p.n (candidates_of p) (weights_in p) (rows_in p) (at k) patch (few (at k) (listed k h)) o mo
          (sym (same_hangs (at k) o (listed k h) mo) ∙ e)
          ∙ sym (same_row o (at k));
      first = λ h. row_of 0 h ∙ first_row patch refl h;
      adds_up =
          weights_sum (line_of all (left triangles work).weights (left triangles work).rows patch) patch
          ∙ sum_ext _ (λ t. get_or (weights_in p) t 0 + row_under (candidates_of p) (rows_in p) patch t) patch
          (λ t m. ap₂ (λ x y. x + y) (same_weight t m) (same_under t m))
          ∙ total_is;
      vertices = λ c x e. omega (arith, many, v.least);
    }

  of_handed : (o : Outcome) (triangles work : List ℕ) → Handed job (part_of o triangles) o → LinesHold file (patching o (left triangles work))
  of_handed (Ok (Some x)) triangles work (with_patch many h) = of_patch triangles work x.triangles x.total many h
  of_handed (Ok None) triangles work (with_none e) = empty file (Ok None) (left triangles work) e refl (λ c x d. let z : ◌≡◌ {A = ℕ} 0 1 = cc in omega arith)
  of_handed (Err r) triangles work (with_refusal e) =
      empty file (Err r) (left triangles work) e refl (λ c x d. let z : ◌≡◌ {A = ℕ} 0 1 = cc in omega arith)

  of_patched : LinesHold file (patched (polygon_of file) lent)
  of_patched = of_handed _ _ _ (settled_handed job good (length (candidates_of p)) lent.triangles lent.work)

-- so for every file under every limit
pub lines_hold : (limit : ℕ) (file : List ℕ) → LinesHold file (patch_file limit file empty_tables)
unfolding patch_file
lines_hold limit file = by (file_number limit file empty_tables) refl empty_tables 4096 refl (file_valid limit file empty_tables)
  where
    by : (k : ℕ) → file_number limit file empty_tables ≡ k → (lent : Tables) (n : ℕ) → lent.rows ≡ replicate n (triple 0 0 0) →
        (file_number limit file empty_tables ≡ 0 → ValidPolygon (polygon_of file)) → LinesHold file (patch_by k (polygon_of file) lent)
    by zero e lent n z v = of_patched file (v e) lent n z
    by (suc k) e lent n z v =
        empty file (Err (refusal (suc k))) lent (part_empty (Err (refusal (suc k))) lent.triangles refl) refl
        (λ c x d. let z : ◌≡◌ {A = ℕ} 0 1 = cc in omega arith)
