-- Tables that count the triangles of a list at their edges, and the edge test by them. Assumes nothing.
use Prim.Native.Nat.{ℕ, ◌+◌, ◌≤◌, ◌<◌}
use mathlib.Core.Path.{◌≡◌, refl, sym, ap, ap₂, ◌∙◌}
use mathlib.Core.Bool.{Bool, true, false}
use mathlib.Core.Logic.{◌≢◌}
use mathlib.Core.List.{List, []}
use native.Mathlib.Omega.{arith}
use lib.ListN.{length, get_or, set, take, replicate, length-set, length-replicate, get_or-replicate}
use lib.Seq.{length-take-le, get_or-set_same, get_or-set_other}
use lib.Dec.{eqb}
use borrow.Author.Tests.{eqb-true, eqb-false}
use Rattle.lists.proofs.Ranges.{every_same}
use Rattle.lists.specs.Lists.{both}
use Rattle.lists.proofs.Members.{entry_member}
use Rattle.terms.specs.Limits.{max_vertices}
use Rattle.terms.specs.Entries.{entry_at, vertex_a, vertex_b, vertex_c}
use Rattle.lists.specs.Sums.{only}
use Rattle.triangulation.specs.Triangulations.{long_edge, short_edge, count_between, count_outside, is_boundary, edge_ok, is_triangulation}
use Rattle.triangulation.specs.Problems.{problem_from}
use Rattle.triangulation.proofs.SetParts.{either_split}
use Rattle.triangulation.proofs.PartsToSets.{only_le}
use Rattle.validation.specs.Edges.{edge_at, edge_places, count_at, added, Room, Triangle, Triangles}
use Rattle.validation.specs.Edges.{candidates_alone, between, outside, Sums, Counted, vertices_alone, edges_fit}
use Rattle.validation.proofs.Fronts.{sum_with, sum_le}

-- ---- one more at one edge
added_length : (t : List ℕ) (i j : ℕ) → length (added t i j) ≡ length t
unfolding added
added_length t i j = length-set t (edge_at i j) (count_at t i j + 1)

added_at : (t : List ℕ) (i j : ℕ) → i < max_vertices → j < max_vertices → length t ≡ edge_places → (p q : ℕ) → p < max_vertices → q < max_vertices
    → count_at (added t i j) p q ≡ count_at t p q + only (both (eqb i p) (eqb j q)) 1
unfolding added
added_at t i j hi hj len p q hp hq = go (eqb i p) (eqb j q) refl refl
  where
    other : edge_at p q ≢ edge_at i j → count_at (set t (edge_at i j) (count_at t i j + 1)) p q ≡ count_at t p q + 0
    other d = get_or-set_other t (edge_at i j) (edge_at p q) (count_at t i j + 1) 0 d ∙ omega arith

    go : (x y : Bool) → eqb i p ≡ x → eqb j q ≡ y → count_at (set t (edge_at i j) (count_at t i j + 1)) p q ≡ count_at t p q + only (both x y) 1
    go true true e f =
        let z : edge_at p q ≡ edge_at i j = omega (arith, eqb-true i p e, eqb-true j q f) in
        ap (λ (k : ℕ). get_or (set t (edge_at i j) (count_at t i j + 1)) k 0) z ∙ get_or-set_same t (edge_at i j) (count_at t i j + 1) 0 (omega arith)
        ∙ ap (λ (k : ℕ). get_or t k 0 + 1) (sym z)
    go true false e f = other (λ (z : edge_at p q ≡ edge_at i j). eqb-false j q f (omega (arith, eqb-true i p e)))
    go false y e f = other (λ (z : edge_at p q ≡ edge_at i j). eqb-false i p e (omega arith))

-- the second edge of a triangle keeps its room
pub room_kept : (t : List ℕ) (a b c : ℕ) → a < b → b < max_vertices → c < max_vertices → Room t b c → Room (added t a b) b c
unfolding added
room_kept t a b c h hb hc r = omega (
  arith,
  r,
  get_or-set_other t (edge_at a b) (edge_at b c) (count_at t a b + 1) 0
      (λ (z : edge_at b c ≡ edge_at a b). omega arith),
)

module _ (candidates : List (List ℕ)) (list : List ℕ) (ok : Triangles candidates list) where
  pub triangle_at_lem : (i : ℕ) → i < length list → (k : ℕ) → k ≡ get_or list i 0 → Triangle candidates k
  triangle_at_lem i h k e = rw e (ok.each (get_or list i 0) (entry_member list 0 i h))

  -- what is at an edge is small
  sums_room : (g : ℕ → ℕ → ℕ → ℕ) → ((i j k : ℕ) → g i j k ≤ 1) → {t : ℕ} {table : List ℕ} → t ≤ length list →
      Sums g (take t list) table → (i j : ℕ) → i < max_vertices → j < max_vertices → Room table i j
  sums_room g b {t} {table} h s i j hi hj = omega (arith, s.at i j hi hj, sum_le (g i j) (take t list) (b i j), length-take-le t list h, ok.short_list)

  pub between_room : {t : ℕ} {table : List ℕ} → t ≤ length list → Sums (between candidates) (take t list) table →
      (i j : ℕ) → i < max_vertices → j < max_vertices → Room table i j
  between_room h s i j hi hj = sums_room (between candidates) (λ i j k. only_le (long_edge (candidates_alone candidates) i j k)) h s i j hi hj

  pub outside_room : {t : ℕ} {table : List ℕ} → t ≤ length list → Sums (outside candidates) (take t list) table →
      (i j : ℕ) → i < max_vertices → j < max_vertices → Room table i j
  outside_room h s i j hi hj = sums_room (outside candidates) (λ i j k. only_le (short_edge (candidates_alone candidates) i j k)) h s i j hi hj

  -- ---- one triangle more: the list's next, k
  module _ {i : ℕ} (h : i < length list) (k : ℕ) (e : k ≡ get_or list i 0) where
    pub between_next : {table new : List ℕ} → Sums (between candidates) (take i list) table → new ≡ added table (vertex_a (entry_at candidates k)) (vertex_c (entry_at candidates k)) →
        Sums (between candidates) (take (i + 1) list) new
    between_next {table} s d =
        let o = triangle_at_lem i h k e in
        record {
          long_enough = ap length d ∙ added_length table (vertex_a (entry_at candidates k)) (vertex_c (entry_at candidates k)) ∙ s.long_enough;
          at = λ p q hp hq.
              ap (λ (l : List ℕ). count_at l p q) d
              ∙ added_at table (vertex_a (entry_at candidates k)) (vertex_c (entry_at candidates k)) (omega (arith, o.ab, o.bc, o.few)) o.few s.long_enough p q hp hq
              ∙ ap (λ x. x + only (both (eqb (vertex_a (entry_at candidates k)) p) (eqb (vertex_c (entry_at candidates k)) q)) 1) (s.at p q hp hq)
              ∙ sym (sum_with (between candidates p q) list i k h e);
        }

    pub outside_next : {table new : List ℕ} → Sums (outside candidates) (take i list) table → new ≡ added (added table (vertex_a (entry_at candidates k)) (vertex_b (entry_at candidates k)))
        (vertex_b (entry_at candidates k)) (vertex_c (entry_at candidates k)) → Sums (outside candidates) (take (i + 1) list) new
    outside_next {table} s d =
        let o = triangle_at_lem i h k e in
        let ha : vertex_a (entry_at candidates k) < max_vertices = omega (arith, o.ab, o.bc, o.few) in
        let hb : vertex_b (entry_at candidates k) < max_vertices = omega (arith, o.bc, o.few) in
        let l : length (added table (vertex_a (entry_at candidates k)) (vertex_b (entry_at candidates k))) ≡ edge_places =
        added_length table (vertex_a (entry_at candidates k)) (vertex_b (entry_at candidates k)) ∙ s.long_enough in
        record {
          long_enough = ap length d ∙ added_length (added table (vertex_a (entry_at candidates k)) (vertex_b (entry_at candidates k))) (vertex_b (entry_at candidates k)) (vertex_c (entry_at candidates k)) ∙ l;
          at = λ p q hp hq.
              ap (λ (l : List ℕ). count_at l p q) d
              ∙ added_at (added table (vertex_a (entry_at candidates k)) (vertex_b (entry_at candidates k))) (vertex_b (entry_at candidates k)) (vertex_c (entry_at candidates k)) hb o.few l p q hp hq
              ∙ ap (λ x. x + only (both (eqb (vertex_b (entry_at candidates k)) p) (eqb (vertex_c (entry_at candidates k)) q)) 1)
              (added_at table (vertex_a (entry_at candidates k)) (vertex_b (entry_at candidates k)) ha hb s.long_enough p q hp hq)
              ∙ omega (
                arith,
                s.at p q hp hq,
                either_split (vertex_a (entry_at candidates k)) (vertex_b (entry_at candidates k)) (vertex_c (entry_at candidates k)) p q 1 o.ab,
                sum_with (outside candidates p q) list i k h e,
              );
        }

-- ---- from zeros to the whole list
pub zeros_sums : (g : ℕ → ℕ → ℕ → ℕ) (list : List ℕ) {table : List ℕ} → table ≡ replicate edge_places 0 → Sums g (take 0 list) table
zeros_sums g list e = record {
  long_enough = ap length e ∙ length-replicate {A = ℕ} edge_places 0;
  at = λ i j hi hj. ap (λ (t : List ℕ). get_or t (edge_at i j) 0) e ∙ get_or-replicate {A = ℕ} edge_places (edge_at i j) 0 0 (omega arith);
}

pub edges_triangulation : (n : ℕ) (candidates : List (List ℕ)) (list betweens outsides : List ℕ) → Counted candidates list betweens outsides → n ≤ max_vertices
    → edges_fit n betweens outsides ≡ is_triangulation (problem_from n candidates [] []) list
unfolding is_triangulation count_between count_outside
edges_triangulation n candidates list betweens outsides counted h = every_same 0 n _ _ (λ j _ hj. every_same 0 j _ _ (λ i _ hi.
    ap₂ (λ x y. edge_ok (vertices_alone n) (is_boundary (vertices_alone n) i j) x y) (counted.on_between.at i j (omega arith) (omega arith))
    (counted.on_outside.at i j (omega arith) (omega arith))))
