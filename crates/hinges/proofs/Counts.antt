-- The hanging pairs of the triangles of a set, counted triangle by triangle. Assumes nothing.
use mathlib.Core.Path.{◌≡◌, refl, sym, ◌∙◌, ap}
use mathlib.Core.Bool.{Bool, true, false, cond}
use mathlib.Core.List.{List, [], ◌++◌, flat_map, append-nil}
use Prim.Native.Nat.{ℕ, ◌+◌, ◌*◌, ◌-◌, ◌≤◌, ◌<◌}
use native.Mathlib.Nat.{le_trans}
use native.Mathlib.Omega.{arith}
use borrow.Author.Tests.{eq-eqb, ne_eqb, eqb-true}
use lib.Dec.{eqb}
use lib.ListN.{length, length-append}
use Rattle.lists.specs.Lists.{over, when, both}
use Rattle.lists.proofs.Choice.{Truth, holds, fails, truth, both_true}
use Rattle.lists.proofs.Bools.{both_no}
use Rattle.lists.proofs.Ranges.{up_bound, when_bound}
use Rattle.lists.proofs.Parts.{over_split, over_empty, over_only, over_same, over_lengths, when_length, when_either}
use Rattle.lists.proofs.Flattening.{over_entries, flat_sum}
use Rattle.faces.specs.Faces.{triples_of}
use Rattle.faces.proofs.Sets.{triples_bound}
use Rattle.faces.proofs.Triples.{left1, left3, next3, flat_triples, left_lengths}
use Rattle.terms.specs.Limits.{max_vertices, max_triples}
use Rattle.terms.specs.Entries.{triple, entry_at, vertex_a, vertex_c, same_edge, hangs}
use Rattle.hinges.specs.Hinges.{inners_on, inners_of, beneath, max_pairs}

-- a candidate s that hangs on t; one whose edge from first to last vertex is (i, j)
abbrev hanging : List ℕ → List ℕ → List (List ℕ)
hanging t s = when (hangs s t) s

abbrev hung_on_edge : ℕ → ℕ → List ℕ → List (List ℕ)
hung_on_edge i j s = when (same_edge (vertex_a s) (vertex_c s) i j) s

-- the pairs of a list, by its entries instead of their numbers
pairs_are : (cs : List (List ℕ)) → length (inners_of cs) ≡ length (flat_map (λ t. flat_map (hanging t) cs) cs)
pairs_are cs =
    over_lengths (inners_on cs) (λ o. flat_map (hanging (entry_at cs o)) cs) 0 (length cs)
    (λ o l m. over_lengths _ _ 0 (length cs) (λ i l m. when_length (hangs (entry_at cs i) (entry_at cs o)) i (entry_at cs i))
    ∙ ap length (over_entries (hanging (entry_at cs o)) cs []))
    ∙ ap length (over_entries (λ t. flat_map (hanging t) cs) cs [])

-- a candidate hangs on (a, b, c) by (a, b) or by (b, c), not by both
two_parts : (a b c : ℕ) → a < b → (s : List ℕ) → length (hanging (triple a b c) s) ≡ length (hung_on_edge a b s) + length (hung_on_edge b c s)
unfolding hangs
two_parts a b c h s = when_either (same_edge (vertex_a s) (vertex_c s) a b) (same_edge (vertex_a s) (vertex_c s) b c) s (apart (truth (eqb (vertex_a s) a)))
  where
    apart : Truth (eqb (vertex_a s) a) → both (same_edge (vertex_a s) (vertex_c s) a b) (same_edge (vertex_a s) (vertex_c s) b c) ≡ false
    apart (holds e) =
        both_no (same_edge (vertex_a s) (vertex_c s) a b)
        (ap (λ (t : Bool). both t (eqb (vertex_c s) c)) (ne_eqb (vertex_a s) b (λ z. omega (arith, eqb-true (vertex_a s) a e))))
    apart (fails e) = ap (λ (t : Bool). both (both t (eqb (vertex_c s) b)) (same_edge (vertex_a s) (vertex_c s) b c)) e

-- those that hang on (a, b, c) where P holds of it, by the vertices beneath its edges
abbrev pub hung : (ℕ → ℕ → ℕ → Bool) → ℕ → ℕ → ℕ → List ℕ
hung P a b c = cond (P a b c) (beneath P a b ++ beneath P b c) []

module _ (n : ℕ) (P : ℕ → ℕ → ℕ → Bool) where
  -- the triples on the edge (i, j) are those of the vertices between
  module _ (i j : ℕ) (i<j : i < j) (j<n : j < n) where
    abbrev found : ℕ → ℕ → ℕ → List (List ℕ)
    found x y z = cond (P x y z) (when (same_edge x z i j) (triple x y z)) []

    none : (x y z : ℕ) → same_edge x z i j ≡ false → found x y z ≡ []
    none x y z e = ap (λ (t : Bool). cond (P x y z) (when t (triple x y z)) []) e ∙ go (P x y z)
      where
        go : (p : Bool) → cond p (when false (triple x y z)) [] ≡ []
        go true = refl
        go false = refl

    other_first : (x y z : ℕ) → (x ≡ i → ⊥) → found x y z ≡ []
    other_first x y z h = none x y z (ap (λ (t : Bool). both t (eqb z j)) (ne_eqb x i h))

    other_last : (x y z : ℕ) → (z ≡ j → ⊥) → found x y z ≡ []
    other_last x y z h = none x y z (both_no (eqb x i) (ne_eqb z j h))

    here : (y : ℕ) → length (found i y j) ≡ length (when (P i y j) y)
    here y =
        ap (λ (t : Bool). length (cond (P i y j) (when t (triple i y j)) [])) (both_true (eq-eqb i i refl) (eq-eqb j j refl))
        ∙ when_length (P i y j) (triple i y j) y

    pub edge_count : length (flat_map (hung_on_edge i j) (triples_of n P)) ≡ length (beneath P i j)
    edge_count =
        let from : ℕ → List (List ℕ) = λ y. over (y + 1) n (found i y) in
        let first : left1 n found 0 ≡ over (i + 1) n from = over_only _ 0 n i (omega arith) (omega arith)
        (λ x l m ne. over_empty _ (x + 1) n (λ y l m. over_empty _ (y + 1) n (λ z l m. other_first x y z ne))) in
        let last : over j n from ≡ [] = over_empty from j n (λ y l m. over_empty _ (y + 1) n (λ z k h. other_last i y z (λ e. omega arith))) in
        let between : over (i + 1) j from ≡ over (i + 1) j (λ y. found i y j) =
        over_same (i + 1) j from _ (λ y l m. over_only _ (y + 1) n j (omega arith) j<n (λ z l m ne. other_last i y z ne)) in
        ap length (flat_triples (hung_on_edge i j) n P ∙ first ∙ over_split from (i + 1) j n (omega arith) (omega arith)
        ∙ (λ k. between k ++ last k) ∙ append-nil (over (i + 1) j (λ y. found i y j)))
        ∙ over_lengths (λ y. found i y j) _ (i + 1) j (λ y l m. here y)

  hung_count : (a b c : ℕ) → a < b → b < c → c < n → length (flat_map (hanging (triple a b c)) (triples_of n P)) ≡ length (beneath P a b ++ beneath P b c)
  hung_count a b c h k l =
      flat_sum (hanging (triple a b c)) (hung_on_edge a b) (hung_on_edge b c) (two_parts a b c h) (triples_of n P)
      ∙ (λ i. edge_count a b h (omega arith) i + edge_count b c k l i)
      ∙ sym (length-append (beneath P a b) (beneath P b c))

  pub pairs_count : length (inners_of (triples_of n P)) ≡ length (left1 n (hung P) 0)
  pairs_count =
      pairs_are (triples_of n P)
      ∙ ap length (flat_triples (λ t. flat_map (hanging t) (triples_of n P)) n P)
      ∙ left_lengths n _ (hung P) (λ a b c h k l. one a b c (P a b c) (hung_count a b c h k l))
    where
      one : (a b c : ℕ) (p : Bool) → length (flat_map (hanging (triple a b c)) (triples_of n P)) ≡ length (beneath P a b ++ beneath P b c) →
          length (cond p (flat_map (hanging (triple a b c)) (triples_of n P)) []) ≡ length (cond p (beneath P a b ++ beneath P b c) [])
      one a b c true e = e
      one a b c false e = refl

  pub next_hung : (a b c : ℕ) {t : Bool} → c < n → t ≡ P a b c →
      left3 n (hung P) a b c ≡ cond t (beneath P a b ++ beneath P b c) [] ++ left3 n (hung P) a b (c + 1)
  next_hung a b c h e = next3 n (hung P) a b c h ∙ ap (λ (t : Bool). cond t (beneath P a b ++ beneath P b c) [] ++ left3 n (hung P) a b (c + 1)) (sym e)

  -- how many there can be
  pub pairs_bound : n ≤ max_vertices → length (left1 n (hung P) 0) ≤ max_pairs
  pairs_bound h =
      let cs = triples_of n P in
      let few : length cs ≤ max_triples = triples_bound n P h in
      let on : (o : ℕ) → length (inners_on cs o) ≤ max_triples =
      λ o. le_trans (up_bound _ 1 0 (length cs - 0) (λ i. when_bound (hangs (entry_at cs i) (entry_at cs o)) i)) (omega arith) in
      let b : length (inners_of cs) ≤ (length cs - 0) * max_triples = up_bound _ max_triples 0 (length cs - 0) on in
      omega (arith, pairs_count)
