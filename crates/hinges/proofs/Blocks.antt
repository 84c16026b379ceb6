-- The candidates that hang on one of them stand in two blocks. Assumes nothing.
use mathlib.Core.Path.{◌≡◌, sym, ◌∙◌, ap}
use mathlib.Core.Bool.{Bool, false}
use mathlib.Core.List.{List, [], ◌++◌, append-nil}
use Prim.Native.Nat.{ℕ, ◌+◌, ◌≤◌, ◌<◌}
use native.Mathlib.Omega.{arith}
use borrow.Author.Tests.{eq-eqb, ne_eqb}
use lib.Dec.{eqb}
use lib.ListN.{length, get_or}
use Rattle.lists.specs.Lists.{over, when, both, either}
use Rattle.lists.proofs.Parts.{over_same, over_split, over_empty}
use Rattle.lists.proofs.Bools.{either_no}
use Rattle.terms.specs.Entries.{entry_at, vertex_a, vertex_b, vertex_c, same_edge, hangs}
use Rattle.blocks.specs.Blocks.{BlockStart}
use Rattle.blocks.proofs.Starts.{start_order, start_of_lem}
use Rattle.hinges.specs.Hinges.{inners_on, inners_at, ending_in, Sorted}

-- candidate t hangs on u only if it begins in u's first or second vertex, and then by its last vertex
module _ (t u : List ℕ) where
  pub hangs_other : (vertex_a t ≡ vertex_a u → ⊥) → (vertex_a t ≡ vertex_b u → ⊥) → hangs t u ≡ false
  unfolding hangs
  hangs_other h k =
      (λ i. either (both (ne_eqb (vertex_a t) (vertex_a u) h i) (eqb (vertex_c t) (vertex_b u)))
      (both (ne_eqb (vertex_a t) (vertex_b u) k i) (eqb (vertex_c t) (vertex_c u))))

  pub hangs_first : vertex_a t ≡ vertex_a u → (vertex_a t ≡ vertex_b u → ⊥) → hangs t u ≡ eqb (vertex_c t) (vertex_b u)
  unfolding hangs
  hangs_first h k =
      (λ i. either (both (eq-eqb (vertex_a t) (vertex_a u) h i) (eqb (vertex_c t) (vertex_b u)))
      (both (ne_eqb (vertex_a t) (vertex_b u) k i) (eqb (vertex_c t) (vertex_c u)))) ∙ either_no (eqb (vertex_c t) (vertex_b u))

  pub hangs_second : (vertex_a t ≡ vertex_a u → ⊥) → vertex_a t ≡ vertex_b u → hangs t u ≡ eqb (vertex_c t) (vertex_c u)
  unfolding hangs
  hangs_second h k =
      (λ i. either (both (ne_eqb (vertex_a t) (vertex_a u) h i) (eqb (vertex_c t) (vertex_b u)))
      (both (eq-eqb (vertex_a t) (vertex_b u) k i) (eqb (vertex_c t) (vertex_c u))))

module _ (cs : List (List ℕ)) (o la ha lb hb : ℕ)
    (h : vertex_a (entry_at cs o) < vertex_b (entry_at cs o))
    (sa : BlockStart cs (vertex_a (entry_at cs o)) la) (ea : BlockStart cs (vertex_a (entry_at cs o) + 1) ha)
    (sb : BlockStart cs (vertex_b (entry_at cs o)) lb) (eb : BlockStart cs (vertex_b (entry_at cs o) + 1) hb) where
  abbrev pub found : ℕ → List ℕ
  found i = when (hangs (entry_at cs i) (entry_at cs o)) i

  outside : (i : ℕ) → i < length cs → (vertex_a (entry_at cs i) ≡ vertex_a (entry_at cs o) → ⊥) →
      (vertex_a (entry_at cs i) ≡ vertex_b (entry_at cs o) → ⊥) → found i ≡ []
  outside i l p q = ap (λ (b : Bool). when b i) (hangs_other (entry_at cs i) (entry_at cs o) p q)

  -- the candidates that hang on o
  pub two_blocks : inners_on cs o ≡ ending_in cs la ha (vertex_b (entry_at cs o)) ++ ending_in cs lb hb (vertex_c (entry_at cs o))
  two_blocks =
      let a = vertex_a (entry_at cs o) in
      let b = vertex_b (entry_at cs o) in
      let n = length cs in
      let o1 : la ≤ ha = start_order cs sa ea (omega arith) in
      let o2 : ha ≤ lb = start_order cs ea sb (omega arith) in
      let o3 : lb ≤ hb = start_order cs sb eb (omega arith) in
      let o4 : hb ≤ n = eb.within in
      let before : over 0 la found ≡ [] =
      over_empty found 0 la (λ i l m. let u = sa.below i m in outside i (omega arith) (λ e. omega (arith, u)) (λ e. omega (arith, u))) in
      let between : over ha lb found ≡ [] = over_empty found ha lb (λ i l m. let u = ea.above i l (omega arith) in
      let v = sb.below i m in outside i (omega arith) (λ e. omega (arith, u)) (λ e. omega (arith, v))) in
      let after : over hb n found ≡ [] =
      over_empty found hb n (λ i l m. let u = eb.above i l m in outside i m (λ e. omega (arith, u)) (λ e. omega (arith, u))) in
      let first : over la ha found ≡ ending_in cs la ha b =
      over_same la ha found _ (λ i l m. let u = sa.above i l (omega arith) in let v = ea.below i m in
      ap (λ (t : Bool). when t i) (hangs_first (entry_at cs i) (entry_at cs o) (omega (arith, u, v)) (λ e. omega (arith, v)))) in
      let second : over lb hb found ≡ ending_in cs lb hb (vertex_c (entry_at cs o)) =
      over_same lb hb found _ (λ i l m. let u = sb.above i l (omega arith) in let v = eb.below i m in
      ap (λ (t : Bool). when t i) (hangs_second (entry_at cs i) (entry_at cs o) (λ e. omega (arith, u)) (omega (arith, u, v)))) in
      over_split found 0 la n (omega arith) (omega arith)
      ∙ (λ i. before i ++ over la n found)
      ∙ over_split found la ha n o1 (omega arith)
      ∙ (λ i. first i ++ over ha n found)
      ∙ ap (λ (l : List ℕ). ending_in cs la ha b ++ l)
      (over_split found ha lb n o2 (omega arith)
      ∙ (λ i. between i ++ over lb n found)
      ∙ over_split found lb hb n o3 o4
      ∙ (λ i. second i ++ after i)
      ∙ append-nil (ending_in cs lb hb (vertex_c (entry_at cs o))))

-- the candidates on one edge of o stand in one block
module _ (cs : List (List ℕ)) (o e lo hi : ℕ) (s : BlockStart cs (get_or (entry_at cs o) e 0) lo) (t : BlockStart cs (get_or (entry_at cs o) e 0 + 1) hi) where
  abbrev on_edge : ℕ → List ℕ
  on_edge i = when (same_edge (vertex_a (entry_at cs i)) (vertex_c (entry_at cs i)) (get_or (entry_at cs o) e 0) (get_or (entry_at cs o) (e + 1) 0)) i

  other_edge : (i : ℕ) → (vertex_a (entry_at cs i) ≡ get_or (entry_at cs o) e 0 → ⊥) → on_edge i ≡ []
  other_edge i h =
      ap (λ (b : Bool). when (both b (eqb (vertex_c (entry_at cs i)) (get_or (entry_at cs o) (e + 1) 0))) i)
      (ne_eqb (vertex_a (entry_at cs i)) (get_or (entry_at cs o) e 0) h)

  pub edge_block : inners_at cs o e ≡ ending_in cs lo hi (get_or (entry_at cs o) (e + 1) 0)
  edge_block =
      let n = length cs in
      let order : lo ≤ hi = start_order cs s t (omega arith) in
      let before : over 0 lo on_edge ≡ [] = over_empty on_edge 0 lo (λ i l m. let u = s.below i m in other_edge i (λ z. omega (arith, u))) in
      let after : over hi n on_edge ≡ [] = over_empty on_edge hi n (λ i l m. let u = t.above i l m in other_edge i (λ z. omega (arith, u))) in
      let inside : over lo hi on_edge ≡ ending_in cs lo hi (get_or (entry_at cs o) (e + 1) 0) =
      over_same lo hi on_edge _ (λ i l m. let u = s.above i l (omega (arith, t.within)) in let v = t.below i m in
      ap (λ (b : Bool). when (both b (eqb (vertex_c (entry_at cs i)) (get_or (entry_at cs o) (e + 1) 0))) i)
      (eq-eqb (vertex_a (entry_at cs i)) (get_or (entry_at cs o) e 0) (omega (arith, u, v)))) in
      over_split on_edge 0 lo n (omega arith) s.within
      ∙ (λ i. before i ++ over lo n on_edge)
      ∙ over_split on_edge lo hi n order t.within
      ∙ (λ i. inside i ++ after i)
      ∙ append-nil (ending_in cs lo hi (get_or (entry_at cs o) (e + 1) 0))

-- the candidates that hang on o are those on its two edges
pub two_edges : (cs : List (List ℕ)) → Sorted cs → (o : ℕ) → o < length cs → inners_on cs o ≡ inners_at cs o 0 ++ inners_at cs o 1
two_edges cs s o h =
    let la = start_of_lem cs s.by_first (vertex_a (entry_at cs o)) in
    let ha = start_of_lem cs s.by_first (vertex_a (entry_at cs o) + 1) in
    let lb = start_of_lem cs s.by_first (vertex_b (entry_at cs o)) in
    let hb = start_of_lem cs s.by_first (vertex_b (entry_at cs o) + 1) in
    two_blocks cs o _ _ _ _ (s.a<b o h) la ha lb hb
    ∙ sym (λ i. edge_block cs o 0 _ _ la ha i ++ edge_block cs o 1 _ _ lb hb i)
