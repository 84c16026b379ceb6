-- Choosing the best of some candidates one by one. Assumes nothing.
use Prim.Native.Nat.{ℕ, zero, suc, ◌+◌, ◌≤◌, ◌<◌}
use mathlib.Core.Path.{◌≡◌, refl, sym, ap, ◌∙◌}
use mathlib.Core.Bool.{Bool, true, false, cond}
use mathlib.Core.Logic.{⊎_elim}
use mathlib.Core.List.{List}
use native.Mathlib.Omega.{arith}
use native.Mathlib.Nat.{eq-or-lt_of_le, le_antisymm, le_refl}
use native.Mathlib.Numerals.{add-one}
use lib.ListN.{length, get_or}
use lib.Dec.{ltb, eqb}
use borrow.Author.Tests.{lt-ltb, le-ltb, ltb-true, eq-eqb, ne_eqb}
use Rattle.lists.specs.Lists.{both}
use Rattle.lists.proofs.Choice.{yes, no, both_right}
use Rattle.triangulation.specs.Recursion.{no_total}
use Rattle.minimum_weight.specs.declared.choice.Pick.{Pick}
use Rattle.blocks.specs.Blocks.{Starts}
use Rattle.terms.specs.Limits.{max_vertices}
use Rattle.terms.specs.Entries.{entry_at, vertex_a, vertex_c}
use Rattle.minimum_weight.specs.Tables.{better_of, pick_below, hung_on_edge}
use Rattle.lists.proofs.Bools.{both_no}

module _ (p : Pick) (u : ℕ) where
  -- the pick of candidate u
  taken : ℕ → ℕ → Pick
  taken d w = record { cost = d + w; at = u }

  -- candidate u is not on the edge, or its own total is not lower, or its total with the row is not, or it is
  pub off_edge : (on : Bool) (d w : ℕ) → on ≡ false → p ≡ better_of p u on d w
  unfolding taken better_of
  off_edge on d w e = sym (no (taken d w) p (no _ _ e))

  pub no_lower : (on : Bool) (d w : ℕ) → p.cost ≤ d → p ≡ better_of p u on d w
  unfolding taken better_of
  no_lower on d w h = sym (no (taken d w) p (both_no on (both_no (ltb d no_total) (le-ltb (d + w) p.cost (omega arith)))))

  pub no_better : (on : Bool) (d w r : ℕ) → on ≡ true → d < no_total → r ≡ w → p.cost ≤ d + r → p ≡ better_of p u on d w
  unfolding taken better_of
  no_better on d w r e h q l = sym (no (taken d w) p (yes _ _ e ∙ yes _ _ (lt-ltb d no_total h) ∙ le-ltb (d + w) p.cost (omega arith)))

  pub is_better : (on : Bool) (d w r : ℕ) → on ≡ true → d < no_total → r ≡ w → d + r < p.cost → record { cost = d + r; at = u } ≡ better_of p u on d w
  unfolding taken better_of
  is_better on d w r e h q l = ap (taken d) q ∙ sym (yes (taken d w) p (yes _ _ e ∙ yes _ _ (lt-ltb d no_total h) ∙ lt-ltb (d + w) p.cost (omega arith)))

  pub better_bounded : (on : Bool) (d w : ℕ) → p.cost ≤ no_total → (better_of p u on d w).cost ≤ no_total
  unfolding taken better_of
  better_bounded on d w h = go (both on (both (ltb d no_total) (ltb (d + w) p.cost))) refl
    where
      go : (b : Bool) → both on (both (ltb d no_total) (ltb (d + w) p.cost)) ≡ b → (cond b (taken d w) p).cost ≤ no_total
      go true e = let l = ltb-true (d + w) p.cost (both_right (ltb d no_total) _ (both_right on _ e)) in omega arith
      go false e = h

-- no total is above 'none'
pub pick_bounded : (on : ℕ → Bool) (d w : ℕ → ℕ) (k : ℕ) → (pick_below on d w k).cost ≤ no_total
pick_bounded on d w zero = le_refl no_total
pick_bounded on d w (suc k) = better_bounded (pick_below on d w k) k (on k) (d k) (w k) (pick_bounded on d w k)

-- candidates off the edge are passed over
pub pick_skip : (on : ℕ → Bool) (d w : ℕ → ℕ) (x y : ℕ) → x ≤ y → ((u : ℕ) → x ≤ u → u < y → on u ≡ false) → pick_below on d w y ≡ pick_below on d w x
pick_skip on d w x zero h f = let e : 0 ≡ x = omega arith in ap (pick_below on d w) e
pick_skip on d w x (suc y) h f = ⊎_elim (λ e. ap (pick_below on d w) (sym e))
    (λ (l : x < suc y). sym (off_edge (pick_below on d w y) y (on y) (d y) (w y) (f y (omega arith) (omega arith)))
    ∙ pick_skip on d w x y (omega arith) (λ u a b. f u a (omega arith)))
    (eq-or-lt_of_le h)

module _ (candidates : List (List ℕ)) (starts : List ℕ) (i j : ℕ) (d w : ℕ → ℕ) (b : Starts candidates starts) (h : i < max_vertices) where
  abbrev pick_of : ℕ → Pick
  pick_of = pick_below (hung_on_edge candidates i j) d w

  -- only candidates of the block of i are on an edge (i, j)
  pub block_start : record { cost = no_total; at = 0 } ≡ pick_of (get_or starts i 0)
  block_start = sym (pick_skip (hung_on_edge candidates i j) d w 0 (get_or starts i 0) (omega arith)
      (λ u x y. no _ _ (ne_eqb (vertex_a (entry_at candidates u)) i (λ e. omega (arith, (b.at i (omega arith)).below u y)))))

  pub block_next : (p : Pick) (u : ℕ) {q : Pick} → get_or starts i 0 ≤ u → u < get_or starts (i + 1) 0 → p ≡ pick_of u →
      q ≡ better_of p u (eqb (vertex_c (entry_at candidates u)) j) (d u) (w u) → q ≡ pick_of (u + 1)
  block_next p u l m e f =
      let a : vertex_a (entry_at candidates u) ≡ i = le_antisymm (omega (arith, (b.at (i + 1) (omega arith)).below u m))
      ((b.at i (omega arith)).above u l (omega (arith, (b.at (i + 1) (omega arith)).within))) in
      f ∙ ap (λ x. better_of x u (eqb (vertex_c (entry_at candidates u)) j) (d u) (w u)) e
      ∙ ap (λ on. better_of (pick_of u) u on (d u) (w u)) (sym (yes _ _ (eq-eqb (vertex_a (entry_at candidates u)) i a))) ∙ ap pick_of (sym (add-one u))

  pub block_end : (p : Pick) (u : ℕ) → u ≤ get_or starts (i + 1) 0 → get_or starts (i + 1) 0 ≤ u → p ≡ pick_of u → p ≡ pick_of (length candidates)
  block_end p u l m e = e ∙ sym (pick_skip (hung_on_edge candidates i j) d w u (length candidates) (omega (arith, (b.at (i + 1) (omega arith)).within))
      (λ v x y. no _ _ (ne_eqb (vertex_a (entry_at candidates v)) i (λ z. omega (arith, (b.at (i + 1) (omega arith)).above v (omega arith) y)))))
