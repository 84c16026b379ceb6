-- Placing the starts of the blocks, in one pass over candidates that ascend by their first vertex. Assumes nothing.
use Prim.Native.Nat.{ℕ, ◌+◌, ◌≤◌, ◌<◌}
use mathlib.Core.Path.{◌≡◌, ap, ◌∙◌}
use mathlib.Core.Bool.{true}
use mathlib.Core.Logic.{⊎_elim}
use mathlib.Core.List.{List, []}
use native.Mathlib.Omega.{arith}
use native.Mathlib.Nat.{eq-or-lt_of_le}
use lib.ListN.{length, get_or, set, drop, length-set, length-drop}
use lib.Seq.{get_or-set_same, get_or-set_other}
use lib.Dec.{ltb}
use borrow.Author.Tests.{ltb-true, lt-ltb}
use Rattle.std.specs.List.{prefix_len}
use Rattle.std.proofs.lemmas.List.Sums.{prefix_len-le-length}
use Rattle.lists.proofs.Points.{prefix_passes, prefix_count}
use Rattle.terms.specs.Entries.{entry_at, vertex_a}
use Rattle.blocks.specs.Blocks.{start_count, ByFirst, start_of, starts_of}
use Rattle.blocks.proofs.Starts.{starts_by_place}

module _ (cs : List (List ℕ)) where
  -- the starts of the blocks before that of k are placed, and the first `passed` candidates have a first vertex below k
  pub record Placed (starts : List ℕ) (k passed : ℕ) : Type 0 where
    pub size : length starts ≡ start_count
    pub range : passed ≤ length cs
    pub front : (q : ℕ) → q < passed → vertex_a (entry_at cs q) < k
    pub at : (j : ℕ) → j < k → get_or starts j 0 ≡ start_of cs j

  pub placed_start : (starts : List ℕ) → length starts ≡ start_count → Placed starts 0 0
  placed_start starts e = record { size = e; range = omega arith; front = λ q h. absurd (omega arith); at = λ j h. absurd (omega arith) }

  module _ (up : ByFirst cs) where
    -- a candidate before one that is below k is below k
    down : (k i j : ℕ) → i < j → j < length cs → ltb (vertex_a (entry_at cs j)) k ≡ true → ltb (vertex_a (entry_at cs i)) k ≡ true
    down k i j h l t = lt-ltb (vertex_a (entry_at cs i)) k (omega (arith, up.up i j h l, ltb-true (vertex_a (entry_at cs j)) k t))

    pub placed_next : {starts : List ℕ} {k passed n : ℕ} → Placed starts k passed → k < start_count
        → n ≡ prefix_len (λ t. ltb (vertex_a t) k) (drop passed cs) → Placed (set starts k (passed + n)) (k + 1) (passed + n)
    placed_next {starts} {k} {passed} {n} p h e = record {
      size = length-set starts k (passed + n) ∙ p.size;
      range = omega (arith, e, p.range, prefix_len-le-length (λ t. ltb (vertex_a t) k) (drop passed cs), length-drop passed cs);
      front = λ q l. omega (arith, ltb-true (vertex_a (entry_at cs q)) k (prefix_passes (λ t. ltb (vertex_a t) k) cs [] passed before q (omega (arith, e))));
      at = λ j l. ⊎_elim
          (λ (z : j ≡ k). rw z (get_or-set_same starts k (passed + n) 0 (omega (arith, p.size)) ∙ ap (λ m. passed + m) e
          ∙ prefix_count (λ t. ltb (vertex_a t) k) cs [] passed before (down k) p.range))
          (λ (m : j < k). get_or-set_other starts k j (passed + n) 0 (λ (z : j ≡ k). omega arith) ∙ p.at j m)
          (eq-or-lt_of_le (let z : j ≤ k = omega arith in z));
    }
      where
        before : (q : ℕ) → q < passed → ltb (vertex_a (entry_at cs q)) k ≡ true
        before q l = lt-ltb (vertex_a (entry_at cs q)) k (p.front q l)

  pub placed_all : {starts : List ℕ} {k passed : ℕ} → Placed starts k passed → start_count ≤ k → starts ≡ starts_of cs
  placed_all p h = starts_by_place cs _ p.size (λ j l. p.at j (omega arith))
