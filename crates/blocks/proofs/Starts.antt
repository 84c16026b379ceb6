-- Where block starts stand. Assumes nothing.
use mathlib.Core.Path.{◌≡◌, refl, sym, ap, ◌∙◌, subst}
use mathlib.Core.List.{List}
use Prim.Native.Nat.{ℕ, zero, suc, ◌+◌, ◌-◌, ◌≤◌, ◌<◌}
use native.Mathlib.Omega.{arith}
use borrow.Author.Tests.{ltb-true, ltb-false, lt-ltb, le-ltb}
use lib.ListN.{length, get_or}
use lib.Seq.{ext_get_or}
use Rattle.lists.proofs.Fronts.{front_count, front_of}
use Rattle.lists.proofs.Ranges.{over_length, over_at}
use Rattle.terms.specs.Limits.{max_vertices}
use Rattle.terms.specs.Entries.{entry_at, vertex_a}
use Rattle.blocks.specs.Blocks.{start_count, ByFirst, BlockStart, start_of, starts_of, Starts}

module _ (cs : List (List ℕ)) where
  pub start_order : {j k x y : ℕ} → BlockStart cs j x → BlockStart cs k y → j ≤ k → x ≤ y
  start_order {j} {k} {x} {y} p q l = go (x - y) refl
    where
      go : (d : ℕ) → x - y ≡ d → x ≤ y
      go zero e = omega arith
      go (suc d) e =
          let m : y < x = omega arith in
          let u = p.below y m in
          let v = q.above y (omega arith) (omega (arith, p.within)) in
          absurd (omega arith)

  pub start_at : {j k x : ℕ} → j ≡ k → BlockStart cs j x → BlockStart cs k x
  start_at {x = x} e s = subst (λ (k : ℕ). BlockStart cs k x) e s

  -- a block does not end before it starts
  pub starts_up : (starts : List ℕ) (k : ℕ) → Starts cs starts → k < max_vertices → get_or starts k 0 ≤ get_or starts (k + 1) 0
  starts_up starts k s h = start_order (s.at k (omega arith)) (s.at (k + 1) (omega arith)) (omega arith)

-- a block starts after as many candidates as have a first vertex below its own
module _ (cs : List (List ℕ)) where
  pub start_count_lem : {k r : ℕ} → BlockStart cs k r → r ≡ start_of cs k
  start_count_lem {k} b =
      front_count (record {
        within = b.within;
        before = λ i h. lt-ltb (vertex_a (entry_at cs i)) k (b.below i h);
        after = λ i l h. le-ltb (vertex_a (entry_at cs i)) k (b.above i l h);
      })

  -- a list with these numbers in its places is the list of all starts
  pub starts_by_place : (starts : List ℕ) → length starts ≡ start_count → ((k : ℕ) → k < start_count → get_or starts k 0 ≡ start_of cs k)
      → starts ≡ starts_of cs
  starts_by_place starts e at = ext_get_or 0 starts (starts_of cs) (e ∙ sym (over_length 0 start_count (start_of cs)))
      (λ k h. at k (omega arith) ∙ sym (over_at 0 start_count (start_of cs) 0 k (omega arith) ∙ ap (start_of cs) (omega arith)))

  pub starts_are : (starts : List ℕ) → length starts ≡ start_count → Starts cs starts → starts ≡ starts_of cs
  starts_are starts e s = starts_by_place starts e (λ k h. start_count_lem (s.at k h))

  module _ (up : ByFirst cs) where
    pub start_of_lem : (k : ℕ) → BlockStart cs k (start_of cs k)
    start_of_lem k =
        let f = front_of (length cs)
        (λ i j h l t. lt-ltb (vertex_a (entry_at cs i)) k (let m = ltb-true (vertex_a (entry_at cs j)) k t in omega (arith, up.up i j h l))) in
        record {
          within = f.within;
          below = λ i h. ltb-true (vertex_a (entry_at cs i)) k (f.before i h);
          above = λ i l h. ltb-false (vertex_a (entry_at cs i)) k (f.after i l h);
        }

    pub starts_of_lem : {starts : List ℕ} → starts ≡ starts_of cs → Starts cs starts
    starts_of_lem e = record {
      at = λ k h. subst (BlockStart cs k)
          (sym (ap (λ t. get_or t k 0) e ∙ over_at 0 start_count (start_of cs) 0 k (omega arith) ∙ ap (start_of cs) (omega arith))) (start_of_lem k);
    }
