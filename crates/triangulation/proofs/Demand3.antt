-- Demand 3 holds of the answer, and of no other; a tiling has n − 2 triangles, and its walk order names each once. Assumes nothing.
use Prim.Native.Nat.{ℕ, zero, suc, ◌-◌, ◌≤◌, ◌<◌}
use mathlib.Core.Path.{◌≡◌, refl, sym, ap, ap₂, ◌∙◌}
use mathlib.Core.Bool.{Bool, true, false, false≢true}
use mathlib.Core.Logic.{◌⊎◌, inl, inr, ⊎_elim, ◌≢◌}
use mathlib.Core.List.Memᴰ
use mathlib.Core.List.{List, [], ◌∷◌, map, Memᴰ}
use mathlib.Core.List.{cons≢nil, head-eq_of_cons-eq, tail-eq_of_cons-eq}
use native.Mathlib.Omega.{arith}
use native.Mathlib.Nat.{le_antisymm}
use lib.ListN.{length}
use lib.Dec.{eqb}
use borrow.Author.Tests.{eqb-true, eqb-false}
use Rattle.lists.specs.Sums.{sum, numbers_from}
use Rattle.triangulation.specs.Triangulations.{Problem, ValidProblem, Answer, none, patch, answer_of, subsets, no_later, least}
use Rattle.triangulation.specs.Triangulations.{is_triangulation, triangulations, total_weight, preorder, key, best_key, best}
use Rattle.triangulation.specs.Demand3.{Triangulates, Earlier, here, later, Optimal, Demand3, NamesOnce, HandedBack}
use Rattle.triangulation.proofs.Sums.{Mem, mem_keep, keep_mem, once_apart}
use Rattle.triangulation.proofs.Parts.{part_length}
use Rattle.triangulation.proofs.SetsToParts.{set_part, mem_preorder, preorder_mem, preorder_once, preorder_sum}
use Rattle.triangulation.proofs.PartsToSets.{up_from_mem}
use Rattle.triangulation.proofs.Order.{NoLater, less, same, no_later_cases, least_le, least_mem}
use Rattle.triangulation.proofs.Least.{Image, image, map_mem, subset_mem}

-- two subsets of an ascending list with the same members are the same
module _ where
  unfoldable pub SameMembers : List ℕ → List ℕ → Type 0
  SameMembers s t = ((k : ℕ) → Mem k s → Mem k t) × ((k : ℕ) → Mem k t → Mem k s)

  -- a subset of i, i + 1, .. starts with i, or is one of i + 1, ..
  pub data Split (i c : ℕ) (s : List ℕ) : Type 0 where
    with_it : (r : List ℕ) → Memᴰ r (subsets (numbers_from (suc i) c)) → s ≡ i ∷ r → Split i c s
    without : Memᴰ s (subsets (numbers_from (suc i) c)) → Split i c s

  pub split : (i c : ℕ) (s : List ℕ) → Memᴰ s (subsets (numbers_from i (suc c))) → Split i c s
  split i c s m =
      ⊎_elim (λ h. go (map_mem (λ r. i ∷ r) s (subsets (numbers_from (suc i) c)) h)) without
      (Memᴰ.append_cases (map (λ r. i ∷ r) (subsets (numbers_from (suc i) c))) m)
    where
      go : Image (λ r. i ∷ r) s (subsets (numbers_from (suc i) c)) → Split i c s
      go (image r n e) = with_it r n e

  above : (i c : ℕ) (s : List ℕ) → Memᴰ s (subsets (numbers_from (suc i) c)) → Mem i s → ⊥
  above i c s m r = omega (arith, up_from_mem (suc i) c i (subset_mem (numbers_from (suc i) c) s m i r))

  -- the members of a tail
  tail_mem : (i c : ℕ) (r t : List ℕ) → Memᴰ r (subsets (numbers_from (suc i) c)) → ((k : ℕ) → Mem k (i ∷ r) → Mem k (i ∷ t)) → (k : ℕ) → Mem k r → Mem k t
  tail_mem i c r t m h k q = ⊎_elim (λ e. absurd (above i c r m (rw e at q))) (λ z. z) (Memᴰ.cases_cons (h k (Memᴰ.tail q)))

  pub same_subset : (i c : ℕ) (s t : List ℕ) → Memᴰ s (subsets (numbers_from i c)) → Memᴰ t (subsets (numbers_from i c)) → SameMembers s t → s ≡ t
  unfolding SameMembers
  same_subset i zero s t m n h =
      ⊎_elim (λ e. ⊎_elim (λ d. e ∙ sym d) (λ z. absurd (Memᴰ.not-nil z)) (Memᴰ.cases_cons n))
      (λ z. absurd (Memᴰ.not-nil z)) (Memᴰ.cases_cons m)
  same_subset i (suc c) s t m n h = go (split i c s m) (split i c t n) (λ s t. same_subset (suc i) c s t)
    where
      go : Split i c s → Split i c t →
          ((s t : List ℕ) → Memᴰ s (subsets (numbers_from (suc i) c)) → Memᴰ t (subsets (numbers_from (suc i) c)) → SameMembers s t → s ≡ t) →
          s ≡ t
      go (with_it r a e) (with_it q b d) ih =
          let f : (k : ℕ) → Mem k (i ∷ r) → Mem k (i ∷ q) = rw (e, d) at h.0 in
          let g : (k : ℕ) → Mem k (i ∷ q) → Mem k (i ∷ r) = rw (e, d) at h.1 in
          e ∙ ap (λ z. i ∷ z) (ih r q a b (tail_mem i c r q a f, tail_mem i c q r b g)) ∙ sym d
      go (with_it r a e) (without b) ih = absurd (above i c t b (h.0 i (rw e (Memᴰ.head refl))))
      go (without a) (with_it q b d) ih = absurd (above i c s a (h.1 i (rw d (Memᴰ.head refl))))
      go (without a) (without b) ih = ih s t a b h

-- a list that is no later, and another, is earlier
strictly : (xs ys : List ℕ) → length xs ≡ length ys → no_later xs ys ≡ true → xs ≢ ys → Earlier xs ys
strictly [] [] e h d = absurd (d refl)
strictly [] (y ∷ ys) e h d = absurd (omega arith)
strictly (x ∷ xs) [] e h d = absurd (omega arith)
strictly (x ∷ xs) (y ∷ ys) e h d = go (no_later_cases x y xs ys h) (λ a b. strictly xs ys (omega arith) a b)
  where
    go : NoLater x y xs ys → (no_later xs ys ≡ true → xs ≢ ys → Earlier xs ys) → Earlier (x ∷ xs) (y ∷ ys)
    go (less a) ih = here a
    go (same a b) ih = later a (ih b (λ q. d (ap₂ (λ u v. u ∷ v) a q)))

earlier_asym : {xs ys : List ℕ} → Earlier xs ys → Earlier ys xs → ⊥
earlier_asym (here a) (here b) = omega arith
earlier_asym (here a) (later b q) = omega arith
earlier_asym (later a p) (here b) = omega arith
earlier_asym (later a p) (later b q) = earlier_asym p q

same_list? : (xs ys : List ℕ) → (xs ≡ ys) ⊎ (xs ≢ ys)
same_list? [] [] = inl refl
same_list? [] (y ∷ ys) = inr (λ e. cons≢nil (sym e))
same_list? (x ∷ xs) [] = inr (λ e. cons≢nil e)
same_list? (x ∷ xs) (y ∷ ys) = go (eqb x y) refl (same_list? xs ys)
  where
    go : (b : Bool) → eqb x y ≡ b → (xs ≡ ys) ⊎ (xs ≢ ys) → (x ∷ xs ≡ y ∷ ys) ⊎ (x ∷ xs ≢ y ∷ ys)
    go true e (inl q) = inl (ap₂ (λ u v. u ∷ v) (eqb-true x y e) q)
    go true e (inr q) = inr (λ z. q (tail-eq_of_cons-eq z))
    go false e r = inr (λ z. eqb-false x y e (head-eq_of_cons-eq z))

pub sum_ones : (s : List ℕ) → sum (λ k. 1) s ≡ length s
sum_ones [] = refl
sum_ones (x ∷ s) = omega (arith, sum_ones s)

module _ (job : Problem) (good : ValidProblem job) where
  -- the members of a tiling are candidates
  pub members : (s : List ℕ) → Triangulates job s → (k : ℕ) → Mem k s → k < job.size
  members s h k m = omega (arith, up_from_mem 0 job.size k (subset_mem (numbers_from 0 job.size) s h.0 k m))

  pub preorder_length : (s : List ℕ) → Triangulates job s → length (preorder job s) ≡ job.n - 2
  preorder_length s h = omega (arith, part_length job (set_part job good s (members s h) h.1))

  -- a tiling has exactly n − 2 triangles
  pub triangle_count : (s : List ℕ) → Triangulates job s → length s ≡ job.n - 2
  triangle_count s h = sym (sum_ones s) ∙ preorder_sum job good s (members s h) h.1 (λ k. 1) ∙ sum_ones (preorder job s) ∙ preorder_length s h

  -- a tiling's walk order names each of its triangles once
  pub names_once : (s : List ℕ) → Triangulates job s → NamesOnce (preorder job s) s
  names_once s h =
      let only : (k : ℕ) → Mem k (preorder job s) → Mem k s = preorder_mem job good s (members s h) h.1 in
      record {
        all = mem_preorder job good s (members s h) h.1;
        only = only;
        apart = once_apart (preorder job s) (λ k m. omega (arith, preorder_once job good s (members s h) h.1 k (only k m)));
      }

  -- tilings with one preorder are the same set
  preorder_injective : (s t : List ℕ) → Triangulates job s → Triangulates job t → preorder job s ≡ preorder job t → s ≡ t
  unfolding SameMembers
  preorder_injective s t h k e = same_subset 0 job.size s t h.0 k.0 (one s t h k e, one t s k h (sym e))
    where
      one : (s t : List ℕ) → Triangulates job s → Triangulates job t → preorder job s ≡ preorder job t → (z : ℕ) → Mem z s → Mem z t
      one s t h k e z m = preorder_mem job good t (members t k) k.1 z (rw e at (mem_preorder job good s (members s h) h.1 z m))

  key_mem : (s : List ℕ) → Triangulates job s → Memᴰ (key job s) (map (key job) (triangulations job))
  key_mem s h = Memᴰ.map (key job) (mem_keep (is_triangulation job) s (subsets (numbers_from 0 job.size)) h.0 h.1)

  best_le : (s : List ℕ) → Triangulates job s → no_later (best_key job) (total_weight job s ∷ preorder job s) ≡ true
  unfolding best_key key
  best_le s h = least_le (map (key job) (triangulations job)) (key job s) (key_mem s h)

  optimal : (s : List ℕ) (x : ℕ) (l : List ℕ) → best_key job ≡ x ∷ l → Triangulates job s → x ∷ l ≡ total_weight job s ∷ preorder job s → Optimal job x l
  optimal s x l e h q = record {
    set = s;
    tiles = h;
    walk = tail-eq_of_cons-eq q;
    weight = head-eq_of_cons-eq q;
    lowest = λ t k. low t (no_later_cases x (total_weight job t) l (preorder job t) (rw e at (best_le t k)));
    first = λ t k d z. next t k d z (no_later_cases x (total_weight job t) l (preorder job t) (rw e at (best_le t k)));
  }
    where
      low : (t : List ℕ) → NoLater x (total_weight job t) l (preorder job t) → x ≤ total_weight job t
      low t (less a) = omega arith
      low t (same a b) = omega arith

      next : (t : List ℕ) → Triangulates job t → t ≢ s → total_weight job t ≡ x → NoLater x (total_weight job t) l (preorder job t) → Earlier l (preorder job t)
      next t k d z (less a) = absurd (omega arith)
      next t k d z (same a b) = strictly l (preorder job t) (ap length (tail-eq_of_cons-eq q) ∙ preorder_length s h ∙ sym (preorder_length t k)) b
          (λ p. d (preorder_injective t s k h (sym p ∙ tail-eq_of_cons-eq q)))

  pub demand3 : Demand3 job (best job)
  unfolding best_key key
  demand3 = go (best_key job) refl
    where
      some : (x : ℕ) (l : List ℕ) → best_key job ≡ x ∷ l → Image (key job) (x ∷ l) (triangulations job) → Demand3 job (patch x l)
      some x l e (image s m q) =
          let o : Optimal job x l = optimal s x l e (keep_mem (is_triangulation job) s (subsets (numbers_from 0 job.size)) m) q in
          record {
            patch_is = λ (y : ℕ) (k : List ℕ) (z : patch x l ≡ patch y k). let p : y ≡ x = cc in let q : k ≡ l = cc in rw (p, q) o;
            patch_if = λ t k. (x, l, refl);
            none_is = λ z. absurd (false≢true (cc));
            none_if = λ h. absurd (h o.set o.tiles);
          }

      member : (ks : List (List ℕ)) (x : ℕ) (l : List ℕ) → least ks ≡ x ∷ l → Memᴰ (x ∷ l) ks
      member [] x l e = absurd (cons≢nil (sym e))
      member (k ∷ ks) x l e = rw e at (least_mem k ks)

      go : (k : List ℕ) → best_key job ≡ k → Demand3 job (answer_of k)
      go [] e = record {
        patch_is = λ x l z. absurd (false≢true (cc));
        patch_if = λ s h. absurd (false≢true (rw e at (best_le s h)));
        none_is = λ z s h. false≢true (rw e at (best_le s h));
        none_if = λ h. refl;
      }
      go (x ∷ l) e = some x l e (map_mem (key job) (x ∷ l) (triangulations job) (member (map (key job) (triangulations job)) x l e))

  -- any answer of which demand 3 holds is this one
  pub demand3_unique : (answer : Answer) → Demand3 job answer → answer ≡ best job
  demand3_unique answer d = go answer refl (best job) refl
    where
      agree : (x y : ℕ) (l k : List ℕ) → Optimal job x l → Optimal job y k → patch x l ≡ patch y k
      agree x y l k p q = ⊎_elim
          (λ e. ap₂ patch (p.weight ∙ ap (total_weight job) e ∙ sym q.weight) (p.walk ∙ ap (preorder job) e ∙ sym q.walk))
          (λ e. let z : x
          ≡ y = le_antisymm (omega (arith, p.lowest q.set q.tiles, q.weight)) (omega (arith, q.lowest p.set p.tiles, p.weight)) in
          absurd (earlier_asym (rw (← q.walk) at (p.first q.set q.tiles (λ w. e (sym w)) (sym q.weight ∙ sym z)))
          (rw (← p.walk) at (q.first p.set p.tiles e (sym p.weight ∙ z)))))
          (same_list? p.set q.set)

      go : (x : Answer) → answer ≡ x → (y : Answer) → best job ≡ y → answer ≡ best job
      go none e y f = e ∙ sym (demand3.none_if (d.none_is e))
      go (patch x l) e none f = absurd (demand3.none_is f (d.patch_is x l e).set (d.patch_is x l e).tiles)
      go (patch x l) e (patch y k) f = e ∙ agree x y l k (d.patch_is x l e) (demand3.patch_is y k f) ∙ sym f

  -- a right patch is all that the caller is promised
  pub handed_back_lem : (total : ℕ) (part : List ℕ) → Optimal job total part → HandedBack job total part
  handed_back_lem total part o = record {
    right = o;
    count = ap length o.walk ∙ preorder_length o.set o.tiles;
    once = rw o.walk (names_once o.set o.tiles);
  }

  -- a patch has n − 2 triangles
  pub best_length : (total : ℕ) (triangles : List ℕ) → best job ≡ patch total triangles → length triangles ≡ job.n - 2
  best_length total triangles e = let o = demand3.patch_is total triangles e in ap length o.walk ∙ preorder_length o.set o.tiles
