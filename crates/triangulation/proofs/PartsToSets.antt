-- Every part from 0 to n − 1 is a triangulation, as a set. Assumes nothing.
use Prim.Native.Nat.{ℕ, zero, suc, ◌+◌, ◌-◌, ◌≤◌, ◌<◌, min}
use mathlib.Core.Path.{◌≡◌, refl, sym, ap, ap₂, ◌∙◌}
use mathlib.Core.Bool.{Bool, true, false, cond, false≢true}
use mathlib.Core.Logic.{inl, inr, ⊎_elim, ◌≢◌}
use mathlib.Core.List.Memᴰ
use mathlib.Core.List.{List, [], ◌∷◌}
use native.Mathlib.Omega.{arith}
use native.Mathlib.Nat.{le_antisymm}
use lib.Dec.{eqb, leb}
use borrow.Author.Tests.{eqb-true, eqb-false, eq-eqb, ne_eqb, leb-true, le-leb}
use Rattle.lists.proofs.Bools.{both_no}
use Rattle.lists.proofs.Choice.{no, both_true, either_left, either_right}
use Rattle.lists.proofs.Ranges.{every_all}
use Rattle.lists.specs.Sums.{only, sum, keep, numbers_from}
use Rattle.triangulation.specs.Triangulations.{Problem, ValidProblem, long_edge, short_edge, count_between, count_outside}
use Rattle.triangulation.specs.Triangulations.{total_weight, preorder_from, is_boundary, edge_ok, is_triangulation}
use Rattle.triangulation.proofs.Sums.{Mem, count, sum_same, count_mono, mem_count, mem_keep, keep_mem}
use Rattle.triangulation.proofs.Parts.{Part, edge, node, boundary, within, Within, between_le}
use Rattle.triangulation.proofs.Parts.{is_edge, is_step, IsEdge, IsStep, is_edge_cases, is_step_cases}
use Rattle.triangulation.proofs.SetParts.{Set, long_edge_is_lem, share, part_total, part_list}

pub mem_up_from : (i c k : ℕ) → i ≤ k → k < i + c → Mem k (numbers_from i c)
mem_up_from i zero k h l = absurd (omega arith)
mem_up_from i (suc c) k h l = go (eqb k i) refl (λ d. mem_up_from (suc i) c k d (omega arith))
  where
    go : (b : Bool) → eqb k i ≡ b → (suc i ≤ k → Mem k (numbers_from (suc i) c)) → Mem k (i ∷ numbers_from (suc i) c)
    go true e ih = Memᴰ.head (eqb-true k i e)
    go false e ih = Memᴰ.tail (ih (let d : k ≢ i = eqb-false k i e in omega arith))

pub up_from_mem : (i c k : ℕ) → Mem k (numbers_from i c) → (i ≤ k) × (k < i + c)
up_from_mem i zero k m = absurd (Memᴰ.not-nil m)
up_from_mem i (suc c) k m =
    ⊎_elim (λ e. (omega arith, omega arith)) (λ r. let d = up_from_mem (suc i) c k r in (omega arith, omega arith)) (Memᴰ.cases_cons m)

-- a number is in numbers_from once at most
pub up_from_once : (i c x : ℕ) → count (λ k. eqb k x) (numbers_from i c) ≤ only (leb i x) 1
up_from_once i zero x = omega arith
up_from_once i (suc c) x = go (eqb i x) (leb (suc i) x) (leb i x) refl refl refl (up_from_once (suc i) c x)
  where
    go : (b d e : Bool) → eqb i x ≡ b → leb (suc i) x ≡ d → leb i x ≡ e → count (λ k. eqb k x) (numbers_from (suc i) c) ≤ only d 1
        → only b 1 + count (λ k. eqb k x) (numbers_from (suc i) c) ≤ only e 1
    go true true e p q r ih = absurd (omega (arith, eqb-true i x p, leb-true (suc i) x q))
    go true false true p q r ih = omega arith
    go true false false p q r ih = absurd (false≢true (sym r ∙ le-leb i x (omega (arith, eqb-true i x p))))
    go false true true p q r ih = omega arith
    go false true false p q r ih = absurd (false≢true (sym r ∙ le-leb i x (omega (arith, leb-true (suc i) x q))))
    go false false e p q r ih = omega arith

pub only_le : (b : Bool) → only b 1 ≤ 1
only_le true = omega arith
only_le false = omega arith

pub count_keep : (p q : ℕ → Bool) (s : List ℕ) → count p (keep q s) ≤ count p s
count_keep p q [] = omega arith
count_keep p q (x ∷ xs) = go (q x) (count_keep p q xs)
  where
    go : (b : Bool) → count p (keep q xs) ≤ count p xs → count p (cond b (x ∷ keep q xs) (keep q xs)) ≤ only (p x) 1 + count p xs
    go true ih = omega arith
    go false ih = omega arith

module _ (job : Problem) (good : ValidProblem job) where
  pub valid : {i j : ℕ} {l : List ℕ} {x : ℕ} → Part job i j l x → (k : ℕ) → Mem k l → k < job.size
  valid (edge e) k m = absurd (Memᴰ.not-nil m)
  valid (node {l = l} u h ei ej wl wr) k m =
      ⊎_elim (λ e. rw e h) (λ r. ⊎_elim (λ r. valid wl k r) (λ r. valid wr k r) (Memᴰ.append_cases l r)) (Memᴰ.cases_cons m)

  module _ (l : List ℕ) (x : ℕ) (w : Part job 0 (job.n - 1) l x) where
    unfoldable pub picked : ℕ → Bool
    picked k = leb 1 (count (λ y. eqb k y) l)

    -- the candidates of the list, in ascending order
    unfoldable pub chosen : List ℕ
    unfolding picked
    chosen = keep picked (numbers_from 0 job.size)

    in_chosen : (k : ℕ) → Mem k l → Mem k chosen
    unfolding picked chosen
    in_chosen k m = mem_keep picked k _ (mem_up_from 0 job.size k (omega arith) (omega (arith, valid w k m)))
        (le-leb 1 (count (λ y. eqb k y) l) (mem_count (λ y. eqb k y) l k m (eq-eqb k k refl)))

    chosen_valid : (k : ℕ) → Mem k chosen → k < job.size
    unfolding picked chosen
    chosen_valid k m = omega (arith, up_from_mem 0 job.size k (keep_mem picked k (numbers_from 0 job.size) m).0)

    pub same_sum : (f : ℕ → ℕ) → sum f chosen ≡ sum f l
    unfolding picked chosen count_between
    same_sum f = sum_same f chosen l
        (λ k m. le_antisymm
        (omega (
          arith,
          between_le job good w (job.a k) (job.c k),
          count_mono (λ y. eqb k y) (long_edge job (job.a k) (job.c k))
              (λ y e. long_edge_is_lem job good l _ _ y (sym (ap job.a (eqb-true k y e))) (sym (ap job.c (eqb-true k y e)))) l,
        ))
        (leb-true 1 (count (λ y. eqb k y) l) (keep_mem picked k (numbers_from 0 job.size) m).1))
        (λ y m. le_antisymm
        (omega (arith, count_keep (λ k. eqb k y) picked (numbers_from 0 job.size), up_from_once 0 job.size y, only_le (leb 0 y)))
        (mem_count (λ k. eqb k y) chosen y (in_chosen y m) (eq-eqb y y refl)))

    chosen_set : Set job good chosen
    unfolding count_between
    chosen_set = record { valid = chosen_valid; single = λ i j. omega (arith, between_le job good w i j, same_sum (λ k. only (long_edge job i j k) 1)) }

    pub chosen_preorder : preorder_from job job.n chosen 0 (job.n - 1) ≡ l
    chosen_preorder = part_list job good chosen chosen_set w in_chosen job.n (omega arith) (omega (arith, good.n3))

    pub chosen_weight : total_weight job chosen ≡ x
    unfolding total_weight
    chosen_weight = same_sum (share job good chosen chosen_set) ∙ sym (part_total job good chosen chosen_set w in_chosen)

    edge_ok_lem : (i j : ℕ) → i < j → j < job.n → edge_ok job (is_boundary job i j) (count_between job l i j) (count_outside job l i j) ≡ true
    edge_ok_lem i j h k = go (is_step_cases 0 (job.n - 1) i j) (is_edge_cases 0 (job.n - 1) i j) (within job good w i j) (boundary job good w i j)
      where
        on_rim : is_boundary job i j ≡ true → count_between job l i j + count_outside job l i j ≡ 1 →
            edge_ok job (is_boundary job i j) (count_between job l i j) (count_outside job l i j) ≡ true
        on_rim r e = rw (r, e)

        none : is_boundary job i j ≡ false → count_between job l i j ≡ 0 → count_outside job l i j ≡ 0 →
            edge_ok job (is_boundary job i j) (count_between job l i j) (count_outside job l i j) ≡ true
        none r e f = rw (r, e, f)

        two_sided : is_boundary job i j ≡ false → count_between job l i j ≡ 1 → count_outside job l i j ≡ 1 →
            edge_ok job (is_boundary job i j) (count_between job l i j) (count_outside job l i j) ≡ true
        two_sided r e f = rw (r, e, f)

        step : j ≡ i + 1 → is_step 0 (job.n - 1) i j ≡ min 1 (i + 1 - 0) - min 1 (i + 1 - (job.n - 1))
            → is_edge 0 (job.n - 1) i j ≡ 0 → Within 0 (job.n - 1) i j (count_between job l i j)
            → count_outside job l i j + is_edge 0 (job.n - 1) i j ≡ count_between job l i j + is_step 0 (job.n - 1) i j
            → count_between job l i j + count_outside job l i j ≡ 1
        step e r t (inl z) b = let p : i + 1 - (job.n - 1) ≡ 0 = omega arith in omega arith
        step e r t (inr z) b = absurd (omega arith)

        inner : is_boundary job i j ≡ false → is_step 0 (job.n - 1) i j ≡ 0 → is_edge 0 (job.n - 1) i j ≡ 0 → Within 0 (job.n - 1) i j (count_between job l i j)
            → count_outside job l i j + is_edge 0 (job.n - 1) i j ≡ count_between job l i j + is_step 0 (job.n - 1) i j
            → edge_ok job (is_boundary job i j) (count_between job l i j) (count_outside job l i j) ≡ true
        inner f r t (inl z) b = none f z (omega arith)
        inner f r t (inr z) b = two_sided f z.0 (omega arith)

        go : IsStep 0 (job.n - 1) i j → IsEdge 0 (job.n - 1) i j → Within 0 (job.n - 1) i j (count_between job l i j)
            → count_outside job l i j + is_edge 0 (job.n - 1) i j ≡ count_between job l i j + is_step 0 (job.n - 1) i j
            → edge_ok job (is_boundary job i j) (count_between job l i j) (count_outside job l i j) ≡ true
        go (IsStep.hit e r) (IsEdge.hit d c t) v b = absurd (omega (arith, good.n3))
        go (IsStep.hit e r) (IsEdge.miss₁ d t) v b = on_rim (either_left _ _ (eq-eqb j (i + 1) e)) (step e r t v b)
        go (IsStep.hit e r) (IsEdge.miss₂ d t) v b = on_rim (either_left _ _ (eq-eqb j (i + 1) e)) (step e r t v b)
        go (IsStep.miss e r) (IsEdge.hit d c t) (inl z) b = absurd (omega arith)
        go (IsStep.miss e r) (IsEdge.hit d c t) (inr z) b =
            on_rim (either_right (eqb j (i + 1)) _ (both_true (eq-eqb i 0 (sym d)) (eq-eqb j (job.n - 1) (sym c)))) (omega arith)
        go (IsStep.miss e r) (IsEdge.miss₁ d t) v b = inner (no _ _ (ne_eqb j (i + 1) e) ∙ no _ _ (ne_eqb i 0 (λ q. d (sym q)))) r t v b
        go (IsStep.miss e r) (IsEdge.miss₂ d t) v b = inner (no _ _ (ne_eqb j (i + 1) e) ∙ both_no (eqb i 0) (ne_eqb j (job.n - 1) (λ q. d (sym q)))) r t v b

    pub chosen_triangulation : is_triangulation job chosen ≡ true
    unfolding is_triangulation count_between count_outside
    chosen_triangulation = every_all 0 job.n _ (λ j _ k. every_all 0 j _ (λ i _ h.
        ap₂ (λ x y. edge_ok job (is_boundary job i j) x y) (same_sum (λ k. only (long_edge job i j k) 1))
        (same_sum (λ k. only (short_edge job i j k) 1)) ∙ edge_ok_lem i j h k))
