-- A set of candidates is a tiling as rule 3.3 says it exactly when it passes the test: for every valid problem. Assumes nothing.
use Prim.Native.Nat.{ℕ, zero, suc, ◌+◌, ◌-◌, ◌≤◌, ◌<◌}
use mathlib.Core.Path.{◌≡◌, refl, sym, ap, ◌∙◌}
use mathlib.Core.Bool.{Bool, true, false, false≢true}
use mathlib.Core.Logic.{◌⊎◌, inl, inr, ⊎_elim}
use mathlib.Core.List.Memᴰ
use mathlib.Core.List.{List, [], ◌∷◌, map, Memᴰ}
use native.Mathlib.Nat.{zero-add}
use native.Mathlib.Omega.{arith}
use lib.ListN.{length, get_or}
use lib.Dec.{eqb}
use borrow.Author.Tests.{eqb-true, eqb-false, eq-eqb}
use Rattle.lists.specs.Lists.{both}
use Rattle.lists.proofs.Choice.{both_true, either_left, either_right, either_cases}
use Rattle.lists.proofs.Ranges.{every_all}
use Rattle.lists.proofs.Members.{Ascending, empty, more, ascending_at, member_entry}
use Rattle.lists.specs.Sums.{numbers_from}
use Rattle.triangulation.specs.Triangulations.{Problem, ValidProblem, subsets, long_edge, short_edge, count_between}
use Rattle.triangulation.specs.Triangulations.{count_outside, is_boundary, edge_ok, is_triangulation}
use Rattle.triangulation.specs.Demand3.{Triangulates}
use Rattle.triangulation.specs.Tiling.{RimEdge, to_next, closing, ExactlyOne, of_ab, of_bc, of_ac, HasEdge, edge}
use Rattle.triangulation.specs.Tiling.{Between, between, Outside, before, after, Inner, unused, in_two, Tiling}
use Rattle.triangulation.proofs.Sums.{Mem, count, mem_keep, the_one, One, one, mem_count, Any, any, none, some}
use Rattle.triangulation.proofs.SetParts.{both_eq}
use Rattle.triangulation.proofs.SetsToParts.{short_edge_cases, Edge}
use Rattle.triangulation.proofs.SetsToParts as sets
use Rattle.triangulation.proofs.PartsToSets.{up_from_mem}
use Rattle.triangulation.proofs.Least.{mem_map, subset_mem}
use Rattle.triangulation.proofs.Demand3.{Split, with_it, without, split, members}

-- ---- a subset of i, i + 1, .. is an ascending list of such numbers
abbrev Ascends : List ℕ → Type 0
Ascends s = Ascending (λ x y. x < y) s

subset_ascends : (i c : ℕ) (s : List ℕ) → Memᴰ s (subsets (numbers_from i c)) → Ascends s
subset_ascends i zero s m = ⊎_elim (λ e. rw e empty) (λ z. absurd (Memᴰ.not-nil z)) (Memᴰ.cases_cons m)
subset_ascends i (suc c) s m = go (split i c s m) (λ r n. subset_ascends (suc i) c r n)
  where
    go : Split i c s → ((r : List ℕ) → Memᴰ r (subsets (numbers_from (suc i) c)) → Ascends r) → Ascends s
    go (with_it r n e) ih = rw e (more {x = i}
        (λ k (q : Mem k r). omega (arith, up_from_mem (suc i) c k (subset_mem (numbers_from (suc i) c) r n k q))) (ih r n))
    go (without n) ih = ih s n

ascends : (s : List ℕ) → ((x y : ℕ) → x < y → y < length s → get_or s x 0 < get_or s y 0) → Ascends s
ascends [] h = empty
ascends (x ∷ s) h =
    more {x = x} (λ k m. let e = member_entry s 0 k m in omega (arith, h 0 (suc e.at) (omega arith) (omega (arith, e.below)), e.is))
    (ascends s (λ u v l m. h (suc u) (suc v) (omega arith) (omega arith)))

ascends_subset : (i c : ℕ) (s : List ℕ) → Ascends s → ((k : ℕ) → Mem k s → (i ≤ k) × (k < i + c)) → Memᴰ s (subsets (numbers_from i c))
ascends_subset i zero [] a h = Memᴰ.head refl
ascends_subset i zero (x ∷ s) a h = absurd (omega (arith, h x (Memᴰ.head refl)))
ascends_subset i (suc c) [] a h =
    Memᴰ.append_right (map (λ r. i ∷ r) (subsets (numbers_from (suc i) c))) (ascends_subset (suc i) c [] empty (λ k m. absurd (Memᴰ.not-nil m)))
ascends_subset i (suc c) (x ∷ s) (more hx hs) h = go (eqb x i) refl (λ t a b. ascends_subset (suc i) c t a b)
  where
    later : (k : ℕ) → Mem k s → (suc i ≤ k) × (k < suc i + c)
    later k m = let l : x < k = hx k m in (omega (arith, h x (Memᴰ.head refl)), omega (arith, h k (Memᴰ.tail m)))

    go : (b : Bool) → eqb x i ≡ b
        → ((t : List ℕ) → Ascends t → ((k : ℕ) → Mem k t → (suc i ≤ k) × (k < suc i + c)) → Memᴰ t (subsets (numbers_from (suc i) c)))
        → Memᴰ (x ∷ s) (subsets (numbers_from i (suc c)))
    go true e ih =
        rw (eqb-true x i e)
        (Memᴰ.append_left (subsets (numbers_from (suc i) c)) (mem_map (λ r. i ∷ r) s (subsets (numbers_from (suc i) c)) (ih s hs later)))
    go false e ih = Memᴰ.append_right (map (λ r. i ∷ r) (subsets (numbers_from (suc i) c))) (ih (x ∷ s) (more hx hs) whole)
      where
        whole : (k : ℕ) → Mem k (x ∷ s) → (suc i ≤ k) × (k < suc i + c)
        whole k m = ⊎_elim (λ q. (omega (arith, h x (Memᴰ.head refl), eqb-false x i e), omega (arith, h k m))) (λ q. later k q) (Memᴰ.cases_cons m)

-- ---- how many of an ascending list pass a test
count_none : (p : ℕ → Bool) (s : List ℕ) → ((k : ℕ) → Mem k s → p k ≡ true → ⊥) → count p s ≡ 0
count_none p s h = go (any p s)
  where
    go : Any p s → count p s ≡ 0
    go (none e) = e
    go (some u m t) = absurd (h u m t)

count_one : (p : ℕ → Bool) {s : List ℕ} → Ascends s → (u : ℕ) → Mem u s → p u ≡ true → ((k : ℕ) → Mem k s → p k ≡ true → k ≡ u) → count p s ≡ 1
count_one p empty u m t only = absurd (Memᴰ.not-nil m)
count_one p {s = x ∷ s} (more hx hs) u m t only = go (p x) refl (λ n. count_one p hs u n t (λ k q. only k (Memᴰ.tail q)))
  where
    go : (b : Bool) → p x ≡ b → (Mem u s → count p s ≡ 1) → count p (x ∷ s) ≡ 1
    go true e ih =
        let first : x ≡ u = only x (Memᴰ.head refl) e in
        let rest : count p s ≡ 0 = count_none p s (λ k q r. omega (arith, hx k q, only k (Memᴰ.tail q) r)) in
        rw (e, rest)
    go false e ih = rw (e, zero-add) (ih (⊎_elim (λ q. absurd (false≢true (sym e ∙ ap p (sym q) ∙ t))) (λ q. q) (Memᴰ.cases_cons m)))

-- a property that a test decides: one member has it exactly when one passes
module _ (P : ℕ → Type 0) (p : ℕ → Bool) (s : List ℕ) (to : (k : ℕ) → Mem k s → p k ≡ true → P k) (from : (k : ℕ) → Mem k s → P k → p k ≡ true) where
  exactly_one : count p s ≡ 1 → ExactlyOne P s
  exactly_one h = go (the_one p s h)
    where
      go : One p s → ExactlyOne P s
      go (one u m t e) = record { the = u; member = m; has = to u m t; only = λ k n q. Memᴰ.eq_of_singleton (rw e at (mem_keep p k s n (from k n q))) }

  one_counted : Ascends s → ExactlyOne P s → count p s ≡ 1
  one_counted a e = count_one p a e.the e.member (from e.the e.member e.has) (λ k m t. e.only k m (to k m t))

module _ (job : Problem) (good : ValidProblem job) where
  -- ---- an edge of a candidate as a test and as a fact
  module _ (i j k : ℕ) (below : k < job.size) where
    to_between : long_edge job i j k ≡ true → Between job i j k
    to_between t =
        let d = both_eq (job.a k) i (job.c k) j t in
        between (of_ac d.0 d.1 refl) (omega (arith, d, good.ab k below, good.bc k below)) (omega (arith, d, good.ab k below, good.bc k below))

    to_outside : short_edge job i j k ≡ true → Outside job i j k
    to_outside t = ⊎_elim
        (λ d. after (of_ab d.0 d.1 refl) (omega (arith, d.1, good.bc k below)))
        (λ d. before (of_bc d.0 d.1 refl) (omega (arith, d.0, good.ab k below)))
        (short_edge_cases job i j k t)

    long : job.a k ≡ i → job.c k ≡ j → long_edge job i j k ≡ true
    long e f = both_true (eq-eqb (job.a k) i e) (eq-eqb (job.c k) j f)

    short_ab : job.a k ≡ i → job.b k ≡ j → short_edge job i j k ≡ true
    short_ab e f = either_left _ _ (both_true (eq-eqb (job.a k) i e) (eq-eqb (job.b k) j f))

    short_bc : job.b k ≡ i → job.c k ≡ j → short_edge job i j k ≡ true
    short_bc e f = either_right (both (eqb (job.a k) i) (eqb (job.b k) j)) _ (both_true (eq-eqb (job.b k) i e) (eq-eqb (job.c k) j f))

    from_between : Between job i j k → long_edge job i j k ≡ true
    from_between (between (of_ab e f g) l m) = absurd (omega (arith, good.bc k below))
    from_between (between (of_bc e f g) l m) = absurd (omega (arith, good.ab k below))
    from_between (between (of_ac e f g) l m) = long e f

    from_outside : Outside job i j k → short_edge job i j k ≡ true
    from_outside (before (of_ab e f g) l) = short_ab e f
    from_outside (before (of_bc e f g) l) = short_bc e f
    from_outside (before (of_ac e f g) l) = absurd (omega (arith, good.ab k below))
    from_outside (after (of_ab e f g) l) = short_ab e f
    from_outside (after (of_bc e f g) l) = short_bc e f
    from_outside (after (of_ac e f g) l) = absurd (omega (arith, good.bc k below))

    from_edge : HasEdge job i j k → (long_edge job i j k ≡ true) ⊎ (short_edge job i j k ≡ true)
    from_edge (edge (of_ab e f g)) = inr (short_ab e f)
    from_edge (edge (of_bc e f g)) = inr (short_bc e f)
    from_edge (edge (of_ac e f g)) = inl (long e f)

    long_edge_lem : long_edge job i j k ≡ true → HasEdge job i j k
    long_edge_lem t = let d = both_eq (job.a k) i (job.c k) j t in edge (of_ac d.0 d.1 refl)

    short_edge_lem : short_edge job i j k ≡ true → HasEdge job i j k
    short_edge_lem t = ⊎_elim (λ d. edge (of_ab d.0 d.1 refl)) (λ d. edge (of_bc d.0 d.1 refl)) (short_edge_cases job i j k t)

    not_both : long_edge job i j k ≡ true → short_edge job i j k ≡ true → ⊥
    not_both t u =
        let d = both_eq (job.a k) i (job.c k) j t in
        ⊎_elim (λ e. omega (arith, d, e, good.bc k below)) (λ e. omega (arith, d, e, good.ab k below)) (short_edge_cases job i j k u)

  -- ---- an edge of a set by its two counts
  module _ (s : List ℕ) (cs : (k : ℕ) → Mem k s → k < job.size) (i j : ℕ) where
    none_passes : (p : ℕ → Bool) → count p s ≡ 0 → (k : ℕ) → Mem k s → p k ≡ true → ⊥
    none_passes p e k m t = omega (arith, mem_count p s k m t)

    counted_rim : count_between job s i j + count_outside job s i j ≡ 1 → ExactlyOne (HasEdge job i j) s
    unfolding count_between count_outside
    counted_rim e = go (any (long_edge job i j) s)
      where
        go : Any (long_edge job i j) s → ExactlyOne (HasEdge job i j) s
        go (none z) = exactly_one (HasEdge job i j) (short_edge job i j) s (λ k m t. short_edge_lem i j k (cs k m) t)
            (λ k m h. ⊎_elim (λ t. absurd (none_passes (long_edge job i j) z k m t)) (λ t. t) (from_edge i j k (cs k m) h)) (omega arith)
        go (some u m t) =
            let l = mem_count (long_edge job i j) s u m t in
            exactly_one (HasEdge job i j) (long_edge job i j) s (λ k m t. long_edge_lem i j k (cs k m) t)
            (λ k m h. ⊎_elim (λ t. t) (λ t. absurd (none_passes (short_edge job i j) (omega arith) k m t)) (from_edge i j k (cs k m) h)) (omega arith)

    rim_counted : Ascends s → ExactlyOne (HasEdge job i j) s → count_between job s i j + count_outside job s i j ≡ 1
    unfolding count_between count_outside
    rim_counted a e = ⊎_elim
        (λ t. let x = count_one (long_edge job i j) a u m t (λ k n q. e.only k n (long_edge_lem i j k (cs k n) q)) in
        let y = count_none (short_edge job i j) s (λ k n q. not_both i j u (cs u m) t (rw (e.only k n (short_edge_lem i j k (cs k n) q)) at q)) in
        omega arith)
        (λ t. let x = count_one (short_edge job i j) a u m t (λ k n q. e.only k n (short_edge_lem i j k (cs k n) q)) in
        let y = count_none (long_edge job i j) s (λ k n q. not_both i j u (cs u m) (rw (e.only k n (long_edge_lem i j k (cs k n) q)) at q) t) in
        omega arith)
        (from_edge i j u (cs u m) e.has)
      where
        u : ℕ
        u = e.the

        m : Mem u s
        m = e.member

    counted_unused : count_between job s i j ≡ 0 → count_outside job s i j ≡ 0 → Inner job s i j
    unfolding count_between count_outside
    counted_unused x y = unused (λ k m h. ⊎_elim (none_passes (long_edge job i j) x k m) (none_passes (short_edge job i j) y k m) (from_edge i j k (cs k m) h))

    counted_two : count_between job s i j ≡ 1 → count_outside job s i j ≡ 1 → Inner job s i j
    unfolding count_between count_outside
    counted_two x y = in_two
        (exactly_one (Between job i j) (long_edge job i j) s (λ k m. to_between i j k (cs k m)) (λ k m. from_between i j k (cs k m)) x)
        (exactly_one (Outside job i j) (short_edge job i j) s (λ k m. to_outside i j k (cs k m)) (λ k m. from_outside i j k (cs k m)) y)

    inner_counted : Ascends s → Inner job s i j → edge_ok job false (count_between job s i j) (count_outside job s i j) ≡ true
    unfolding count_between count_outside
    inner_counted a (unused h) =
        let x = count_none (long_edge job i j) s (λ k m t. h k m (long_edge_lem i j k (cs k m) t)) in
        let y = count_none (short_edge job i j) s (λ k m t. h k m (short_edge_lem i j k (cs k m) t)) in
        either_left _ _ (eq-eqb (count (long_edge job i j) s + count (short_edge job i j) s) 0 (omega arith))
    inner_counted a (in_two b o) =
        let x = one_counted (Between job i j) (long_edge job i j) s (λ k m. to_between i j k (cs k m)) (λ k m. from_between i j k (cs k m)) a b in
        let y = one_counted (Outside job i j) (short_edge job i j) s (λ k m. to_outside i j k (cs k m)) (λ k m. from_outside i j k (cs k m)) a o in
        either_right (eqb (count (long_edge job i j) s + count (short_edge job i j) s) 0) _
        (both_true (eq-eqb (count (long_edge job i j) s) 1 x) (eq-eqb (count (short_edge job i j) s) 1 y))

  -- ---- a rim edge as a test and as a fact
  boundary_rim : (i j : ℕ) → is_boundary job i j ≡ true → RimEdge job.n i j
  boundary_rim i j t = ⊎_elim (λ e. to_next (eqb-true j (i + 1) e)) (λ e. let d = both_eq i 0 j (job.n - 1) e in closing d.0 d.1) (either_cases _ _ t)

  rim_boundary : (i j : ℕ) → RimEdge job.n i j → is_boundary job i j ≡ true
  rim_boundary i j (to_next e) = either_left _ _ (eq-eqb j (i + 1) e)
  rim_boundary i j (closing e f) = either_right (eqb j (i + 1)) _ (both_true (eq-eqb i 0 e) (eq-eqb j (job.n - 1) f))

  -- ---- a set that passes the test is a tiling
  pub true_tiling : (s : List ℕ) → Triangulates job s → Tiling job s
  true_tiling s h = record {
    candidates = cs;
    ascending = λ x y l m. omega (arith, ascending_at 0 (subset_ascends 0 job.size s h.0) x y l m);
    rim = λ i j l m r. on_rim i j r (sets.at job good s cs h.1 i j l m);
    inner = λ i j l m r. inside i j r (sets.at job good s cs h.1 i j l m);
  }
    where
      cs : (k : ℕ) → Mem k s → k < job.size
      cs = members job good s h

      on_rim : (i j : ℕ) → RimEdge job.n i j → Edge job i j (count_between job s i j) (count_outside job s i j) → ExactlyOne (HasEdge job i j) s
      on_rim i j r (sets.step e c) = counted_rim s cs i j c
      on_rim i j r (sets.top e f c) = counted_rim s cs i j c
      on_rim i j r (sets.unused b x y) = absurd (false≢true (sym b ∙ rim_boundary i j r))
      on_rim i j r (sets.two_sided b x y) = absurd (false≢true (sym b ∙ rim_boundary i j r))

      inside : (i j : ℕ) → (RimEdge job.n i j → ⊥) → Edge job i j (count_between job s i j) (count_outside job s i j) → Inner job s i j
      inside i j r (sets.step e c) = absurd (r (to_next e))
      inside i j r (sets.top e f c) = absurd (r (closing e f))
      inside i j r (sets.unused b x y) = counted_unused s cs i j x y
      inside i j r (sets.two_sided b x y) = counted_two s cs i j x y

  -- ---- a tiling passes the test
  pub tiling_true : (s : List ℕ) → Tiling job s → Triangulates job s
  unfolding is_triangulation
  tiling_true s t = (
    ascends_subset 0 job.size s up (λ k m. (omega arith, omega (arith, t.candidates k m))),
    every_all 0 job.n _ (λ j _ m. every_all 0 j _ (λ i _ l. by i j l m (is_boundary job i j) refl)),
  )
    where
      up : Ascends s
      up = ascends s (λ x y l m. omega (arith, t.ascending x y l m))

      by : (i j : ℕ) → i < j → j < job.n → (b : Bool) → is_boundary job i j ≡ b →
          edge_ok job (is_boundary job i j) (count_between job s i j) (count_outside job s i j) ≡ true
      by i j l m true e = rw e (eq-eqb _ 1 (rim_counted s t.candidates i j up (t.rim i j l m (boundary_rim i j e))))
      by i j l m false e = rw e (inner_counted s t.candidates i j up (t.inner i j l m (λ r. false≢true (sym e ∙ rim_boundary i j r))))
