-- Every triangulation, as a set, is a part from 0 to n − 1. Assumes nothing.
use Prim.Native.Nat.{ℕ, zero, suc, ◌+◌, ◌-◌, ◌≤◌, ◌<◌}
use mathlib.Core.Path.{◌≡◌, refl, sym, ap, ap₂, ◌∙◌}
use mathlib.Core.Bool.{Bool, true, false, false≢true}
use mathlib.Core.Logic.{◌⊎◌, inl, inr, ⊎_elim}
use mathlib.Core.List.Memᴰ
use mathlib.Core.List.{List, ◌∷◌, ◌++◌, append-nil, head-eq_of_cons-eq}
use native.Mathlib.Omega.{arith}
use native.Mathlib.Nat.{le_antisymm}
use lib.Dec.{eqb}
use borrow.Author.Tests.{eqb-true, eq-eqb}
use Rattle.lists.specs.Lists.{both, either}
use Rattle.lists.proofs.Choice.{both_true, either_right, either_cases}
use Rattle.lists.proofs.Ranges.{every_at}
use Rattle.lists.specs.Sums.{sum, keep, joined}
use Rattle.triangulation.specs.Triangulations.{Problem, ValidProblem, long_edge, short_edge, count_between, count_outside}
use Rattle.triangulation.specs.Triangulations.{total_weight, preorder_from, preorder, is_boundary, edge_ok, is_triangulation}
use Rattle.triangulation.proofs.Sums.{Mem, count, sum_same, count_mono, mem_count, Any, any, none, some, One, one, the_one}
use Rattle.triangulation.proofs.Parts.{Part, edge, node, boundary, between_le, is_step, IsEdge, IsStep, is_edge_cases, is_step_cases}
use Rattle.triangulation.proofs.SetParts.{both_eq, Set, long_edge_is_lem, none_on_step, one_on_edge, share, part_total}

module _ (job : Problem) where
  pub short_edge_cases : (i j u : ℕ) → short_edge job i j u ≡ true → ((job.a u ≡ i) × (job.b u ≡ j)) ⊎ ((job.b u ≡ i) × (job.c u ≡ j))
  short_edge_cases i j u t = ⊎_elim (λ e. inl (both_eq (job.a u) i (job.b u) j e)) (λ e. inr (both_eq (job.b u) i (job.c u) j e)) (either_cases _ _ t)

  -- what the test of an edge says
  pub data Edge (i j x y : ℕ) : Type 0 where
    step : j ≡ i + 1 → x + y ≡ 1 → Edge i j x y
    top : i ≡ 0 → j ≡ job.n - 1 → x + y ≡ 1 → Edge i j x y
    unused : is_boundary job i j ≡ false → x ≡ 0 → y ≡ 0 → Edge i j x y
    two_sided : is_boundary job i j ≡ false → x ≡ 1 → y ≡ 1 → Edge i j x y

  edge_of : (i j x y : ℕ) → edge_ok job (is_boundary job i j) x y ≡ true → Edge i j x y
  edge_of i j x y t = go (is_boundary job i j) refl t
    where
      rim_case : x + y ≡ 1 → (eqb j (i + 1) ≡ true) ⊎ (both (eqb i 0) (eqb j (job.n - 1)) ≡ true) → Edge i j x y
      rim_case h (inl e) = step (eqb-true j (i + 1) e) h
      rim_case h (inr e) = let d = both_eq i 0 j (job.n - 1) e in top d.0 d.1 h

      else_case : is_boundary job i j ≡ false → (eqb (x + y) 0 ≡ true) ⊎ (both (eqb x 1) (eqb y 1) ≡ true) → Edge i j x y
      else_case r (inl e) = let z : x + y ≡ 0 = eqb-true (x + y) 0 e in unused r (omega arith) (omega arith)
      else_case r (inr e) = let d = both_eq x 1 y 1 e in two_sided r d.0 d.1

      go : (b : Bool) → is_boundary job i j ≡ b → edge_ok job b x y ≡ true → Edge i j x y
      go true r t = rim_case (eqb-true (x + y) 1 t) (either_cases _ _ r)
      go false r t = else_case r (either_cases _ _ t)

  rim_top : is_boundary job 0 (job.n - 1) ≡ true
  rim_top = either_right (eqb (job.n - 1) (0 + 1)) (eqb (job.n - 1) (job.n - 1)) (eq-eqb (job.n - 1) (job.n - 1) refl)

  module _ (good : ValidProblem job) (s : List ℕ) (valid : (k : ℕ) → Mem k s → k < job.size) (isTriangulated : is_triangulation job s ≡ true) where
    pub at : (i j : ℕ) → i < j → j < job.n → Edge i j (count_between job s i j) (count_outside job s i j)
    unfolding is_triangulation
    at i j h k = edge_of i j _ _ (every_at 0 j _ (every_at 0 job.n _ isTriangulated j (omega arith) k) i (omega arith) h)

    pub triangulation_set : Set job good s
    unfolding count_between
    triangulation_set = record { valid = valid; single = λ i j. go i j (any (long_edge job i j) s) }
      where
        ok : (i j : ℕ) → Edge i j (count_between job s i j) (count_outside job s i j) → count_between job s i j ≤ 1
        ok i j (step e h) = omega arith
        ok i j (top e f h) = omega arith
        ok i j (unused r x y) = omega arith
        ok i j (two_sided r x y) = omega arith

        go : (i j : ℕ) → Any (long_edge job i j) s → count_between job s i j ≤ 1
        go i j (none e) = omega arith
        go i j (some u m t) =
            let k = valid u m in
            let d = both_eq (job.a u) i (job.c u) j t in
            ok i j (at i j (omega (arith, good.ab u k, good.bc u k)) (omega (arith, good.cn u k)))

    -- what lies beneath a short edge of a triangle of the set
    record Short (i j : ℕ) : Type 0 where
      pub lt : i < j
      pub lim : j < job.n
      pub next : (j ≡ i + 1) ⊎ (count_between job s i j ≡ 1)

    short : (p i j : ℕ) → Mem p s → short_edge job i j p ≡ true → Short i j
    unfolding count_outside
    short p i j m t = go (short_edge_cases i j p t)
      where
        h : p < job.size
        h = valid p m

        next : 1 ≤ count_outside job s i j → (i ≡ 0 → j ≡ job.n - 1 → ⊥) → Edge i j (count_between job s i j) (count_outside job s i j) →
            (j ≡ i + 1) ⊎ (count_between job s i j ≡ 1)
        next c f (step e z) = inl e
        next c f (top e d z) = absurd (f e d)
        next c f (unused r x y) = absurd (omega arith)
        next c f (two_sided r x y) = inr x

        go : ((job.a p ≡ i) × (job.b p ≡ j)) ⊎ ((job.b p ≡ i) × (job.c p ≡ j)) → Short i j
        go (inl d) = let l : i < j = omega (arith, good.ab p h) in let n : j + 1 < job.n = omega (arith, good.bc p h, good.cn p h) in
            record { lt = l; lim = omega arith; next = next (mem_count (short_edge job i j) s p m t) (λ e f. omega arith) (at i j l (omega arith)) }
        go (inr d) =
            let l : i < j = omega (arith, good.bc p h) in
            let n : j < job.n = omega (arith, good.cn p h) in
            let z : 0 < i = omega (arith, good.ab p h) in
            record { lt = l; lim = omega arith; next = next (mem_count (short_edge job i j) s p m t) (λ e f. omega arith) (at i j l (omega arith)) }

    root : count_between job s 0 (job.n - 1) ≡ 1
    unfolding count_outside
    root = go (at 0 (job.n - 1) (omega (arith, good.n3)) (omega (arith, good.n3))) (any (short_edge job 0 (job.n - 1)) s)
      where
        go : Edge 0 (job.n - 1) (count_between job s 0 (job.n - 1)) (count_outside job s 0 (job.n - 1)) → Any (short_edge job 0 (job.n - 1)) s →
            count_between job s 0 (job.n - 1) ≡ 1
        go (step e z) a = absurd (omega (arith, good.n3))
        go (top e d z) (none c) = omega arith
        go (top e d z) (some u m t) =
            absurd (⊎_elim (λ d. omega (arith, good.bc u (valid u m), good.cn u (valid u m)))
            (λ d. omega (arith, good.ab u (valid u m))) (short_edge_cases 0 (job.n - 1) u t))
        go (unused r x y) a = absurd (false≢true (sym r ∙ rim_top))
        go (two_sided r x y) a = x

    -- the part from i to j
    pub record Built (i j : ℕ) (l : List ℕ) : Type 0 where
      pub cost : ℕ
      pub is : Part job i j l cost
      pub sub : (k : ℕ) → Mem k l → Mem k s

    build : (f i j : ℕ) → i < j → j ≤ f + i → (j ≡ i + 1) ⊎ (count_between job s i j ≡ 1) → Built i j (preorder_from job f s i j)
    unfolding preorder_from count_between
    build zero i j l b e = absurd (omega arith)
    build (suc f) i j l b (inl e) =
        rw (none_on_step job good s triangulation_set i j e) (record { cost = 0; is = edge e; sub = λ k m. absurd (Memᴰ.not-nil m) })
    build (suc f) i j l b (inr e) = go (λ i j. build f i j) (the_one (long_edge job i j) s e)
      where
        go : ((i j : ℕ) → i < j → j ≤ f + i → (j ≡ i + 1) ⊎ (count_between job s i j ≡ 1) → Built i j (preorder_from job f s i j)) → One (long_edge job i j) s
            → Built i j (joined (λ k. k ∷ (preorder_from job f s i (job.b k) ++ preorder_from job f s (job.b k) j)) (keep (long_edge job i j) s))
        go ih (one u m t q) =
            let h : u < job.size = valid u m in
            let d = both_eq (job.a u) i (job.c u) j t in
            let ab = good.ab u h in
            let bc = good.bc u h in
            let x = job.b u in
            let sl : Short i x =
            short u i x m (ap₂ (λ y z. either (both y z) (both (eqb x i) (eqb (job.c u) x))) (eq-eqb (job.a u) i d.0) (eq-eqb x x refl)) in
            let sr : Short x j =
            short u x j m (either_right (both (eqb (job.a u) x) (eqb x j)) _ (both_true (eq-eqb x x refl) (eq-eqb (job.c u) j d.1))) in
            let bl : Built i x (preorder_from job f s i x) = ih i x sl.lt (omega arith) sl.next in
            let br : Built x j (preorder_from job f s x j) = ih x j sr.lt (omega arith) sr.next in
            rw (q, append-nil (u ∷ (preorder_from job f s i x ++ preorder_from job f s x j)))
            (record {
              cost = _;
              is = node u h d.0 d.1 bl.is br.is;
              sub = λ k r. ⊎_elim (λ e. subst⁻ e m) (λ r. ⊎_elim (bl.sub k) (br.sub k) (Memᴰ.append_cases (preorder_from job f s i x) r))
                  (Memᴰ.cases_cons r);
            })
          where
            subst⁻ : {k u : ℕ} → k ≡ u → Mem u s → Mem k s
            subst⁻ e m = rw e m

    pub whole : Built 0 (job.n - 1) (preorder_from job job.n s 0 (job.n - 1))
    whole = build job.n 0 (job.n - 1) (omega (arith, good.n3)) (omega (arith, good.n3)) (inr root)

    -- two triangles of the set under one edge are the same
    same : (i j u v : ℕ) → Mem u s → long_edge job i j u ≡ true → Mem v s → long_edge job i j v ≡ true → u ≡ v
    same i j u v mu tu mv tv =
        let du = both_eq (job.a u) i (job.c u) j tu in
        let dv = both_eq (job.a v) i (job.c v) j tv in
        head-eq_of_cons-eq (sym (one_on_edge job good s triangulation_set i j u mu du.0 du.1)
        ∙ one_on_edge job good s triangulation_set i j v mv dv.0 dv.1)

    -- a triangle of the set is the first one, or one of larger span has its long edge
    above : (k : ℕ) → Mem k s → ((job.a k ≡ 0) × (job.c k ≡ job.n - 1)) ⊎ (1 ≤ count_outside job s (job.a k) (job.c k))
    unfolding count_between
    above k m = go (at (job.a k) (job.c k) (omega (arith, good.ab k h, good.bc k h)) (good.cn k h))
      where
        h : k < job.size
        h = valid k m

        i : 1 ≤ count_between job s (job.a k) (job.c k)
        i = mem_count (long_edge job (job.a k) (job.c k)) s k m (long_edge_is_lem job good s _ _ k refl refl)

        go : Edge (job.a k) (job.c k) (count_between job s (job.a k) (job.c k)) (count_outside job s (job.a k) (job.c k)) →
            ((job.a k ≡ 0) × (job.c k ≡ job.n - 1)) ⊎ (1 ≤ count_outside job s (job.a k) (job.c k))
        go (step e z) = absurd (omega (arith, good.ab k h, good.bc k h))
        go (top e f z) = inl (e, f)
        go (unused r x y) = absurd (omega (arith, i))
        go (two_sided r x y) = inr (omega arith)

    module _ (l : List ℕ) (x : ℕ) (w : Part job 0 (job.n - 1) l x) (sub : (k : ℕ) → Mem k l → Mem k s) where
      -- a triangle of the set whose long edge has a triangle of the list under it is in the list
      met : (k : ℕ) → Mem k s → 1 ≤ count_between job l (job.a k) (job.c k) → Mem k l
      unfolding count_between
      met k m h = go (any (long_edge job (job.a k) (job.c k)) l)
        where
          go : Any (long_edge job (job.a k) (job.c k)) l → Mem k l
          go (none e) = absurd (omega arith)
          go (some v mv t) = rw (same (job.a k) (job.c k) k v m (long_edge_is_lem job good s _ _ k refl refl) (sub v mv) t) mv

      all : (f k : ℕ) → Mem k s → job.n ≤ f + (job.c k - job.a k) → Mem k l
      unfolding count_outside
      all zero k m h = absurd (omega (arith, good.cn k (valid k m)))
      all (suc f) k m h = go (λ p. all f p) (above k m)
        where
          v : k < job.size
          v = valid k m

          rim_none : IsStep 0 (job.n - 1) (job.a k) (job.c k) → is_step 0 (job.n - 1) (job.a k) (job.c k) ≡ 0
          rim_none (IsStep.hit e f) = absurd (omega (arith, good.ab k v, good.bc k v))
          rim_none (IsStep.miss e f) = f

          first : (job.a k ≡ 0) × (job.c k ≡ job.n - 1) → IsEdge 0 (job.n - 1) (job.a k) (job.c k) → 1 ≤ count_between job l (job.a k) (job.c k)
          first d (IsEdge.hit e f t) = omega (arith, boundary job good w (job.a k) (job.c k), rim_none (is_step_cases _ _ _ _))
          first d (IsEdge.miss₁ e t) = absurd (omega arith)
          first d (IsEdge.miss₂ e t) = absurd (omega arith)

          larger : (p : ℕ) → Mem p s → short_edge job (job.a k) (job.c k) p ≡ true → job.n ≤ f + (job.c p - job.a p)
          larger p mp t = ⊎_elim (λ d. omega (arith, good.ab p (valid p mp), good.bc p (valid p mp), good.ab k v, good.bc k v))
              (λ d. omega (arith, good.ab p (valid p mp), good.bc p (valid p mp), good.ab k v, good.bc k v)) (short_edge_cases (job.a k) (job.c k) p t)

          later : ((p : ℕ) → Mem p s → job.n ≤ f + (job.c p - job.a p) → Mem p l) → 1 ≤ count_outside job s (job.a k) (job.c k) →
              Any (short_edge job (job.a k) (job.c k)) s → 1 ≤ count_between job l (job.a k) (job.c k)
          later ih o (none e) = absurd (omega arith)
          later ih o (some p mp t) =
              let c : 1 ≤ count_outside job l (job.a k) (job.c k) = mem_count (short_edge job (job.a k) (job.c k)) l p (ih p mp (larger p mp t)) t in
              omega (arith, boundary job good w (job.a k) (job.c k), rim_none (is_step_cases _ _ _ _))

          go : ((p : ℕ) → Mem p s → job.n ≤ f + (job.c p - job.a p) → Mem p l) →
              ((job.a k ≡ 0) × (job.c k ≡ job.n - 1)) ⊎ (1 ≤ count_outside job s (job.a k) (job.c k)) → Mem k l
          go ih (inl d) = met k m (first d (is_edge_cases _ _ _ _))
          go ih (inr o) = met k m (later ih o (any (short_edge job (job.a k) (job.c k)) s))

    -- its preorder has the same triangles
    pub preorder_mem : (k : ℕ) → Mem k (preorder job s) → Mem k s
    preorder_mem = whole.sub

    pub mem_preorder : (k : ℕ) → Mem k s → Mem k (preorder job s)
    mem_preorder k m = all (preorder job s) whole.cost whole.is whole.sub job.n k m (omega arith)

    -- each of them once
    pub preorder_once : (k : ℕ) → Mem k s → count (λ x. eqb k x) (preorder job s) ≡ 1
    unfolding count_between
    preorder_once k m =
        le_antisymm
        (omega (
          arith,
          between_le job good whole.is (job.a k) (job.c k),
          count_mono (λ x. eqb k x) (long_edge job (job.a k) (job.c k))
              (λ x e. long_edge_is_lem job good s _ _ x (sym (ap job.a (eqb-true k x e))) (sym (ap job.c (eqb-true k x e)))) (preorder job s),
        ))
        (mem_count (λ x. eqb k x) (preorder job s) k (mem_preorder k m) (eq-eqb k k refl))

    pub preorder_sum : (f : ℕ → ℕ) → sum f s ≡ sum f (preorder job s)
    unfolding count_between
    preorder_sum f = sum_same f s (preorder job s) preorder_once once_s
      where
        once_s : (x : ℕ) → Mem x (preorder job s) → count (λ k. eqb k x) s ≡ 1
        once_s x m =
            le_antisymm
            (omega (
              arith,
              triangulation_set.single (job.a x) (job.c x),
              count_mono (λ k. eqb k x) (long_edge job (job.a x) (job.c x))
                  (λ k e. long_edge_is_lem job good s _ _ k (ap job.a (eqb-true k x e)) (ap job.c (eqb-true k x e))) s,
            ))
            (mem_count (λ k. eqb k x) s x (whole.sub x m) (eq-eqb x x refl))

    -- a triangulation's preorder lists a part, whose total is the triangulation's
    pub set_part : Part job 0 (job.n - 1) (preorder job s) (total_weight job s)
    unfolding total_weight
    set_part = rw (← part_total job good s triangulation_set whole.is whole.sub ∙ sym (preorder_sum (share job good s triangulation_set))) whole.is
