-- The best candidate on an edge, the first of equal ones, starts the least key beneath the edge. Assumes nothing.
use Prim.Native.Nat.{ℕ, zero, suc, ◌+◌, ◌≤◌, ◌<◌}
use mathlib.Core.Path.{◌≡◌, refl, sym, ap, ap₂, ◌∙◌}
use mathlib.Core.Bool.{Bool, true, false, cond, false≢true}
use mathlib.Core.Logic.{◌⊎◌, inl, inr, ⊎_elim, ◌≢◌}
use mathlib.Core.List.Memᴰ
use mathlib.Core.List.{List, [], ◌∷◌, map, Memᴰ, cons≢nil, head-eq_of_cons-eq}
use native.Mathlib.Omega.{arith}
use native.Mathlib.Nat.{eq-or-lt_of_le}
use lib.ListN.{get_or}
use lib.Dec.{eqb, ltb}
use borrow.Author.Tests.{eqb-true, eqb-false, ltb-true, ltb-false, lt-leb}
use Rattle.lists.specs.Lists.{both}
use Rattle.terms.specs.Limits.{max_weight}
use Rattle.lists.specs.Sums.{keep, numbers_from}
use Rattle.triangulation.specs.Triangulations.{Problem, ValidProblem, least, no_later, long_edge}
use Rattle.triangulation.specs.Problems.{Bounded, problem_from}
use Rattle.triangulation.specs.Recursion.{add_row, join, best_under, best_from, cost_of, no_total, max_total}
use Rattle.triangulation.proofs.SetParts.{both_eq}
use Rattle.triangulation.proofs.Sums.{Mem, mem_keep, keep_mem}
use Rattle.triangulation.proofs.PartsToSets.{mem_up_from, up_from_mem}
use Rattle.triangulation.proofs.Least.{Image, image, map_mem}
use Rattle.triangulation.proofs.Order.{least_is, least_mem, no_later_less, no_later_same, no_later_refl}
use Rattle.triangulation.proofs.Recursion.{edge_least, edge_step}
use Rattle.triangulation.proofs.Bounds.{Shape, nil, cons, root_shape, edge_light}
use Rattle.minimum_weight.specs.declared.choice.Pick.{Pick}
use Rattle.minimum_weight.specs.Tables.{better_of, pick_below, pick_under, pick_at_edge, WellFormed, Found, ReadyAt, Cost, join_cost}
use Rattle.lists.proofs.Choice.{yes, no}

module _ (on : ℕ → Bool) (rk : ℕ → List ℕ) (r : ℕ → ℕ) where
  -- what holds of the pick from the first k candidates
  pub data Picked (k : ℕ) (p : Pick) : Type 0 where
    none : p.cost ≡ no_total → ((u : ℕ) → u < k → on u ≡ true → rk u ≡ []) → Picked k p
    some : (x : ℕ) (l : List ℕ) → p.at < k → on p.at ≡ true → rk p.at ≡ x ∷ p.at ∷ l → p.cost ≡ x + r p.at → p.cost < no_total
        → ((u : ℕ) → u < k → on u ≡ true → (y : ℕ) (m : List ℕ) → rk u ≡ y ∷ u ∷ m → (p.cost < y + r u) ⊎ ((p.cost ≡ y + r u) × (p.at ≤ u))) → Picked k p

  module _ (d : ℕ → ℕ) (light : (u : ℕ) → r u ≤ max_weight) where
    below_suc : (P : ℕ → Type 0) (k : ℕ) → ((u : ℕ) → u < k → P u) → P k → (u : ℕ) → u < suc k → P u
    below_suc P k h z u l = go (eqb u k) refl
      where
        go : (b : Bool) → eqb u k ≡ b → P u
        go true e = rw (eqb-true u k e) z
        go false e = h u (let q : u ≢ k = eqb-false u k e in omega arith)

    skip : (k : ℕ) (p : Pick) → Picked k p → (on k ≡ true → rk k ≡ []) → Picked (suc k) p
    skip k p (none e h) z = none e (below_suc (λ u. on u ≡ true → rk u ≡ []) k h z)
    skip k p (some x l a o e c b h) z = some x l (omega arith) o e c b
        (below_suc (λ u. on u ≡ true → (y : ℕ) (m : List ℕ) → rk u ≡ y ∷ u ∷ m → (p.cost < y + r u) ⊎ ((p.cost ≡ y + r u) × (p.at ≤ u))) k h
        (λ t y m q. absurd (cons≢nil (sym q ∙ z t))))

    take_it : (k : ℕ) (p : Pick) (x : ℕ) (l : List ℕ) → Picked k p → on k ≡ true → rk k ≡ x ∷ k ∷ l → x + r k < no_total → x + r k < p.cost →
        Picked (suc k) (record { cost = x + r k; at = k })
    take_it k p x l q o e b c = some x l (omega arith) o e refl b
        (below_suc (λ u. on u ≡ true → (y : ℕ) (m : List ℕ) → rk u ≡ y ∷ u ∷ m → (x + r k < y + r u) ⊎ ((x + r k ≡ y + r u) × (k ≤ u))) k (old q)
        (λ t y m z. inr (ap (λ v. v + r k) (head-eq_of_cons-eq (sym e ∙ z)), omega arith)))
      where
        old : Picked k p → (u : ℕ) → u < k → on u ≡ true → (y : ℕ) (m : List ℕ) → rk u ≡ y ∷ u ∷ m → (x + r k < y + r u) ⊎ ((x + r k ≡ y + r u) × (k ≤ u))
        old (none e h) u l t y m z = absurd (cons≢nil (sym z ∙ h u l t))
        old (some _ _ a o e c' b h) u l t y m z = inl (⊎_elim (λ g. omega arith) (λ g. omega arith) (h u l t y m z))

    leave : (k : ℕ) (p : Pick) (x : ℕ) (l : List ℕ) → Picked k p → on k ≡ true → rk k ≡ x ∷ k ∷ l → x + r k < no_total → p.cost ≤ x + r k → Picked (suc k) p
    leave k p x l (none e h) o q b c = absurd (omega arith)
    leave k p x l (some x' l' a o' e c' b' h) o q b c = some x' l' (omega arith) o' e c' b'
        (below_suc (λ u. on u ≡ true → (y : ℕ) (m : List ℕ) → rk u ≡ y ∷ u ∷ m → (p.cost < y + r u) ⊎ ((p.cost ≡ y + r u) × (p.at ≤ u))) k h
        (λ t y m z. let g : x ≡ y = head-eq_of_cons-eq (sym q ∙ z) in
        ⊎_elim (λ v. inr (omega arith, omega arith)) (λ v. inl (omega arith)) (eq-or-lt_of_le c)))

    step : (k : ℕ) (p : Pick) → Picked k p → (on k ≡ true → Shape k (rk k)) → (on k ≡ true → d k ≡ cost_of (rk k)) →
        Picked (suc k) (better_of p k (on k) (d k) (r k))
    unfolding better_of
    step k p q sh dk = go (on k) refl
      where
        test : (x y : Bool) → on k ≡ true → Shape k (rk k) → d k ≡ cost_of (rk k) → ltb (d k) no_total ≡ x → ltb (d k + r k) p.cost ≡ y
            → Picked (suc k) (cond (both x y) (record { cost = d k + r k; at = k }) p)
        test true y o (nil z) e f g = absurd (omega (arith, ltb-true (d k) no_total f, ap cost_of z))
        test false y o (nil z) e f g = skip k p q (λ t. z)
        test false y o (cons x l z b) e f g = absurd (omega (arith, ltb-false (d k) no_total f, ap cost_of z))
        test true true o (cons x l z b) e f g =
            rw (e ∙ ap cost_of z) (take_it k p x l q o z (omega (arith, light k)) (omega (arith, ltb-true (d k + r k) p.cost g, ap cost_of z)))
        test true false o (cons x l z b) e f g = leave k p x l q o z (omega (arith, light k)) (omega (arith, ltb-false (d k + r k) p.cost g, ap cost_of z))

        go : (b : Bool) → on k ≡ b → Picked (suc k) (better_of p k b (d k) (r k))
        go false e = skip k p q (λ t. absurd (false≢true (sym e ∙ t)))
        go true e = test (ltb (d k) no_total) (ltb (d k + r k) p.cost) e (sh e) (dk e) refl refl

    pub picked : (k : ℕ) → ((u : ℕ) → u < k → on u ≡ true → Shape u (rk u)) → ((u : ℕ) → u < k → on u ≡ true → d u ≡ cost_of (rk u)) →
        Picked k (pick_below on d r k)
    picked zero sh dk = none refl (λ u l. absurd (omega arith))
    picked (suc k) sh dk =
        step k (pick_below on d r k) (picked k (λ u l. sh u (omega arith)) (λ u l. dk u (omega arith))) (sh k (omega arith)) (dk k (omega arith))

least_nil : (ks : List (List ℕ)) → ((y : List ℕ) → Memᴰ y ks → y ≡ []) → least ks ≡ []
least_nil [] h = refl
least_nil (x ∷ xs) h = h _ (least_mem x xs)

-- for an edge of a job
module _ (job : Problem) (good : ValidProblem job) (bound : Bounded job) (t i j : ℕ) (far : j ≢ i + 1) where
  key_of : ℕ → List ℕ
  key_of u = add_row (job.row t u) (best_from job job.n u)

  these : List ℕ
  these = keep (long_edge job i j) (numbers_from 0 job.size)

  these_in : (u : ℕ) → Mem u these → (u < job.size) × (long_edge job i j u ≡ true)
  unfolding these
  these_in u m = let d = keep_mem (long_edge job i j) u (numbers_from 0 job.size) m in (omega (arith, up_from_mem 0 job.size u d.0), d.1)

  low : (p : Pick) (x : ℕ) (l : List ℕ) → key_of p.at ≡ (x + job.row t p.at) ∷ p.at ∷ l → p.cost ≡ x + job.row t p.at
      → (u : ℕ) → Shape u (best_from job job.n u)
      → ((y : ℕ) (m : List ℕ) → best_from job job.n u ≡ y ∷ u ∷ m → (p.cost < y + job.row t u) ⊎ ((p.cost ≡ y + job.row t u) × (p.at ≤ u)))
      → no_later (key_of p.at) (key_of u) ≡ true
  unfolding key_of
  low p x l e c u (nil z) h = rw (ap (add_row (job.row t u)) z)
  low p x l e c u (cons y m z b) h = ⊎_elim
      (λ (g : p.cost < y + job.row t u). rw (e, k) (no_later_less (x + job.row t p.at) (y + job.row t u) (p.at ∷ l) (u ∷ m) (omega arith)))
      (λ (g : (p.cost ≡ y + job.row t u) × (p.at ≤ u)). ⊎_elim (λ q. rw q (no_later_refl (key_of u)))
      (λ q. rw (e, k) (no_later_same (x + job.row t p.at) (y + job.row t u) (p.at ∷ l) (u ∷ m) (omega arith) (no_later_less p.at u l m q)))
      (eq-or-lt_of_le g.1))
      (h y m z)
    where
      k : key_of u ≡ (y + job.row t u) ∷ u ∷ m
      k = ap (add_row (job.row t u)) z

  pub found : (p : Pick) → Picked (long_edge job i j) (best_from job job.n) (job.row t) job.size p → Found job t i j p
  unfolding key_of these
  found p (none e h) =
      let z : best_under job job.n t i j ≡ [] = edge_least job good t i j far ∙ least_nil (map key_of these) (λ y m. go y (map_mem key_of y these m)) in
      record { cost = e ∙ sym (ap cost_of z); at = λ f b. absurd (omega arith) }
    where
      go : (y : List ℕ) → Image key_of y these → y ≡ []
      go y (image u m q) = let d = these_in u m in q ∙ ap (add_row (job.row t u)) (h u d.0 d.1)
  found p (some x l a o e c b h) =
      let z : best_under job job.n t i j ≡ key_of p.at = edge_least job good t i j far ∙ least_is (map key_of these) (key_of p.at)
      (Memᴰ.map key_of
      (mem_keep (long_edge job i j) p.at (numbers_from 0 job.size) (mem_up_from 0 job.size p.at (omega arith) (omega arith)) o))
      (λ y m. go y (map_mem key_of y these m)) in
      let d = both_eq (job.a p.at) i (job.c p.at) j o in
      record { cost = c ∙ sym (ap cost_of (z ∙ ap (add_row (job.row t p.at)) e)); at = λ f b. (a, d.0, d.1, z) }
    where
      go : (y : List ℕ) → Image key_of y these → no_later (key_of p.at) y ≡ true
      go y (image u m q) = let d = these_in u m in
          rw q (low p x l (ap (add_row (job.row t p.at)) e) c u (root_shape job good bound u d.0) (h u d.0 d.1))

  pub found_below : (d : ℕ → ℕ) → ((u : ℕ) → u < job.size → long_edge job i j u ≡ true → d u ≡ cost_of (best_from job job.n u))
      → Found job t i j (pick_below (long_edge job i j) d (job.row t) job.size)
  found_below d h =
      found _
      (picked (long_edge job i j) (best_from job job.n) (job.row t) d (bound.row_light t) job.size (λ u l o. root_shape job good bound u l) h)

module _ (n : ℕ) (candidates : List (List ℕ)) (weights : List ℕ) (rows : List (List ℕ)) (ok : WellFormed n candidates weights rows) where
  abbrev job_here : Problem
  job_here = problem_from n candidates weights rows

  -- the best candidate on an edge that is no rim edge (i, i + 1) starts what the recursion has beneath it
  pub found_far : (work : List ℕ) (t i j : ℕ) → ReadyAt job_here work i j → j ≢ i + 1 → (p : Pick) →
      p ≡ pick_under candidates work rows t i j → Found job_here t i j p
  unfolding pick_under
  found_far work t i j h far p e = rw e (found_below job_here ok.valid ok.bounded t i j far (λ k. get_or work k 0)
      (λ u l o. let d = both_eq (job_here.a u) i (job_here.c u) j o in h u l d.0 d.1))

  -- the pick at any edge is what the recursion has beneath it
  pub found_edge : (work : List ℕ) (t i j : ℕ) → ReadyAt job_here work i j → (p : Pick) → p ≡ pick_at_edge candidates work rows t i j → Found job_here t i j p
  found_edge work t i j h p e = go (eqb j (i + 1)) refl
    where
      go : (b : Bool) → eqb j (i + 1) ≡ b → Found job_here t i j p
      go true q = let d : j ≡ i + 1 = eqb-true j (i + 1) q in
          rw (e ∙ yes _ _ q) (record { cost = sym (ap cost_of (edge_step job_here ok.valid t i j d)); at = λ f. absurd (f d) })
      go false q = found_far work t i j h (eqb-false j (i + 1) q) p (e ∙ no _ _ q)

-- the total of a triangle over its parts
Light : List ℕ → Type 0
Light k = (k ≡ []) ⊎ (cost_of k ≤ max_total)

light_cost : (k : List ℕ) (x : ℕ) → x ≡ cost_of k → Light k → Cost x
unfolding Light
light_cost k x e (inl z) = inl (e ∙ ap cost_of z)
light_cost k x e (inr z) = inr (omega arith)

light_cons : (x : ℕ) (l : List ℕ) → Light (x ∷ l) → x < no_total
unfolding Light
light_cons x l (inl z) = absurd (cons≢nil z)
light_cons x l (inr z) = omega arith

join_is : (w u : ℕ) (k k' : List ℕ) → Light k → Light k' → join_cost w (cost_of k) (cost_of k') ≡ cost_of (join w u k k')
join_is w u [] k' p q = refl
join_is w u (x ∷ l) [] p q = rw (lt-leb no_total x (light_cons x l p))
join_is w u (x ∷ l) (y ∷ r) p q = rw (lt-leb no_total x (light_cons x l p), lt-leb no_total y (light_cons y r q))

module _ (job : Problem) (good : ValidProblem job) (bound : Bounded job) where
  edge_Light : (t i j : ℕ) → i < j → j < job.n → Light (best_under job job.n t i j)
  unfolding Light
  edge_Light = edge_light job good bound

  -- what is found is a total
  pub found_cost : (t i j : ℕ) (p : Pick) → i < j → j < job.n → Found job t i j p → Cost p.cost
  found_cost t i j p h k f = light_cost _ p.cost f.cost (edge_Light t i j h k)

  pub root_cost : (u x y z : ℕ) → u < job.size → x ≡ cost_of (best_under job job.n u (job.a u) (job.b u))
      → y ≡ cost_of (best_under job job.n u (job.b u) (job.c u))
      → z ≡ join_cost (job.weight u) x y → z ≡ cost_of (best_from job job.n u)
  unfolding best_from best_under
  root_cost u x y z h p q e = e ∙ ap₂ (join_cost (job.weight u)) p q
      ∙ join_is (job.weight u) u _ _ (edge_Light u (job.a u) (job.b u) (good.ab u h) (omega (arith, good.bc u h, good.cn u h)))
      (edge_Light u (job.b u) (job.c u) (good.bc u h) (good.cn u h))
