-- The recursion that the dynamic programme computes gives the least part, and so the answer. Assumes nothing.
use Prim.Native.Nat.{ℕ, zero, suc, ◌+◌, ◌-◌, ◌≤◌, ◌<◌}
use mathlib.Core.Path.{◌≡◌, refl, sym, ap, ap₂, ◌∙◌}
use mathlib.Core.Bool.{Bool, true, false, cond, false≢true}
use mathlib.Core.Logic.{◌≢◌}
use mathlib.Core.List.Memᴰ
use mathlib.Core.List.{List, [], ◌∷◌, ◌++◌, map, Memᴰ, cons≢nil}
use native.Mathlib.Omega.{arith}
use lib.ListN.{length}
use lib.Dec.{eqb}
use borrow.Author.Tests.{eqb-true, eqb-false, eq-eqb, ne_eqb}
use Rattle.lists.specs.Sums.{keep, numbers_from}
use Rattle.triangulation.specs.Triangulations.{Problem, ValidProblem, no_later, least, long_edge, best_key}
use Rattle.triangulation.specs.Recursion.{add_row, join, best_under, best_from}
use Rattle.triangulation.proofs.Sums.{Mem, mem_keep, keep_mem}
use Rattle.triangulation.proofs.Parts.{Part, edge, node, hinge_weight, part_length}
use Rattle.triangulation.proofs.SetParts.{both_eq, long_edge_is_lem}
use Rattle.triangulation.proofs.PartsToSets.{mem_up_from, up_from_mem}
use Rattle.triangulation.proofs.Order.{NoLater, less, same, no_later_cases, no_later_less, no_later_same}
use Rattle.triangulation.proofs.Order.{no_later_append, no_later_trans, no_later_antisym, least_le, least_mem}
use Rattle.triangulation.proofs.Least.{Image, image, map_mem, best_is, best_none}

join_no_later : (w u x x' y y' : ℕ) (l l' r r' : List ℕ) → length l ≡ length l' → no_later (x ∷ l) (x' ∷ l') ≡ true → no_later (y ∷ r) (y' ∷ r') ≡ true
    → no_later ((w + x + y) ∷ u ∷ (l ++ r)) ((w + x' + y') ∷ u ∷ (l' ++ r')) ≡ true
join_no_later w u x x' y y' l l' r r' e p q = go (no_later_cases x x' l l' p) (no_later_cases y y' r r' q)
  where
    go : NoLater x x' l l' → NoLater y y' r r' → no_later ((w + x + y) ∷ u ∷ (l ++ r)) ((w + x' + y') ∷ u ∷ (l' ++ r')) ≡ true
    go (less a) (less b) = no_later_less (w + x + y) (w + x' + y') (u ∷ (l ++ r)) (u ∷ (l' ++ r')) (omega arith)
    go (less a) (same b h) = no_later_less (w + x + y) (w + x' + y') (u ∷ (l ++ r)) (u ∷ (l' ++ r')) (omega arith)
    go (same a h) (less b) = no_later_less (w + x + y) (w + x' + y') (u ∷ (l ++ r)) (u ∷ (l' ++ r')) (omega arith)
    go (same a h) (same b k) = no_later_same (w + x + y) (w + x' + y') (u ∷ (l ++ r)) (u ∷ (l' ++ r')) (omega arith)
        (no_later_same u u (l ++ r) (l' ++ r') refl (no_later_append l l' r r' e h k))

row_no_later : (w x y : ℕ) (l r : List ℕ) → no_later (x ∷ l) (y ∷ r) ≡ true → no_later ((x + w) ∷ l) ((y + w) ∷ r) ≡ true
row_no_later w x y l r p = go (no_later_cases x y l r p)
  where
    go : NoLater x y l r → no_later ((x + w) ∷ l) ((y + w) ∷ r) ≡ true
    go (less a) = no_later_less (x + w) (y + w) l r (omega arith)
    go (same a h) = no_later_same (x + w) (y + w) l r (omega arith) h

module _ (job : Problem) where
  -- k is the key of the least part from i to j under t, or [] where there is none
  pub data Best (t i j : ℕ) (k : List ℕ) : Type 0 where
    none : k ≡ [] → ((l : List ℕ) (x : ℕ) → Part job i j l x → ⊥) → Best t i j k
    some : (l : List ℕ) (x : ℕ) → k ≡ (x + hinge_weight job t l) ∷ l → Part job i j l x
        → ((r : List ℕ) (y : ℕ) → Part job i j r y → no_later ((x + hinge_weight job t l) ∷ l) ((y + hinge_weight job t r) ∷ r) ≡ true) → Best t i j k

  -- the same of the parts that start with u: of a part from a to b and one from b to c
  pub data Root (u : ℕ) (k : List ℕ) : Type 0 where
    none : k ≡ [] → ((l r : List ℕ) (x y : ℕ) → Part job (job.a u) (job.b u) l x → Part job (job.b u) (job.c u) r y → ⊥) → Root u k
    some : (l r : List ℕ) (x y : ℕ) → k ≡ (job.weight u + (x + hinge_weight job u l) + (y + hinge_weight job u r)) ∷ u ∷ (l ++ r)
        → Part job (job.a u) (job.b u) l x → Part job (job.b u) (job.c u) r y
        → ((l' r' : List ℕ) (x' y' : ℕ) → Part job (job.a u) (job.b u) l' x' → Part job (job.b u) (job.c u) r' y'
        → no_later ((job.weight u + (x + hinge_weight job u l) + (y + hinge_weight job u r)) ∷ u ∷ (l ++ r))
        ((job.weight u + (x' + hinge_weight job u l') + (y' + hinge_weight job u r')) ∷ u ∷ (l' ++ r')) ≡ true)
        → Root u k

  root_best : (u : ℕ) (k k' : List ℕ) → Best u (job.a u) (job.b u) k → Best u (job.b u) (job.c u) k' → Root u (join (job.weight u) u k k')
  root_best u k k' (none e h) b = none (ap (λ z. join (job.weight u) u z k') e) (λ l r x y wl wr. h l x wl)
  root_best u k k' (some l x e w h) (none e' h') = none (ap₂ (join (job.weight u) u) e e') (λ l r x y wl wr. h' r y wr)
  root_best u k k' (some l x e w h) (some r y e' w' h') = some l r x y (ap₂ (join (job.weight u) u) e e') w w'
      (λ l' r' x' y' v v'. join_no_later (job.weight u) u (x + hinge_weight job u l) (x' + hinge_weight job u l') (y + hinge_weight job u r)
      (y' + hinge_weight job u r') l l' r r' (omega (arith, part_length job w, part_length job v)) (h l' x' v) (h' r' y' v'))

  module _ (good : ValidProblem job) (t i j : ℕ) where
    rim_low : {i j y : ℕ} {r : List ℕ} → Part job i j r y → j ≡ i + 1 → no_later (0 ∷ []) ((y + hinge_weight job t r) ∷ r) ≡ true
    rim_low (edge e) h = refl
    rim_low (node u k ei ej wl wr) h = absurd (omega (arith, good.ab u k, good.bc u k))

    module _ (far : j ≢ i + 1) (rk : ℕ → List ℕ) (roots : (u : ℕ) → u < job.size → job.a u ≡ i → job.c u ≡ j → Root u (rk u)) where
      key_of : ℕ → List ℕ
      key_of u = add_row (job.row t u) (rk u)

      these : List ℕ
      these = keep (long_edge job i j) (numbers_from 0 job.size)

      keys : List (List ℕ)
      unfolding key_of these
      keys = map key_of these

      in_keys : (u : ℕ) → u < job.size → job.a u ≡ i → job.c u ≡ j → Memᴰ (key_of u) keys
      unfolding key_of these keys
      in_keys u h ei ej =
          Memᴰ.map key_of (mem_keep (long_edge job i j) u (numbers_from 0 job.size) (mem_up_from 0 job.size u (omega arith) (omega arith))
          (long_edge_is_lem job good [] i j u ei ej))

      -- every part has a key no later than its own
      low : (r : List ℕ) (y : ℕ) → Part job i j r y → no_later (least keys) ((y + hinge_weight job t r) ∷ r) ≡ true
      unfolding key_of
      low r y w = go w refl refl
        where
          via : (u : ℕ) (l r : List ℕ) (x y : ℕ) → Part job (job.a u) (job.b u) l x → Part job (job.b u) (job.c u) r y → Root u (rk u)
              → no_later (key_of u) ((job.weight u + (x + hinge_weight job u l) + (y + hinge_weight job u r) + job.row t u) ∷ u ∷ (l ++ r)) ≡ true
          via u l r x y wl wr (none e h) = absurd (h l r x y wl wr)
          via u l r x y wl wr (some l' r' x' y' e wl' wr' h) =
              rw (ap (add_row (job.row t u)) e)
              (row_no_later (job.row t u) (job.weight u + (x' + hinge_weight job u l') + (y' + hinge_weight job u r'))
              (job.weight u + (x + hinge_weight job u l) + (y + hinge_weight job u r)) (u ∷ (l' ++ r')) (u ∷ (l ++ r)) (h l r x y wl wr))

          go : {i' j' : ℕ} {r : List ℕ} {y : ℕ} → Part job i' j' r y → i' ≡ i → j' ≡ j → no_later (least keys) ((y + hinge_weight job t r) ∷ r) ≡ true
          go (edge e) a b = absurd (far (sym b ∙ e ∙ ap (λ z. z + 1) a))
          go (node {l = l} {r = r} {x = x} {y = y} u h ei ej wl wr) a b =
              no_later_trans (least keys) (key_of u)
              ((job.weight u + (x + hinge_weight job u l) + (y + hinge_weight job u r) + job.row t u) ∷ u ∷ (l ++ r))
              (least_le keys (key_of u) (in_keys u h (ei ∙ a) (ej ∙ b)))
              (via u l r x y (rw (← ei) at wl) (rw (← ej) at wr) (roots u h (ei ∙ a) (ej ∙ b)))

      some_best : Best t i j (least keys)
      unfolding key_of these keys
      some_best = go (least keys) refl
        where
          at : (k : ℕ) (ks : List ℕ) → least keys ≡ k ∷ ks → (u : ℕ) → Mem u these → k ∷ ks ≡ key_of u → Root u (rk u) → Best t i j (least keys)
          at k ks e u m q (none z h) = absurd (cons≢nil (q ∙ ap (add_row (job.row t u)) z))
          at k ks e u m q (some l r x y z wl wr h) =
              let d = keep_mem (long_edge job i j) u (numbers_from 0 job.size) m in
              let v = both_eq (job.a u) i (job.c u) j d.1 in
              let eq : least keys ≡ (job.weight u + (x + hinge_weight job u l) + (y + hinge_weight job u r) + job.row t u) ∷ u ∷ (l ++ r) = e
              ∙ q ∙ ap (add_row (job.row t u)) z in
              some (u ∷ (l ++ r)) (job.weight u + (x + hinge_weight job u l) + (y + hinge_weight job u r)) eq
              (node u (omega (arith, up_from_mem 0 job.size u d.0)) v.0 v.1 (rw v.0 at wl) (rw v.1 at wr))
              (λ r' y' w'. rw eq at (low r' y' w'))

          pick : (k : ℕ) (ks : List ℕ) → least keys ≡ k ∷ ks → Image key_of (k ∷ ks) these → Best t i j (least keys)
          pick k ks e (image u m q) =
              let d = keep_mem (long_edge job i j) u (numbers_from 0 job.size) m in
              let v = both_eq (job.a u) i (job.c u) j d.1 in
              at k ks e u m q (roots u (omega (arith, up_from_mem 0 job.size u d.0)) v.0 v.1)

          member : (ks : List (List ℕ)) (k : ℕ) (l : List ℕ) → least ks ≡ k ∷ l → Memᴰ (k ∷ l) ks
          member [] k l e = absurd (cons≢nil (sym e))
          member (x ∷ xs) k l e = rw e at (least_mem x xs)

          go : (k : List ℕ) → least keys ≡ k → Best t i j (least keys)
          go [] e = none e (λ l x w. false≢true (rw e at (low l x w)))
          go (k ∷ ks) e = pick k ks e (map_mem key_of (k ∷ ks) these (member keys k ks e))

  pub edge_best : ValidProblem job → (f t i j : ℕ) → i < j → j ≤ f + i → Best t i j (best_under job f t i j)
  unfolding best_under
  edge_best good zero t i j h b = absurd (omega arith)
  edge_best good (suc f) t i j h b = go (eqb j (i + 1)) refl (λ t i j. edge_best good f t i j)
    where
      go : (z : Bool) → eqb j (i + 1) ≡ z → ((t i j : ℕ) → i < j → j ≤ f + i → Best t i j (best_under job f t i j))
          → Best t i j (cond z (0 ∷ [])
          (least (map (λ u. add_row (job.row t u) (join (job.weight u) u (best_under job f u (job.a u) (job.b u))
          (best_under job f u (job.b u) (job.c u)))) (keep (long_edge job i j) (numbers_from 0 job.size)))))
      go true e ih = some [] 0 refl (edge (eqb-true j (i + 1) e)) (λ r y w. rim_low good t i j w (eqb-true j (i + 1) e))
      go false e ih = unfold keys key_of these in
          (some_best good t i j (eqb-false j (i + 1) e)
          (λ u. join (job.weight u) u (best_under job f u (job.a u) (job.b u)) (best_under job f u (job.b u) (job.c u)))
          (λ u k ei ej. root_best u _ _ (ih u (job.a u) (job.b u) (good.ab u k) (omega (arith, good.bc u k)))
          (ih u (job.b u) (job.c u) (good.bc u k) (omega (arith, good.ab u k)))))

  pub best_unique : (t i j : ℕ) (k k' : List ℕ) → Best t i j k → Best t i j k' → k ≡ k'
  best_unique t i j k k' (none e h) (none e' h') = e ∙ sym e'
  best_unique t i j k k' (none e h) (some l x e' w h') = absurd (h l x w)
  best_unique t i j k k' (some l x e w h) (none e' h') = absurd (h' l x w)
  best_unique t i j k k' (some l x e w h) (some l' x' e' w' h') = e ∙ no_later_antisym _ _ (h l' x' w') (h' l x w) ∙ sym e'

  -- The answer, by the recursion: t is a number that no row has for its outer.
  pub best_edge : ValidProblem job → (t : ℕ) → ((u : ℕ) → job.row t u ≡ 0) → (f : ℕ) → job.n ≤ f → best_key job ≡ best_under job f t 0 (job.n - 1)
  best_edge good t z f b = go (edge_best good f t 0 (job.n - 1) (omega (arith, good.n3)) (omega arith))
    where
      no_row : (l : List ℕ) → hinge_weight job t l ≡ 0
      no_row [] = refl
      no_row (u ∷ l) = z u

      plain : (l : List ℕ) (x : ℕ) → (x + hinge_weight job t l) ∷ l ≡ x ∷ l
      plain l x = ap (λ y. y ∷ l) (omega (arith, no_row l))

      go : Best t 0 (job.n - 1) (best_under job f t 0 (job.n - 1)) → best_key job ≡ best_under job f t 0 (job.n - 1)
      go (none e h) = best_none job good h ∙ sym e
      go (some l x e w h) = best_is job good l x w (λ k y v. ap₂ no_later (sym (plain l x)) (sym (plain k y)) ∙ h k y v) ∙ sym (plain l x) ∙ sym e

  module _ (good : ValidProblem job) where
    -- enough fuel is enough
    pub edge_fuel : (f g t i j : ℕ) → i < j → j ≤ f + i → j ≤ g + i → best_under job f t i j ≡ best_under job g t i j
    edge_fuel f g t i j h p q = best_unique t i j _ _ (edge_best good f t i j h p) (edge_best good g t i j h q)

    pub root_fuel : (f g u : ℕ) → u < job.size → job.n ≤ suc f → job.n ≤ suc g → best_from job f u ≡ best_from job g u
    unfolding best_from best_under
    root_fuel f g u h p q = ap₂ (join (job.weight u) u)
        (edge_fuel f g u (job.a u) (job.b u) (good.ab u h) (omega (arith, good.bc u h, good.cn u h)) (omega (arith, good.bc u h, good.cn u h)))
        (edge_fuel f g u (job.b u) (job.c u) (good.bc u h) (omega (arith, good.cn u h)) (omega (arith, good.cn u h)))

    map_ext : (f g : ℕ → List ℕ) (s : List ℕ) → ((k : ℕ) → Mem k s → f k ≡ g k) → map f s ≡ map g s
    map_ext f g [] h = refl
    map_ext f g (x ∷ s) h = ap₂ (λ y z. y ∷ z) (h x (Memᴰ.head refl)) (map_ext f g s (λ k m. h k (Memᴰ.tail m)))

    -- the recursion at full fuel
    pub edge_step : (t i j : ℕ) → j ≡ i + 1 → best_under job job.n t i j ≡ 0 ∷ []
    unfolding best_under
    edge_step t i j e = go job.n (omega (arith, good.n3))
      where
        go : (f : ℕ) → 1 ≤ f → best_under job f t i j ≡ 0 ∷ []
        go zero h = absurd (omega arith)
        go (suc f) h = rw (eq-eqb j (i + 1) e)

    pub edge_least : (t i j : ℕ) → j ≢ i + 1 → best_under job job.n t i j
        ≡ least (map (λ u. add_row (job.row t u) (best_from job job.n u)) (keep (long_edge job i j) (numbers_from 0 job.size)))
    unfolding best_under best_from
    edge_least t i j e = go job.n refl
      where
        go : (f : ℕ) → job.n ≡ f →
            best_under job f t i j ≡ least (map (λ u. add_row (job.row t u) (best_from job f u)) (keep (long_edge job i j) (numbers_from 0 job.size)))
        go zero h = absurd (omega (arith, good.n3))
        go (suc f) h =
            ap (λ b. cond b (0 ∷ [])
            (least (map (λ u. add_row (job.row t u) (best_from job f u)) (keep (long_edge job i j) (numbers_from 0 job.size))))) (ne_eqb j (i + 1) e)
            ∙ ap least (map_ext (λ u. add_row (job.row t u) (best_from job f u)) (λ u. add_row (job.row t u) (best_from job (suc f) u))
            (keep (long_edge job i j) (numbers_from 0 job.size))
            (λ u m. let d = keep_mem (long_edge job i j) u (numbers_from 0 job.size) m in
            ap (add_row (job.row t u)) (root_fuel f (suc f) u (omega (arith, up_from_mem 0 job.size u d.0)) (omega arith) (omega arith))))

    pub root_is : (u : ℕ) → u < job.size → Root u (best_from job job.n u)
    unfolding best_from best_under
    root_is u h = root_best u _ _ (edge_best good job.n u (job.a u) (job.b u) (good.ab u h) (omega (arith, good.bc u h, good.cn u h)))
        (edge_best good job.n u (job.b u) (job.c u) (good.bc u h) (omega (arith, good.cn u h)))
