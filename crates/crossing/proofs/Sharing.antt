-- Two candidates share nothing, exactly a corner, or exactly an edge. Assumes nothing.
use mathlib.Core.Path.{◌≡◌, refl, sym, ◌∙◌, ap, subst}
use mathlib.Core.List.Memᴰ
use mathlib.Core.List.Memᴰ.{head}
use mathlib.Core.List.Memᴰ.{tail}
use mathlib.Core.List.{List, [], ◌∷◌, Memᴰ}
use mathlib.Core.Logic.{◌⊎◌, inl, inr}
use Prim.Native.Nat.{ℕ, ◌≤◌, ◌<◌}
use native.Mathlib.Omega.{arith}
use lib.IntN.{ℤ, pos, nat_abs, ◌+ℤ◌, ◌*ℤ◌}
use Rattle.integers.proofs.Laws.{mul_one}
use Rattle.lists.specs.Sums.{sum}
use Rattle.terms.specs.Entries.{triple}
use Rattle.polygon.specs.declared.Polygon.{Polygon}
use Rattle.crossing.specs.Crossing.{corner_at, weighted_sum, Meet, Belong}
use Rattle.crossing.specs.Sharing.{Exactly, Sharing, nothing, a_corner, an_edge}
use Rattle.crossing.proofs.Corners.{member_or_not, two_cases, three_cases, Distinct, distinct_three}
use Rattle.crossing.proofs.Sums.{sum_over, at_most_sum, some_weight, moved}

-- ---- weighted sums by coordinates
sum_is : (v : ℕ → ℕ) (t : List ℕ) → sum_over (λ i. pos 1) v t ≡ pos (sum v t)
sum_is v [] = refl
sum_is v (i ∷ t) = λ j. mul_one (pos (v i)) j +ℤ sum_is v t j

module _ (p : Polygon) (v : ℕ → ℕ) where
  x_is : (t : List ℕ) → sum_over (λ i. (corner_at p i).x) v t ≡ (weighted_sum p v t).x
  x_is [] = refl
  x_is (i ∷ t) = ap (λ (z : ℤ). pos (v i) *ℤ (corner_at p i).x +ℤ z) (x_is t)

  y_is : (t : List ℕ) → sum_over (λ i. (corner_at p i).y) v t ≡ (weighted_sum p v t).y
  y_is [] = refl
  y_is (i ∷ t) = ap (λ (z : ℤ). pos (v i) *ℤ (corner_at p i).y +ℤ z) (y_is t)

  z_is : (t : List ℕ) → sum_over (λ i. (corner_at p i).z) v t ≡ (weighted_sum p v t).z
  z_is [] = refl
  z_is (i ∷ t) = ap (λ (z : ℤ). pos (v i) *ℤ (corner_at p i).z +ℤ z) (z_is t)

  -- where what has weight in either list belongs to both, they meet
  pub shared_meet : (t u : List ℕ) → Distinct t → Distinct u → 0 < sum v t → Belong v t u → Belong v u t → Meet p t u v v
  shared_meet t u dt du h to back = record {
    not_all_zero = h;
    equal_sums = ap nat_abs (sym (sum_is v t) ∙ same (λ i. pos 1) ∙ sum_is v u);
    same_point = λ i. record {
      x = (sym (x_is t) ∙ same (λ k. (corner_at p k).x) ∙ x_is u) i;
      y = (sym (y_is t) ∙ same (λ k. (corner_at p k).y) ∙ y_is u) i;
      z = (sym (z_is t) ∙ same (λ k. (corner_at p k).z) ∙ z_is u) i;
    };
  }
    where
      same : (F : ℕ → ℤ) → sum_over F v t ≡ sum_over F v u
      same F = moved F t u dt du v to back

-- ---- two triples that do not cross, by the corners that they have in common
module _ (p : Polygon) (a b c x y z : ℕ) (ab : a < b) (bc : b < c) (xy : x < y) (yz : y < z)
    (apart : (v w : ℕ → ℕ) → Meet p (triple a b c) (triple x y z) v w → Belong v (triple a b c) (triple x y z) × Belong w (triple x y z) (triple a b c)) where
  abbrev t : List ℕ
  t = triple a b c

  abbrev u : List ℕ
  u = triple x y z

  common_exactly : (l : List ℕ) → ((i : ℕ) → Memᴰ i l → Memᴰ i t × Memᴰ i u) →
      ((i : ℕ) → Memᴰ i t → Memᴰ i u → Memᴰ i l) → Exactly p t u l
  common_exactly l of-both all-common = record {
    corners = of-both;
    only = λ v w m. let s = apart v w m in (λ i h k. all-common i h (s.0 i h k), λ i h k. all-common i (s.1 i h k) h);
    all = λ v h on-l.
        let s = some_weight v l h in
        let in-t = (of-both s.0 s.1).0 in
        shared_meet p v t u (distinct_three ab bc) (distinct_three xy yz) (omega (arith, s.2, at_most_sum v t s.0 in-t))
        (λ i m k. (of-both i (on-l i k)).1) (λ i m k. (of-both i (on-l i k)).0);
  }

  module _ (differ : t ≡ u → ⊥) where
    low : (i : ℕ) → Memᴰ i u → x ≤ i
    low i m = three_cases m (λ e. omega arith) (λ e. omega arith) (λ e. omega arith)

    high : (i : ℕ) → Memᴰ i u → i ≤ z
    high i m = three_cases m (λ e. omega arith) (λ e. omega arith) (λ e. omega arith)

    -- ascending triples with the same corners are the same
    all_three : Memᴰ a u → Memᴰ b u → Memᴰ c u → ⊥
    all_three ma mb mc =
        let la = low a ma in
        let hc = high c mc in
        let eb : b ≡ y = three_cases mb (λ e. absurd (omega arith)) (λ e. e) (λ e. absurd (omega arith)) in
        let ea : a ≡ x = three_cases ma (λ e. e) (λ e. absurd (omega arith)) (λ e. absurd (omega arith)) in
        let ec : c ≡ z = three_cases mc (λ e. absurd (omega arith)) (λ e. absurd (omega arith)) (λ e. e) in
        differ (λ i. triple (ea i) (eb i) (ec i))

    -- a corner of t that is not one of u
    not_in : {X : Type 0} {i j : ℕ} → (Memᴰ i u → ⊥) → Memᴰ j u → j ≡ i → X
    not_in n m e = absurd (n (subst (λ (k : ℕ). Memᴰ k u) e m))

    -- one or two corners of both
    single : {i : ℕ} → Memᴰ i t → Memᴰ i u → (j : ℕ) → Memᴰ j (i ∷ []) → Memᴰ j t × Memᴰ j u
    single f m j h = let e = sym (Memᴰ.eq_of_singleton h) in (subst (λ (k : ℕ). Memᴰ k t) e f, subst (λ (k : ℕ). Memᴰ k u) e m)

    couple : {i k : ℕ} → Memᴰ i t → Memᴰ i u → Memᴰ k t → Memᴰ k u →
        (j : ℕ) → Memᴰ j (i ∷ k ∷ []) → Memᴰ j t × Memᴰ j u
    couple f m g n j h = two_cases h (λ e. single f m j (head e)) (λ e. single g n j (head e))

    in_a : Memᴰ a t
    in_a = head refl

    in_b : Memᴰ b t
    in_b = tail (head refl)

    in_c : Memᴰ c t
    in_c = tail (tail (head refl))

    pub share : Sharing p t u
    share = by (member_or_not a u) (member_or_not b u) (member_or_not c u)
      where
        by : Memᴰ a u ⊎ (Memᴰ a u → ⊥) → Memᴰ b u ⊎ (Memᴰ b u → ⊥) → Memᴰ c u ⊎ (Memᴰ c u → ⊥) → Sharing p t u
        by (inl ma) (inl mb) (inl mc) = absurd (all_three ma mb mc)
        by (inl ma) (inl mb) (inr nc) =
            an_edge a b ab (common_exactly (a ∷ b ∷ []) (couple in_a ma in_b mb) (λ i h g. three_cases h head (λ e. tail (head e)) (not_in nc g)))
        by (inl ma) (inr nb) (inl mc) =
            an_edge a c (omega arith) (common_exactly (a ∷ c ∷ []) (couple in_a ma in_c mc) (λ i h g. three_cases h head (not_in nb g) (λ e. tail (head e))))
        by (inr na) (inl mb) (inl mc) =
            an_edge b c bc (common_exactly (b ∷ c ∷ []) (couple in_b mb in_c mc) (λ i h g. three_cases h (not_in na g) head (λ e. tail (head e))))
        by (inl ma) (inr nb) (inr nc) =
            a_corner a (common_exactly (a ∷ []) (single in_a ma) (λ i h g. three_cases h head (not_in nb g) (not_in nc g)))
        by (inr na) (inl mb) (inr nc) =
            a_corner b (common_exactly (b ∷ []) (single in_b mb) (λ i h g. three_cases h (not_in na g) head (not_in nc g)))
        by (inr na) (inr nb) (inl mc) =
            a_corner c (common_exactly (c ∷ []) (single in_c mc) (λ i h g. three_cases h (not_in na g) (not_in nb g) head))
        by (inr na) (inr nb) (inr nc) =
            nothing (common_exactly [] (λ i h. absurd (Memᴰ.not-nil h)) (λ i h g. three_cases h (not_in na g) (not_in nb g) (not_in nc g)))
