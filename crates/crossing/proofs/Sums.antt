-- Sums over the vertices of a list, each value times the vertex's weight. Assumes nothing.
use mathlib.Core.Path.{◌≡◌, refl, sym, ◌∙◌, ap}
use mathlib.Core.Bool.{cond}
use mathlib.Core.List.Memᴰ
use mathlib.Core.List.Memᴰ.{head}
use mathlib.Core.List.Memᴰ.{tail}
use mathlib.Core.List.{List, [], ◌∷◌, Memᴰ}
use mathlib.Core.Logic.{◌⊎◌, inl, inr, ⊎_elim}
use Prim.Native.Nat.{ℕ, zero, suc, ◌*◌, ◌≤◌, ◌<◌}
use native.Mathlib.Omega.{arith}
use borrow.Author.Tests.{eqb-true, eqb-false}
use lib.Dec.{eqb}
use lib.IntN.{ℤ, pos, nat_abs, ◌+ℤ◌, ◌*ℤ◌, zero-*ℤ}
use Rattle.integers.proofs.Ring.{var, con, ◌:+◌, ◌:*◌, ring}
use Rattle.lists.specs.Sums.{sum}
use Rattle.lists.proofs.Choice.{Truth, holds, fails, truth, yes, no}
use Rattle.lists.proofs.Members.{more}
use Rattle.crossing.specs.Crossing.{Belong}
use Rattle.crossing.proofs.Corners.{Distinct}

abbrev pub sum_over : (ℕ → ℤ) → (ℕ → ℕ) → List ℕ → ℤ
sum_over F v [] = pos 0
sum_over F v (i ∷ t) = pos (v i) *ℤ F i +ℤ sum_over F v t

-- a value that is not negative
abbrev pub Natural : ℤ → Type 0
Natural z = z ≡ pos (nat_abs z)

pub natural : {z : ℤ} (n : ℕ) → z ≡ pos n → Natural z
natural n e = e ∙ sym (ap (λ (x : ℤ). pos (nat_abs x)) e)

pub product_zero : (k n : ℕ) → k * n ≡ 0 → (k ≡ 0) ⊎ (n ≡ 0)
product_zero zero n e = inl refl
product_zero (suc k) zero e = inr refl
product_zero (suc k) (suc n) e = absurd (omega arith)

-- ---- one weighting
module _ (v : ℕ → ℕ) where
  pub sum_linear : (s : ℤ) (F G : ℕ → ℤ) (t : List ℕ) → sum_over (λ i. s *ℤ F i +ℤ G i) v t ≡ s *ℤ sum_over F v t +ℤ sum_over G v t
  sum_linear s F G [] = ring (s ∷ []) (con (pos 0)) (var 0 :* con (pos 0) :+ con (pos 0)) tt
  sum_linear s F G (i ∷ t) =
      ap (λ (z : ℤ). pos (v i) *ℤ (s *ℤ F i +ℤ G i) +ℤ z) (sum_linear s F G t)
      ∙ ring (s ∷ pos (v i) ∷ F i ∷ G i ∷ sum_over F v t ∷ sum_over G v t ∷ [])
      (var 1 :* (var 0 :* var 2 :+ var 3) :+ (var 0 :* var 4 :+ var 5)) (var 0 :* (var 1 :* var 2 :+ var 4) :+ (var 1 :* var 3 :+ var 5)) tt

  pub sum_zero : (F : ℕ → ℤ) (t : List ℕ) → ((i : ℕ) → Memᴰ i t → pos (v i) *ℤ F i ≡ pos 0) → sum_over F v t ≡ pos 0
  sum_zero F [] h = refl
  sum_zero F (i ∷ t) h = λ j. h i (head refl) j +ℤ sum_zero F t (λ k m. h k (tail m)) j

  pub sum_natural : (F : ℕ → ℤ) (t : List ℕ) → ((i : ℕ) → Memᴰ i t → Natural (F i)) → sum_over F v t ≡ pos (sum (λ i. v i * nat_abs (F i)) t)
  sum_natural F [] h = refl
  sum_natural F (i ∷ t) h = λ j. pos (v i) *ℤ h i (head refl) j +ℤ sum_natural F t (λ k m. h k (tail m)) j

  -- of numbers that add up to 0 each is 0; those of a sum above 0 are not all
  pub all_zero : (f : ℕ → ℕ) (t : List ℕ) → sum f t ≡ 0 → (i : ℕ) → Memᴰ i t → f i ≡ 0
  all_zero f [] e i m = absurd (Memᴰ.not-nil m)
  all_zero f (j ∷ t) e i m = ⊎_elim (λ q. ap f q ∙ omega (arith, e)) (λ r. all_zero f t (omega arith) i r) (Memᴰ.cases_cons m)

  pub at_most_sum : (t : List ℕ) (i : ℕ) → Memᴰ i t → v i ≤ sum v t
  at_most_sum [] i m = absurd (Memᴰ.not-nil m)
  at_most_sum (j ∷ t) i m = ⊎_elim (λ q. omega (arith, ap v q)) (λ r. omega (arith, at_most_sum t i r)) (Memᴰ.cases_cons m)

  pub some_weight : (t : List ℕ) → 0 < sum v t → (i : ℕ) × Memᴰ i t × (0 < v i)
  some_weight [] h = absurd (omega arith)
  some_weight (j ∷ t) h = by (some_weight t) (v j) refl
    where
      by : (0 < sum v t → (i : ℕ) × Memᴰ i t × (0 < v i)) → (k : ℕ) → v j ≡ k → (i : ℕ) × Memᴰ i (j ∷ t) × (0 < v i)
      by later zero e = let r = later (omega arith) in (r.0, tail r.1, r.2)
      by later (suc k) e = (j, head refl, omega (arith, e))

  -- the sum of a function that is 0 at every other vertex, or where that has no weight
  pub sum_at : (F : ℕ → ℤ) (i : ℕ) (t : List ℕ) → Distinct t → Memᴰ i t → ((j : ℕ) → Memᴰ j t → (j ≡ i) ⊎ (pos (v j) *ℤ F j ≡ pos 0)) →
      sum_over F v t ≡ pos (v i) *ℤ F i
  sum_at F i [] d m h = absurd (Memᴰ.not-nil m)
  sum_at F i (j ∷ t) (more apart d) m h = ⊎_elim here (λ n. there n (sum_at F i t d n (λ k r. h k (tail r)))) (Memᴰ.cases_cons m)
    where
      term : ℕ → ℤ
      term k = pos (v k) *ℤ F k

      here : i ≡ j → sum_over F v (j ∷ t) ≡ term i
      here e =
          (λ k. term (sym e k) +ℤ sum_zero F t (λ k n. ⊎_elim (λ q. absurd (apart k n (sym (q ∙ e)))) (λ z. z) (h k (tail n))) k)
          ∙ ring (pos (v i) ∷ F i ∷ []) (var 0 :* var 1 :+ con (pos 0)) (var 0 :* var 1) tt

      there : Memᴰ i t → sum_over F v t ≡ term i → sum_over F v (j ∷ t) ≡ term i
      there n e =
          (λ k. ⊎_elim (λ q. absurd (apart i n q)) (λ z. z) (h j (head refl)) k +ℤ e k)
          ∙ ring (pos (v i) ∷ F i ∷ []) (con (pos 0) :+ var 0 :* var 1) (var 0 :* var 1) tt

-- ---- two weightings that agree
same_sum : (F : ℕ → ℤ) (v w : ℕ → ℕ) (t : List ℕ) → ((i : ℕ) → Memᴰ i t → v i ≡ w i) → sum_over F v t ≡ sum_over F w t
same_sum F v w [] h = refl
same_sum F v w (i ∷ t) h = λ j. pos (h i (head refl) j) *ℤ F i +ℤ same_sum F v w t (λ k m. h k (tail m)) j

-- ---- one weighting on two lists
module _ (x : ℕ) (v : ℕ → ℕ) where
  -- the weights without that of x
  without : ℕ → ℕ
  without i = cond (eqb i x) 0 (v i)

  without_other : (i : ℕ) → (i ≡ x → ⊥) → without i ≡ v i
  unfolding without
  without_other i n = by (truth (eqb i x))
    where
      by : Truth (eqb i x) → without i ≡ v i
      by (holds e) = absurd (n (eqb-true i x e))
      by (fails e) = no 0 (v i) e

  without_same : (i : ℕ) → i ≡ x → without i ≡ 0
  unfolding without
  without_same i e = by (truth (eqb i x))
    where
      by : Truth (eqb i x) → without i ≡ 0
      by (holds q) = yes 0 (v i) q
      by (fails q) = absurd (eqb-false i x q e)

  -- a weight above 0 that is left
  still : (i : ℕ) → 0 < without i → (i ≡ x → ⊥) × (0 < v i)
  still i h = by (truth (eqb i x))
    where
      by : Truth (eqb i x) → (i ≡ x → ⊥) × (0 < v i)
      by (holds e) = absurd (omega (arith, h, without_same i (eqb-true i x e)))
      by (fails e) = (eqb-false i x e, omega (arith, h, without_other i (eqb-false i x e)))

  split_off : (F : ℕ → ℤ) (u : List ℕ) → Distinct u → (0 < v x → Memᴰ x u) → sum_over F v u ≡ pos (v x) *ℤ F x +ℤ sum_over F without u
  split_off F [] d h = by (v x) refl
    where
      by : (k : ℕ) → v x ≡ k → pos 0 ≡ pos (v x) *ℤ F x +ℤ pos 0
      by zero e = ring (F x ∷ []) (con (pos 0)) (con (pos 0) :* var 0 :+ con (pos 0)) tt ∙ sym (ap (λ (k : ℕ). pos k *ℤ F x +ℤ pos 0) e)
      by (suc k) e = absurd (Memᴰ.not-nil (h (omega arith)))
  split_off F (y ∷ u) (more apart d) h = by (split_off F u d) (truth (eqb y x))
    where
      by : ((0 < v x → Memᴰ x u) → sum_over F v u ≡ pos (v x) *ℤ F x +ℤ sum_over F without u) → Truth (eqb y x) →
          sum_over F v (y ∷ u) ≡ pos (v x) *ℤ F x +ℤ sum_over F without (y ∷ u)
      by later (holds q) =
          let e : y ≡ x = eqb-true y x q in
          (λ k. pos (v (e k)) *ℤ F (e k) +ℤ same_sum F v without u (λ i m. sym (without_other i (λ z. apart i m (e ∙ sym z)))) k)
          ∙ ring (pos (v x) ∷ F x ∷ F y ∷ sum_over F without u ∷ []) (var 0 :* var 1 :+ var 3) (var 0 :* var 1 :+ (con (pos 0) :* var 2 :+ var 3)) tt
          ∙ sym (ap (λ (k : ℕ). pos (v x) *ℤ F x +ℤ (pos k *ℤ F y +ℤ sum_over F without u)) (without_same y e))
      by later (fails q) =
          let n : y ≡ x → ⊥ = eqb-false y x q in
          ap (λ (z : ℤ). pos (v y) *ℤ F y +ℤ z) (later (λ k. ⊎_elim (λ e. absurd (n (sym e))) (λ r. r) (Memᴰ.cases_cons (h k))))
          ∙ ring (pos (v x) ∷ F x ∷ pos (v y) ∷ F y ∷ sum_over F without u ∷ []) (var 2 :* var 3 :+ (var 0 :* var 1 :+ var 4))
          (var 0 :* var 1 :+ (var 2 :* var 3 :+ var 4)) tt
          ∙ sym (ap (λ (k : ℕ). pos (v x) *ℤ F x +ℤ (pos k *ℤ F y +ℤ sum_over F without u)) (without_other y n))

-- where what has weight in either list belongs to both, the sums are the same
pub moved : (F : ℕ → ℤ) (t u : List ℕ) → Distinct t → Distinct u → (v : ℕ → ℕ) → Belong v t u → Belong v u t → sum_over F v t ≡ sum_over F v u
moved F [] u dt du v to back = sym (sum_zero v F u (λ i m. none i m (v i) refl))
  where
    none : (i : ℕ) → Memᴰ i u → (k : ℕ) → v i ≡ k → pos (v i) *ℤ F i ≡ pos 0
    none i m zero e = ap (λ (k : ℕ). pos k *ℤ F i) e ∙ zero-*ℤ (F i)
    none i m (suc k) e = absurd (Memᴰ.not-nil (back i m (omega arith)))
moved F (x ∷ t) u (more apart dt) du v to back =
    ap (λ (z : ℤ). pos (v x) *ℤ F x +ℤ z)
    (same_sum F v (without x v) t (λ i m. sym (without_other x v i (λ e. apart i m (sym e))))
    ∙ moved F t u dt du (without x v)
    (λ i m h. to i (tail m) (still x v i h).1)
    (λ i m h. let s = still x v i h in ⊎_elim (λ e. absurd (s.0 e)) (λ r. r) (Memᴰ.cases_cons (back i m s.1))))
    ∙ sym (split_off x v F u du (λ h. to x (head refl) h))
