-- The bend by its ratio: 1000 less the ratio rounded down, held at 0 and 2000; there is one such number. Assumes nothing.
use mathlib.Core.Path.{◌≡◌, refl, sym, ◌∙◌, ap, subst}
use mathlib.Core.List.{[], ◌∷◌}
use mathlib.Core.Bool.{Bool, true, false, cond}
use Prim.Native.Nat.{ℕ, zero, suc, ◌+◌, ◌*◌, ◌-◌, ◌≤◌, ◌<◌}
use native.Mathlib.Nat.{le_antisymm, le_refl}
use native.Mathlib.Decide.{dec_le}
use native.Mathlib.Omega.{arith}
use lib.IntN.{ℤ, pos, negsuc, neg_ℤ, nat_abs, ◌+ℤ◌, ◌-ℤ◌, ◌*ℤ◌, +ℤ_idl}
use lib.Signed.{lt_z, ◌≤ℤ◌, ◌<ℤ◌, le_z_yes, <ℤ-≤ℤ_trans, clash_ℤ}
use Rattle.integers.specs.Bounds.{AtMost}
use Rattle.integers.specs.Rounding.{floor_div}
use Rattle.integers.proofs.Bounds.{at_most_sub}
use Rattle.integers.proofs.Ring.{var, con, ◌:+◌, ◌:-◌, ring}
use Rattle.integers.proofs.Order.{true-≤ℤ, ≤ℤ-trans, ≤ℤ-multiple, ≤ℤ-plus}
use Rattle.integers.proofs.Rounding.{floor_div_low, floor_div_high, product_above_0}
use Rattle.geometry.specs.declared.Vector.{Vector}
use Rattle.geometry.specs.Vectors.{dot_of, zero_vector, opposite}
use Rattle.geometry.specs.Bounds.{max_normal, Within}
use Rattle.geometry.specs.Faces.{ratio_scale, dividend_scale, length_of, ratio_of, bend_of, bend_between}
use Rattle.geometry.specs.Quarters.{IsBend, IsBendBetween}
use Rattle.geometry.proofs.Lengths.{length_is, length_unique, not_zero_above_0, length_by_square}
use Rattle.geometry.proofs.Bends.{bend_is, bend_bound, equal_normals, perpendicular_normals, opposite_square, opposite_normals}

module _ (d : ℤ) (m k : ℕ) (above : 0 < m * k) where
  abbrev dividend : ℤ
  dividend = pos dividend_scale *ℤ d

  abbrev quotient : ℤ
  quotient = floor_div dividend (m * k)

  -- the ratio is the quotient, which is below the dividend, unless it is held at -1000
  ratio_low : (ratio_of d m k ≡ negsuc 999 → ⊥) → (ratio_of d m k *ℤ pos (m * k)) ≤ℤ dividend
  unfolding ratio_of
  ratio_low = held (lt_z quotient (negsuc 999))
    where
      high : (t : Bool) → lt_z (pos 1000) quotient ≡ t → (cond t (pos 1000) quotient *ℤ pos (m * k)) ≤ℤ dividend
      high true e = ≤ℤ-trans (≤ℤ-multiple (pos 1000) quotient (m * k) above (true-≤ℤ e)) (floor_div_low dividend (m * k) above)
      high false e = floor_div_low dividend (m * k) above

      held : (t : Bool) → (cond t (negsuc 999) (cond (lt_z (pos 1000) quotient) (pos 1000) quotient) ≡ negsuc 999 → ⊥) →
          (cond t (negsuc 999) (cond (lt_z (pos 1000) quotient) (pos 1000) quotient) *ℤ pos (m * k)) ≤ℤ dividend
      held true h = absurd (h refl)
      held false h = high (lt_z (pos 1000) quotient) refl

  -- and one more is above it, unless it is held at 1000
  ratio_high : (ratio_of d m k ≡ pos 1000 → ⊥) → dividend <ℤ ((ratio_of d m k +ℤ pos 1) *ℤ pos (m * k))
  unfolding ratio_of
  ratio_high = low (lt_z quotient (negsuc 999)) refl
    where
      held : (t : Bool) → (cond t (pos 1000) quotient ≡ pos 1000 → ⊥) → dividend <ℤ ((cond t (pos 1000) quotient +ℤ pos 1) *ℤ pos (m * k))
      held true h = absurd (h refl)
      held false h = floor_div_high dividend (m * k) above

      low : (t : Bool) → lt_z quotient (negsuc 999) ≡ t → (cond t (negsuc 999) (cond (lt_z (pos 1000) quotient) (pos 1000) quotient) ≡ pos 1000 → ⊥) →
          dividend <ℤ ((cond t (negsuc 999) (cond (lt_z (pos 1000) quotient) (pos 1000) quotient) +ℤ pos 1) *ℤ pos (m * k))
      low true e h =
          <ℤ-≤ℤ_trans (floor_div_high dividend (m * k) above)
          (≤ℤ-multiple (quotient +ℤ pos 1) (negsuc 998) (m * k) above (≤ℤ-plus quotient (negsuc 999) (pos 1) (true-≤ℤ e)))
      low false e h = held (lt_z (pos 1000) quotient) h

  -- the ratio by the bend
  ratio_is : ratio_of d m k ≡ pos ratio_scale -ℤ pos (bend_of d m k)
  ratio_is =
      ring (ratio_of d m k ∷ []) (var 0) (con (pos 1000) :- (con (pos 1000) :- var 0)) tt ∙ ap (λ (z : ℤ). pos ratio_scale -ℤ z) (sym (bend_is d m k))

  one_more : ratio_of d m k +ℤ pos 1 ≡ pos (ratio_scale + 1) -ℤ pos (bend_of d m k)
  one_more =
      ap (λ (r : ℤ). r +ℤ pos 1) ratio_is
      ∙ ring (pos (bend_of d m k) ∷ []) ((con (pos 1000) :- var 0) :+ con (pos 1)) (con (pos 1001) :- var 0) tt

  bend_by_ratio : {r : ℤ} → ratio_of d m k ≡ r → bend_of d m k ≡ nat_abs (pos ratio_scale -ℤ r)
  bend_by_ratio e = ap nat_abs (bend_is d m k ∙ ap (λ (z : ℤ). pos ratio_scale -ℤ z) e)

  -- the bend is what the statement about it says (rules 2.10, 2.11)
  pub bend_meets : IsBend d m k (bend_of d m k)
  bend_meets = record {
    most = bend_bound d m k;
    low = λ h. subst (λ (r : ℤ). (r *ℤ pos (m * k)) ≤ℤ dividend) ratio_is (ratio_low (λ e. below (bend_by_ratio e) h));
    high = λ h. subst (λ (r : ℤ). dividend <ℤ (r *ℤ pos (m * k))) one_more (ratio_high (λ e. below (sym (bend_by_ratio e)) h));
  }
    where
      below : {a b : ℕ} → a ≡ b → a < b → ⊥
      below e h = omega arith

  -- and it is the only such number: of two, the smaller would have its ratio above the other's
  pub bend_unique : (b : ℕ) → IsBend d m k b → b ≡ bend_of d m k
  bend_unique b h = le_antisymm (no_more b (bend_of d m k) h bend_meets) (no_more (bend_of d m k) b bend_meets h)
    where
      less : (b c e : ℕ) → b ≡ c + 1 + e → (pos (ratio_scale + 1) -ℤ pos b) ≤ℤ (pos ratio_scale -ℤ pos c)
      less b c e h =
          subst (λ (z : ℤ). z ≤ℤ (pos ratio_scale -ℤ pos c))
          (ring (pos c ∷ pos e ∷ []) ((con (pos 0) :- var 1) :+ (con (pos 1000) :- var 0)) (con (pos 1001) :- (var 0 :+ con (pos 1) :+ var 1)) tt
          ∙ ap (λ (x : ℕ). pos (ratio_scale + 1) -ℤ pos x) (sym h))
          (subst (λ (z : ℤ). ((pos 0 -ℤ pos e) +ℤ (pos ratio_scale -ℤ pos c)) ≤ℤ z) (+ℤ_idl (pos ratio_scale -ℤ pos c))
          (≤ℤ-plus (pos 0 -ℤ pos e) (pos 0) (pos ratio_scale -ℤ pos c) negative))
        where
          not_positive : (e : ℕ) → neg_ℤ (pos e) ≤ℤ pos 0
          not_positive zero = le_z_yes tt
          not_positive (suc e) = le_z_yes tt

          negative : (pos 0 -ℤ pos e) ≤ℤ pos 0
          negative = subst (λ (z : ℤ). z ≤ℤ pos 0) (sym (+ℤ_idl (neg_ℤ (pos e)))) (not_positive e)

      no_more : (b c : ℕ) → IsBend d m k b → IsBend d m k c → b ≤ c
      no_more b c i j = go (dec_le b c)
        where
          go : Dec (b ≤ c) → b ≤ c
          go (yes h) = h
          go (no h) =
              let most = i.most in
              clash_ℤ (i.high (omega arith))
              (≤ℤ-trans
              (≤ℤ-multiple (pos (ratio_scale + 1) -ℤ pos b) (pos ratio_scale -ℤ pos c) (m * k) above (less b c (b - suc c) (omega arith)))
              (j.low (omega arith)))

-- ---- the bend between two normals
module _ {n k : Vector} (hn : Within max_normal n) (hk : Within max_normal k) where
  pub bend_between_lem : 0 < length_of n → 0 < length_of k → IsBendBetween n k (bend_between n k)
  bend_between_lem pn pk = record {
    m = length_of n;
    l = length_of k;
    m_is = length_is hn;
    l_is = length_is hk;
    m_above_0 = pn;
    l_above_0 = pk;
    is = bend_meets (dot_of n k) (length_of n) (length_of k) (product_above_0 (length_of n) (length_of k) pn pk);
  }

  bend_between_unique : (b : ℕ) → IsBendBetween n k b → b ≡ bend_between n k
  bend_between_unique b h =
      bend_unique (dot_of n k) h.m h.l (product_above_0 h.m h.l h.m_above_0 h.l_above_0) b h.is
      ∙ (λ i. bend_of (dot_of n k) (length_unique hn h.m h.m_is i) (length_unique hk h.l h.l_is i))

-- two normals that are not zero have one bend, from 0 to 2000
pub has_one_bend : (n k : Vector) → Within max_normal n → Within max_normal k → (n ≡ zero_vector → ⊥) → (k ≡ zero_vector → ⊥) →
    (b : ℕ) × (b ≤ 2000) × IsBendBetween n k b × ((c : ℕ) → IsBendBetween n k c → c ≡ b)
has_one_bend n k hn hk zn zk = (
  bend_between n k,
  bend_bound (dot_of n k) (length_of n) (length_of k),
  bend_between_lem hn hk (not_zero_above_0 hn zn) (not_zero_above_0 hk zk),
  bend_between_unique hn hk,
)

-- equal, perpendicular and opposite normals that are not zero (rule 6.5)
module _ {n : Vector} (hn : Within max_normal n) (zn : n ≡ zero_vector → ⊥) where
  pub equal_bend : IsBendBetween n n 0
  equal_bend =
      subst (λ (b : ℕ). IsBendBetween n n b) (equal_normals hn zn) (bend_between_lem hn hn (not_zero_above_0 hn zn) (not_zero_above_0 hn zn))

  pub perpendicular_bend : {k : Vector} → Within max_normal k → (k ≡ zero_vector → ⊥) → dot_of n k ≡ pos 0 → IsBendBetween n k 1000
  perpendicular_bend {k} hk zk e =
      subst (λ (b : ℕ). IsBendBetween n k b) (perpendicular_normals n k e)
      (bend_between_lem hn hk (not_zero_above_0 hn zn) (not_zero_above_0 hk zk))

  pub opposite_bend : IsBendBetween n (opposite n) 2000
  opposite_bend =
      subst (λ (b : ℕ). IsBendBetween n (opposite n) b) (opposite_normals n hn zn)
      (bend_between_lem hn within above (subst (λ (m : ℕ). 0 < m) (sym (length_by_square (opposite n) n (opposite_square n))) above))
    where
      above : 0 < length_of n
      above = not_zero_above_0 hn zn

      within : Within max_normal (opposite n)
      within = record { in_x = at_most_sub nought hn.in_x; in_y = at_most_sub nought hn.in_y; in_z = at_most_sub nought hn.in_z }
        where
          nought : AtMost 0 (pos 0)
          nought = record { size = le_refl 0 }
