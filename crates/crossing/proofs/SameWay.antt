-- Two triangles of one plane on a common edge: where their normals point the same way, their bend is 0; where they point opposite ways, a point that has
-- weight on the third corner of the one is a point of the other. Assumes nothing.
use mathlib.Core.Path.{◌≡◌, refl, sym, ◌∙◌, ap}
use mathlib.Core.List.{[], ◌∷◌}
use Prim.Native.Nat.{ℕ, suc, ◌*◌, ◌≤◌}
use native.Mathlib.Omega.{arith}
use lib.IntN.{ℤ, pos, negsuc, nat_abs, ◌+ℤ◌, ◌-ℤ◌, ◌*ℤ◌, +ℤ_idl}
use Rattle.integers.proofs.Laws.{sub_zero, sub_self}
use Rattle.integers.proofs.Bounds.{mul_le}
use Rattle.integers.proofs.Order.{product_suc}
use Rattle.integers.proofs.Rounding.{product_above_0, root_at_most}
use Rattle.integers.proofs.Ring.{E, var, con, ◌:+◌, ◌:-◌, ◌:*◌, ring}
use Rattle.geometry.specs.declared.Vector.{Vector}
use Rattle.geometry.specs.Bounds.{max_normal, Within}
use Rattle.geometry.specs.Vectors.{dot_of, cross_of, square_of, scaled_by, plus}
use Rattle.geometry.specs.Faces.{square_scale, length_of, bend_of, bend_between}
use Rattle.geometry.proofs.Squares.{square_size}
use Rattle.geometry.proofs.Lengths.{length_is, length_above_0}
use Rattle.geometry.proofs.Bends.{bend_least}
use Rattle.geometry.proofs.Terms.{VectorE, vec, dot_e, cross_e, plus_e, scaled_e, of_vectors}

-- ---- numbers
-- a whole number by two that are not negative
pub record Split (z : ℤ) : Type 0 where
  pub over : ℕ
  pub under : ℕ
  pub is : z ≡ pos over -ℤ pos under

pub split : (z : ℤ) → Split z
split (pos n) = record { over = n; under = 0; is = ring (pos n ∷ []) (var 0) (var 0 :- con (pos 0)) tt }
split (negsuc n) = record { over = 0; under = suc n; is = sym (+ℤ_idl (negsuc n)) }

-- n (z - a) = e (b - a) + (g - h) (c - a), with a's weight brought to two sides
pub mixed : (n e g h k l a b c z w : ℤ) → n *ℤ (z -ℤ a) ≡ e *ℤ (b -ℤ a) +ℤ (g -ℤ h) *ℤ (c -ℤ a) +ℤ pos 0 *ℤ w → (n -ℤ e) -ℤ (g -ℤ h) ≡ k -ℤ l →
    k *ℤ a +ℤ (e *ℤ b +ℤ (g *ℤ c +ℤ pos 0)) ≡ l *ℤ a +ℤ (h *ℤ c +ℤ (n *ℤ z +ℤ pos 0))
mixed n e g h k l a b c z w r s =
    sub_zero _ _ (
    ring (n ∷ e ∷ g ∷ h ∷ k ∷ l ∷ a ∷ b ∷ c ∷ z ∷ w ∷ [])
    ((var 4 :* var 6 :+ (var 1 :* var 7 :+ (var 2 :* var 8 :+ con (pos 0)))) :- (var 5 :* var 6 :+ (var 3 :* var 8 :+ (var 0 :* var 9 :+ con (pos 0)))))
    (((var 1 :* (var 7 :- var 6) :+ (var 2 :- var 3) :* (var 8 :- var 6) :+ con (pos 0) :* var 10) :- var 0 :* (var 9 :- var 6))
    :+ var 6 :* ((var 4 :- var 5) :- ((var 0 :- var 1) :- (var 2 :- var 3)))) tt
    ∙ (λ i. sub_self _ _ (sym r) i +ℤ a *ℤ sub_self _ _ (sym s) i)
    ∙ ring (a ∷ []) (con (pos 0) :+ var 0 :* con (pos 0)) (con (pos 0)) tt)

-- squares in order
root_order : (m x : ℕ) → m * m ≤ x * x → m ≤ x
root_order m x h = root_at_most m x h (omega (arith, product_suc x x))

-- ---- three vectors in one plane: the edge v, and u and t to the third corners
module _ (u v t : Vector) (flat : dot_of u (cross_of v t) ≡ pos 0) where
  abbrev N : Vector
  N = cross_of u v

  abbrev M : Vector
  M = cross_of v t

  abbrev NE : VectorE
  NE = cross_e (vec 0) (vec 3)

  abbrev ME : VectorE
  ME = cross_e (vec 3) (vec 6)

  -- t by u and v
  pub spread : scaled_by (square_of N) t ≡ plus (plus (scaled_by (pos 0 -ℤ dot_of N M) u) (scaled_by (dot_of N (cross_of u t)) v)) (scaled_by (pos 0) N)
  spread =
      let a = scaled_e (dot_e NE NE) (vec 6) in
      let b = plus_e (plus_e (scaled_e (con (pos 0) :- dot_e NE ME) (vec 0)) (scaled_e (dot_e NE (cross_e (vec 0) (vec 6))) (vec 3)))
      (scaled_e (dot_e (vec 0) ME) NE) in
      (λ i. record { x = ring (of_vectors u v t) a.X b.X tt i; y = ring (of_vectors u v t) a.Y b.Y tt i; z = ring (of_vectors u v t) a.Z b.Z tt i })
      ∙ (λ i. plus (plus (scaled_by (pos 0 -ℤ dot_of N M) u) (scaled_by (dot_of N (cross_of u t)) v)) (scaled_by (flat i) N))

  -- the two normals are parallel
  parallel : cross_of N M ≡ scaled_by (pos 0) v
  parallel =
      let a = cross_e NE ME in
      let b = scaled_e (dot_e (vec 0) ME) (vec 3) in
      (λ i. record { x = ring (of_vectors u v t) a.X b.X tt i; y = ring (of_vectors u v t) a.Y b.Y tt i; z = ring (of_vectors u v t) a.Z b.Z tt i })
      ∙ (λ i. scaled_by (flat i) v)

  squares : square_of N *ℤ square_of M ≡ dot_of N M *ℤ dot_of N M
  squares =
      let c = cross_e (vec 0) (vec 3) in
      ring (of_vectors N M v) (dot_e (vec 0) (vec 0) :* dot_e (vec 3) (vec 3)) (dot_e (vec 0) (vec 3) :* dot_e (vec 0) (vec 3) :+ dot_e c c) tt
      ∙ (λ i. dot_of N M *ℤ dot_of N M +ℤ square_of (parallel i))
      ∙ (let z = scaled_e (con (pos 0)) (vec 1) in ring (dot_of N M ∷ v.x ∷ v.y ∷ v.z ∷ []) (var 0 :* var 0 :+ dot_e z z) (var 0 :* var 0) tt)

  abbrev scale : E
  scale = con (pos square_scale)

  -- where they point the same way, their product, in the scale of squares, is at least that of their lengths
  long_enough : (x m k : ℕ) → dot_of N M ≡ pos x → m * m ≤ square_scale * nat_abs (square_of N) → k * k ≤ square_scale * nat_abs (square_of M)
      → m * k ≤ square_scale * x
  long_enough x m k e hm hk =
      let n = nat_abs (square_of N) in
      let l = nat_abs (square_of M) in
      let s : n * l ≡ x * x = ap nat_abs (sym (λ i. square_size N i *ℤ square_size M i) ∙ squares ∙ (λ i. e i *ℤ e i)) in
      let q : (m * k) * (m * k) ≡ (m * m) * (k * k) =
      ap nat_abs (ring (pos m ∷ pos k ∷ []) ((var 0 :* var 1) :* (var 0 :* var 1)) ((var 0 :* var 0) :* (var 1 :* var 1)) tt) in
      let r : (square_scale * n) * (square_scale * l)
      ≡ square_scale * square_scale * (n * l) =
      ap nat_abs (ring (pos n ∷ pos l ∷ []) ((scale :* var 0) :* (scale :* var 1)) (scale :* scale :* (var 0 :* var 1)) tt) in
      let z : (square_scale * x) * (square_scale * x)
      ≡ square_scale * square_scale * (x * x) =
      ap nat_abs (ring (pos x ∷ []) ((scale :* var 0) :* (scale :* var 0)) (scale :* scale :* (var 0 :* var 0)) tt) in
      root_order (m * k) (square_scale * x) (omega (arith, q, r, s, z, mul_le hm hk))

  -- so the bend is 0, unless they point opposite ways
  pub same_way : Within max_normal N → Within max_normal M → (square_of N ≡ pos 0 → ⊥) → (square_of M ≡ pos 0 → ⊥) → ((e : ℕ) → dot_of N M ≡ negsuc e → ⊥) →
      bend_between N M ≡ 0
  same_way hn hm wn wm never = by (dot_of N M) refl
    where
      by : (d : ℤ) → dot_of N M ≡ d → bend_of d (length_of N) (length_of M) ≡ 0
      by (negsuc e) q = absurd (never e q)
      by (pos x) q =
          bend_least (length_of N) (length_of M) (product_above_0 (length_of N) (length_of M) (length_above_0 hn wn) (length_above_0 hm wm)) x
          (long_enough x (length_of N) (length_of M) q (length_is hn).low (length_is hm).low)
