-- Points whose coordinates satisfy one equation of a plane: any four of them are in one plane. Assumes nothing.
use mathlib.Core.Path.{◌≡◌, refl, sym, ◌∙◌}
use mathlib.Core.List.{List, [], ◌∷◌}
use mathlib.Core.Bool.{Bool, true, false}
use lib.IntN.{ℤ, pos, ◌+ℤ◌, ◌*ℤ◌, zero-*ℤ}
use Rattle.grid.specs.declared.GridPoint.{GridPoint}
use Rattle.geometry.specs.declared.Vector.{Vector}
use Rattle.integers.proofs.Laws.{sub_self}
use Rattle.integers.proofs.Order.{equal_is, no_divisor, true≢false}
use Rattle.integers.proofs.Ring.{E, var, ◌:-◌, ◌:*◌, ring}
use Rattle.geometry.specs.Vectors.{difference_of, dot_of, cross_of}
use Rattle.geometry.specs.Spheres.{orient_of, coplanar}
use Rattle.geometry.proofs.Terms.{VectorE, vec, dot_e, cross_e, scaled_e, plus_e, orient_e}

-- how far p lies along n: the equation of a plane is `along n p ≡ k`
abbrev along : Vector → GridPoint → ℤ
along n p = n.x *ℤ p.x +ℤ n.y *ℤ p.y +ℤ n.z *ℤ p.z

along_difference : (n : Vector) (p q : GridPoint) → along n q ≡ along n p → dot_of n (difference_of q p) ≡ pos 0
along_difference n p q e =
    ring (n.x ∷ n.y ∷ n.z ∷ p.x ∷ p.y ∷ p.z ∷ q.x ∷ q.y ∷ q.z ∷ [])
    (dot_e (vec 0) (record { X = var 6 :- var 3; Y = var 7 :- var 4; Z = var 8 :- var 5 })) (dot_e (vec 0) (vec 6) :- dot_e (vec 0) (vec 3)) tt
    ∙ sub_self (along n q) (along n p) e

-- Cramer's rule: o · n, by the three products of n
module _ (n u v t : Vector) where
  abbrev values : List ℤ
  values = n.x ∷ n.y ∷ n.z ∷ u.x ∷ u.y ∷ u.z ∷ v.x ∷ v.y ∷ v.z ∷ t.x ∷ t.y ∷ t.z ∷ []

  abbrev four_e : E
  four_e = orient_e (vec 3) (vec 6) (vec 9)

  abbrev sum_e : VectorE
  sum_e =
      plus_e (plus_e (scaled_e (dot_e (vec 0) (vec 3)) (cross_e (vec 6) (vec 9))) (scaled_e (dot_e (vec 0) (vec 6)) (cross_e (vec 9) (vec 3))))
      (scaled_e (dot_e (vec 0) (vec 9)) (cross_e (vec 3) (vec 6)))

  -- a sum of three multiples of 0
  none : (a b c : ℤ) → dot_of n u ≡ pos 0 → dot_of n v ≡ pos 0 → dot_of n t ≡ pos 0 → dot_of n u *ℤ a +ℤ dot_of n v *ℤ b +ℤ dot_of n t *ℤ c ≡ pos 0
  none a b c hu hv ht =
      (λ i. hu i *ℤ a +ℤ hv i *ℤ b +ℤ ht i *ℤ c) ∙ (λ i. zero-*ℤ a i +ℤ zero-*ℤ b i +ℤ zero-*ℤ c i)

  module _ (hu : dot_of n u ≡ pos 0) (hv : dot_of n v ≡ pos 0) (ht : dot_of n t ≡ pos 0) where
    by_x : dot_of u (cross_of v t) *ℤ n.x ≡ pos 0
    by_x = ring values (four_e :* var 0) sum_e.X tt ∙ none (cross_of v t).x (cross_of t u).x (cross_of u v).x hu hv ht

    by_y : dot_of u (cross_of v t) *ℤ n.y ≡ pos 0
    by_y = ring values (four_e :* var 1) sum_e.Y tt ∙ none (cross_of v t).y (cross_of t u).y (cross_of u v).y hu hv ht

    by_z : dot_of u (cross_of v t) *ℤ n.z ≡ pos 0
    by_z = ring values (four_e :* var 2) sum_e.Z tt ∙ none (cross_of v t).z (cross_of t u).z (cross_of u v).z hu hv ht

-- four points on one plane, whose normal has a coordinate that is not 0
pub one_plane : (n : Vector) (k : ℤ) (p q r s : GridPoint) → (n.x ≡ pos 0 → n.y ≡ pos 0 → n.z ≡ pos 0 → ⊥) →
    along n p ≡ k → along n q ≡ k → along n r ≡ k → along n s ≡ k → coplanar p q r s ≡ true
unfolding orient_of
one_plane n k p q r s h hp hq hr hs = go (coplanar p q r s) refl
  where
    hu : dot_of n (difference_of q p) ≡ pos 0
    hu = along_difference n p q (hq ∙ sym hp)

    hv : dot_of n (difference_of r p) ≡ pos 0
    hv = along_difference n p r (hr ∙ sym hp)

    ht : dot_of n (difference_of s p) ≡ pos 0
    ht = along_difference n p s (hs ∙ sym hp)

    go : (b : Bool) → coplanar p q r s ≡ b → b ≡ true
    go true e = refl
    go false e =
        let o = dot_of (difference_of q p) (cross_of (difference_of r p) (difference_of s p)) in
        let f : (o ≡ pos 0 → ⊥) = λ z. true≢false (sym (equal_is z) ∙ e) in
        absurd (h
        (no_divisor o n.x f (by_x n (difference_of q p) (difference_of r p) (difference_of s p) hu hv ht))
        (no_divisor o n.y f (by_y n (difference_of q p) (difference_of r p) (difference_of s p) hu hv ht))
        (no_divisor o n.z f (by_z n (difference_of q p) (difference_of r p) (difference_of s p) hu hv ht)))
