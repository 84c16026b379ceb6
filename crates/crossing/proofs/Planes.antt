-- The plane through three points as an affine function: it marks a vertex off the plane. So four vertices not in one plane, and three not on
-- one line, are affinely independent. Assumes nothing.
use mathlib.Core.Path.{◌≡◌, sym, ◌∙◌, ap, subst}
use mathlib.Core.List.Memᴰ.{head}
use mathlib.Core.List.Memᴰ.{tail}
use mathlib.Core.List.{List, [], ◌∷◌, Memᴰ}
use mathlib.Core.Logic.{◌⊎◌, inl, inr, ⊎_elim}
use Prim.Native.Nat.{ℕ}
use lib.IntN.{ℤ, pos, ◌+ℤ◌, ◌-ℤ◌, ◌*ℤ◌}
use Rattle.integers.proofs.Laws.{sub_zero}
use Rattle.integers.proofs.Ring.{E, con, ◌:+◌, ◌:-◌, ring}
use Rattle.grid.specs.declared.GridPoint.{GridPoint}
use Rattle.polygon.specs.declared.Polygon.{Polygon}
use Rattle.geometry.specs.declared.Vector.{Vector}
use Rattle.geometry.specs.Vectors.{difference_of, dot_of, cross_of, square_of}
use Rattle.geometry.specs.Faces.{normal_of}
use Rattle.geometry.specs.Spheres.{orient_of}
use Rattle.geometry.proofs.Terms.{VectorE, vec, dot_e, cross_e, plus_e, minus_e, orient_e, of_points}
use Rattle.geometry.proofs.Corners.{orient_swap_pq, orient_swap_qr, orient_swap_rs}
use Rattle.terms.specs.Entries.{triple}
use Rattle.polygon.specs.Polygon.{vertex}
use Rattle.crossing.specs.Crossing.{corner_at}
use Rattle.crossing.proofs.Corners.{three_cases, four_cases}
use Rattle.crossing.proofs.Forms.{Affine, affine_at, Mark}

module _ (q r s : GridPoint) where
  abbrev slope : Vector
  slope = cross_of (difference_of r q) (difference_of s q)

  -- 0 on the plane through q, r and s
  abbrev plane_of : Affine
  plane_of = record { linear = slope; constant = pos 0 -ℤ (slope.x *ℤ q.x +ℤ slope.y *ℤ q.y +ℤ slope.z *ℤ q.z) }

  abbrev slope_e : VectorE
  slope_e = cross_e (minus_e (vec 6) (vec 0)) (minus_e (vec 9) (vec 0))

  plane_is : (p : Polygon) (i : ℕ) → affine_at plane_of (corner_at p i) ≡ orient_of q (vertex p i) r s
  unfolding orient_of
  plane_is p i = ring (of_points q (vertex p i) r s) (dot_e slope_e (vec 3) :+ (con (pos 0) :- dot_e slope_e (vec 0)))
      (orient_e (minus_e (vec 3) (vec 0)) (minus_e (vec 6) (vec 0)) (minus_e (vec 9) (vec 0))) tt

  -- its points
  orient_at : VectorE → E
  orient_at w = orient_e (minus_e w (vec 0)) (minus_e (vec 6) (vec 0)) (minus_e (vec 9) (vec 0))

  at_q : orient_of q q r s ≡ pos 0
  unfolding orient_of orient_at
  at_q = ring (of_points q q r s) (orient_at (vec 0)) (con (pos 0)) tt

  at_r : orient_of q r r s ≡ pos 0
  unfolding orient_of orient_at
  at_r = ring (of_points q q r s) (orient_at (vec 6)) (con (pos 0)) tt

  at_s : orient_of q s r s ≡ pos 0
  unfolding orient_of orient_at
  at_s = ring (of_points q q r s) (orient_at (vec 9)) (con (pos 0)) tt

-- the plane through q, r and s marks vertex i of l, where i is off it and all others of l are on it
plane_mark : (p : Polygon) (l : List ℕ) (i : ℕ) (q r s : GridPoint) →
    (orient_of q (vertex p i) r s ≡ pos 0 → ⊥) → ((j : ℕ) → Memᴰ j l → (j ≡ i) ⊎ (orient_of q (vertex p j) r s ≡ pos 0)) → Mark p l i
plane_mark p l i q r s off on = record {
  affine = plane_of q r s;
  here = λ z. off (sym (plane_is q r s p i) ∙ z);
  elsewhere = λ j m. ⊎_elim inl (λ z. inr (plane_is q r s p j ∙ z)) (on j m);
}

-- what is not 0 has an opposite that is not 0
opposite_not_zero : {o z : ℤ} → z ≡ pos 0 -ℤ o → (o ≡ pos 0 → ⊥) → z ≡ pos 0 → ⊥
opposite_not_zero {o} e h k = h (sym (sub_zero (pos 0) o (sym e ∙ k)))

-- ---- four vertices not in one plane
module _ (p : Polygon) where
  abbrev pt : ℕ → GridPoint
  pt i = vertex p i

  on_plane : (q r s j : ℕ) → Memᴰ j (triple q r s) → orient_of (pt q) (pt j) (pt r) (pt s) ≡ pos 0
  on_plane q r s j m =
      three_cases m
      (λ e. ap (λ (i : ℕ). orient_of (pt q) (pt i) (pt r) (pt s)) e ∙ at_q (pt q) (pt r) (pt s))
      (λ e. ap (λ (i : ℕ). orient_of (pt q) (pt i) (pt r) (pt s)) e ∙ at_r (pt q) (pt r) (pt s))
      (λ e. ap (λ (i : ℕ). orient_of (pt q) (pt i) (pt r) (pt s)) e ∙ at_s (pt q) (pt r) (pt s))

  -- the plane through three of them marks the fourth
  fourth : (l : List ℕ) (i q r s : ℕ) → (orient_of (pt q) (pt i) (pt r) (pt s) ≡ pos 0 → ⊥) → ((j : ℕ) → Memᴰ j l → (j ≡ i) ⊎ Memᴰ j (triple q r s))
      → Mark p l i
  fourth l i q r s off rest = plane_mark p l i (pt q) (pt r) (pt s) off (λ j m. ⊎_elim inl (λ h. inr (on_plane q r s j h)) (rest j m))

  module _ (a b c d : ℕ) (solid : orient_of (pt a) (pt b) (pt c) (pt d) ≡ pos 0 → ⊥) where
    abbrev four : List ℕ
    four = a ∷ b ∷ c ∷ d ∷ []

    mark_a : Mark p four a
    mark_a = fourth four a b c d (opposite_not_zero (orient_swap_pq (pt a) (pt b) (pt c) (pt d)) solid)
        (λ j m. four_cases m inl (λ e. inr (head e)) (λ e. inr (tail (head e))) (λ e. inr (tail (tail (head e)))))

    mark_b : Mark p four b
    mark_b = fourth four b a c d solid
        (λ j m. four_cases m (λ e. inr (head e)) inl (λ e. inr (tail (head e))) (λ e. inr (tail (tail (head e)))))

    mark_c : Mark p four c
    mark_c = fourth four c a b d (opposite_not_zero (orient_swap_qr (pt a) (pt b) (pt c) (pt d)) solid)
        (λ j m. four_cases m (λ e. inr (head e)) (λ e. inr (tail (head e))) inl (λ e. inr (tail (tail (head e)))))

    mark_d : Mark p four d
    mark_d = fourth four d a b c (opposite_not_zero (orient_swap_qr (pt a) (pt b) (pt d) (pt c))
        (opposite_not_zero (orient_swap_rs (pt a) (pt b) (pt c) (pt d)) solid))
        (λ j m. four_cases m (λ e. inr (head e)) (λ e. inr (tail (head e))) (λ e. inr (tail (tail (head e)))) inl)

    pub four_independent : (i : ℕ) → Memᴰ i four → Mark p four i
    four_independent i m = four_cases m (at mark_a) (at mark_b) (at mark_c) (at mark_d)
      where
        at : {k : ℕ} → Mark p four k → i ≡ k → Mark p four i
        at h e = subst (λ (x : ℕ). Mark p four x) (sym e) h

-- ---- three vertices not on one line

-- q moved by a vector
abbrev moved : GridPoint → Vector → GridPoint
moved q n = record { x = q.x +ℤ n.x; y = q.y +ℤ n.y; z = q.z +ℤ n.z }

-- the plane through q and r along n
along_is : (q w r : GridPoint) (n : Vector) → orient_of q w r (moved q n) ≡ dot_of n (normal_of q w r)
unfolding orient_of
along_is q w r n =
    ring (q.x ∷ q.y ∷ q.z ∷ w.x ∷ w.y ∷ w.z ∷ r.x ∷ r.y ∷ r.z ∷ n.x ∷ n.y ∷ n.z ∷ [])
    (orient_e (minus_e (vec 3) (vec 0)) (minus_e (vec 6) (vec 0)) (minus_e (plus_e (vec 0) (vec 9)) (vec 0)))
    (dot_e (vec 9) (cross_e (minus_e (vec 3) (vec 0)) (minus_e (vec 6) (vec 0)))) tt

module _ (q r s : GridPoint) where
  abbrev normal_e : VectorE → VectorE → VectorE → VectorE
  normal_e a b c = cross_e (minus_e b a) (minus_e c a)

  normal_swap_qr : dot_of (normal_of q r s) (normal_of r q s) ≡ pos 0 -ℤ square_of (normal_of q r s)
  normal_swap_qr = ring (of_points q r s q) (dot_e (normal_e (vec 0) (vec 3) (vec 6)) (normal_e (vec 3) (vec 0) (vec 6)))
      (con (pos 0) :- dot_e (normal_e (vec 0) (vec 3) (vec 6)) (normal_e (vec 0) (vec 3) (vec 6))) tt

  normal_swap_rs : dot_of (normal_of q r s) (normal_of q s r) ≡ pos 0 -ℤ square_of (normal_of q r s)
  normal_swap_rs = ring (of_points q r s q) (dot_e (normal_e (vec 0) (vec 3) (vec 6)) (normal_e (vec 0) (vec 6) (vec 3)))
      (con (pos 0) :- dot_e (normal_e (vec 0) (vec 3) (vec 6)) (normal_e (vec 0) (vec 3) (vec 6))) tt

module _ (p : Polygon) (a b c : ℕ) (bent : square_of (normal_of (vertex p a) (vertex p b) (vertex p c)) ≡ pos 0 → ⊥) where
  abbrev three : List ℕ
  three = triple a b c

  abbrev normal : Vector
  normal = normal_of (vertex p a) (vertex p b) (vertex p c)

  -- the plane through two of them along the normal marks the third
  third : (i q r : ℕ) → (dot_of normal (normal_of (vertex p q) (vertex p i) (vertex p r)) ≡ pos 0 → ⊥)
      → ((j : ℕ) → Memᴰ j three → (j ≡ i) ⊎ ((j ≡ q) ⊎ (j ≡ r))) → Mark p three i
  third i q r off rest =
      plane_mark p three i Q R S (λ z. off (sym (along_is Q (vertex p i) R normal) ∙ z))
      (λ j m. ⊎_elim inl (λ h. inr (⊎_elim (λ e. ap (λ (k : ℕ). orient_of Q (vertex p k) R S) e ∙ at_q Q R S)
      (λ e. ap (λ (k : ℕ). orient_of Q (vertex p k) R S) e ∙ at_r Q R S) h)) (rest j m))
    where
      Q : GridPoint
      Q = vertex p q

      R : GridPoint
      R = vertex p r

      S : GridPoint
      S = moved Q normal

  pub three_independent : (i : ℕ) → Memᴰ i three → Mark p three i
  three_independent i m =
      three_cases m
      (at (third a b c (opposite_not_zero (normal_swap_qr (vertex p a) (vertex p b) (vertex p c)) bent)
      (λ j h. three_cases h inl (λ e. inr (inl e)) (λ e. inr (inr e)))))
      (at (third b a c bent (λ j h. three_cases h (λ e. inr (inl e)) inl (λ e. inr (inr e)))))
      (at (third c a b (opposite_not_zero (normal_swap_rs (vertex p a) (vertex p b) (vertex p c)) bent)
      (λ j h. three_cases h (λ e. inr (inl e)) (λ e. inr (inr e)) inl)))
    where
      at : {k : ℕ} → Mark p three k → i ≡ k → Mark p three i
      at h e = subst (λ (x : ℕ). Mark p three x) (sym e) h
