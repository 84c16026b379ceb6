-- No vertex lies in a candidate but at its corners: a vertex alone has a ball of its own, of radius 0, since no other stands at its grid point.
-- Assumes nothing.
use mathlib.Core.Path.{◌≡◌, refl, sym, ◌∙◌, ap, subst}
use mathlib.Core.Bool.{true}
use mathlib.Core.List.Memᴰ
use mathlib.Core.List.Memᴰ.{head}
use mathlib.Core.List.{List, [], ◌∷◌, Memᴰ}
use mathlib.Core.Logic.{inl, inr, ⊎_elim}
use Prim.Native.Nat.{ℕ, zero, suc, ◌<◌}
use native.Mathlib.Omega.{arith}
use borrow.Author.Tests.{lt-ltb}
use lib.IntN.{ℤ, pos, nat_abs, ◌+ℤ◌, ◌-ℤ◌, ◌*ℤ◌}
use lib.Signed.{lt_z}
use Rattle.integers.proofs.Laws.{sub_zero, one_mul}
use Rattle.integers.proofs.Ring.{var, con, ◌:+◌, ◌:*◌, ring}
use Rattle.lists.proofs.Choice.{Compared, less, same, more, compared}
use Rattle.geometry.specs.declared.Vector.{Vector}
use Rattle.geometry.specs.Vectors.{square_of, minus, scaled_by}
use Rattle.geometry.proofs.Squares.{square_size, zero_vector_lem}
use Rattle.geometry.proofs.Terms.{vec, dot_e, minus_e, scaled_e}
use Rattle.polygon.specs.declared.Polygon.{Polygon}
use Rattle.polygon.specs.Polygon.{vertex, ValidPolygon}
use Rattle.crossing.specs.Crossing.{corner_at, Meet}
use Rattle.crossing.proofs.Corners.{member_or_not, distinct_one}
use Rattle.crossing.proofs.Forms.{Mark, Supported, meeting}
use Rattle.crossing.proofs.Balls.{Ball, ball_clear}

module _ (p : Polygon) (valid : ValidPolygon p) (i : ℕ) (i<n : i < p.n) where
  abbrev here : Vector
  here = corner_at p i

  abbrev away : ℕ → Vector
  away j = minus (scaled_by (pos 1) (corner_at p j)) here

  zero_here : square_of (away i) ≡ pos 0
  zero_here = let d = minus_e (scaled_e (con (pos 1)) (vec 0)) (vec 0) in ring (here.x ∷ here.y ∷ here.z ∷ []) (dot_e d d) (con (pos 0)) tt

  -- another vertex is at another place
  elsewhere : (j : ℕ) → j < p.n → (j ≡ i → ⊥) → square_of (away j) ≡ pos 0 → ⊥
  elsewhere j h n e =
      let z = zero_vector_lem (away j) e in
      by (compared j i) (λ k. record {
        x = at (vertex p j).x (vertex p i).x z.0 k;
        y = at (vertex p j).y (vertex p i).y z.1 k;
        z = at (vertex p j).z (vertex p i).z z.2 k;
      })
    where
      at : (r s : ℤ) → pos 1 *ℤ r -ℤ s ≡ pos 0 → r ≡ s
      at r s q = sym (one_mul r) ∙ sub_zero (pos 1 *ℤ r) s q

      by : Compared j i → vertex p j ≡ vertex p i → ⊥
      by (less l) q = valid.distinct j i l i<n q
      by (same l) q = n l
      by (more l) q = valid.distinct i j l h (sym q)

  above_zero : (z : ℤ) (k : ℕ) → z ≡ pos k → (z ≡ pos 0 → ⊥) → lt_z (pos 0) z ≡ true
  above_zero z zero e h = absurd (h e)
  above_zero z (suc k) e h = ap (λ (x : ℤ). lt_z (pos 0) x) e ∙ lt-ltb 0 (suc k) (omega arith)

  farther : (j : ℕ) → j < p.n → (j ≡ i → ⊥) → lt_z (pos 0) (square_of (away j)) ≡ true
  farther j h n = above_zero (square_of (away j)) (nat_abs (square_of (away j))) (square_size (away j)) (elsewhere j h n)

  point_ball : Ball p (i ∷ [])
  point_ball = record {
    scale = pos 1;
    not_zero = λ e. let z : ◌≡◌ {A = ℕ} 1 0 = ap nat_abs e in omega arith;
    centre = here;
    radius = pos 0;
    on = λ j m. ap (λ (k : ℕ). square_of (away k)) (Memᴰ.eq_of_singleton m) ∙ zero_here;
    outside = λ j h. ⊎_elim inl (λ n. inr (farther j h (λ e. n (head e)))) (member_or_not j (i ∷ []));
  }

  -- the constant 1 marks the only vertex
  alone : (j : ℕ) → Memᴰ j (i ∷ []) → Mark p (i ∷ []) j
  alone j m = record {
    affine = record { linear = record { x = pos 0; y = pos 0; z = pos 0 }; constant = pos 1 };
    here = λ e. let z : ◌≡◌ {A = ℕ} 1 0 = ap nat_abs (sym one ∙ e) in omega arith;
    elsewhere = λ k h. inl (Memᴰ.eq_of_singleton h ∙ sym (Memᴰ.eq_of_singleton m));
  }
    where
      one : pos 0 *ℤ (corner_at p j).x +ℤ pos 0 *ℤ (corner_at p j).y +ℤ pos 0 *ℤ (corner_at p j).z +ℤ pos 1 ≡ pos 1
      one =
          ring ((corner_at p j).x ∷ (corner_at p j).y ∷ (corner_at p j).z ∷ [])
          (con (pos 0) :* var 0 :+ con (pos 0) :* var 1 :+ con (pos 0) :* var 2 :+ con (pos 1)) (con (pos 1)) tt

  vertex_supported : Supported p (i ∷ [])
  vertex_supported = record {
    zeros = i ∷ [];
    clear = ball_clear p (i ∷ []) point_ball (λ j m. subst (λ (k : ℕ). k < p.n) (sym (Memᴰ.eq_of_singleton m)) i<n) alone;
    part = λ j m. m;
    distinct = distinct_one i;
  }

  -- a vertex that lies in a candidate is a corner of it
  pub lies_at_corner : (t : List ℕ) → Supported p t → (v w : ℕ → ℕ) → Meet p t (i ∷ []) v w → Memᴰ i t
  lies_at_corner t s v w m = (meeting p t (i ∷ []) s vertex_supported v w m).1 i (head refl) (omega (arith, m.not_all_zero, m.equal_sums))
