-- Points are in one plane exactly where every four of them are. Assumes nothing.
use mathlib.Core.Path.{◌≡◌, refl, sym, ◌∙◌, ap, subst}
use mathlib.Core.List.{[], ◌∷◌}
use mathlib.Core.Bool.{Bool, true, false, not}
use Prim.Native.Nat.{ℕ, zero, suc, ◌+◌, ◌<◌}
use native.Mathlib.Omega.{arith}
use lib.IntN.{ℤ, pos, ◌+ℤ◌, ◌-ℤ◌, ◌*ℤ◌}
use Rattle.grid.specs.declared.GridPoint.{GridPoint}
use Rattle.geometry.specs.declared.Vector.{Vector}
use Rattle.integers.specs.Order.{equal}
use Rattle.integers.proofs.Laws.{sub_zero}
use Rattle.integers.proofs.Order.{equal_is, equal_yes, true≢false}
use Rattle.integers.proofs.Ring.{E, var, con, ◌:-◌, ring}
use Rattle.geometry.specs.Vectors.{difference_of, dot_of, cross_of, square_of}
use Rattle.geometry.specs.Spheres.{orient_of, coplanar}
use Rattle.geometry.specs.Faces.{normal_of}
use Rattle.geometry.proofs.Terms.{VectorE, vec, dot_e, cross_e, minus_e, orient_e, of_vectors, of_points}
use Rattle.lists.specs.Lists.{some}
use Rattle.lists.proofs.Choice.{Truth, holds, fails, truth, Compared, less, same, more, compared, fails_via, not_false_true}
use Rattle.lists.proofs.Ranges.{some_found, some_none, some_here}
use Rattle.geometry.proofs.Squares.{vanishes}
use Rattle.planar.specs.Circles.{collinear}
use Rattle.planar.specs.Planes.{InOnePlane, OnOneLine}
use Rattle.planar.proofs.Zero.{zero_square}
use Rattle.planar.proofs.Seen.{on_plane}
use Rattle.planar.proofs.OnePlane.{one_plane}
use Rattle.planar.proofs.Lines.{threes_line, square_first, square_second}

-- every four of the first n points are in one plane
pub record FoursInPlane (at : ℕ → GridPoint) (n : ℕ) : Type 0 where
  pub four : (i j k l : ℕ) → i < j → j < k → k < l → l < n → coplanar (at i) (at j) (at k) (at l) ≡ true

-- ---- from the plane to the fours

-- in any order, the same point more than once too
pub plane_any : (at : ℕ → GridPoint) (n : ℕ) → InOnePlane at n → (i j k l : ℕ) → i < n → j < n → k < n → l < n → coplanar (at i) (at j) (at k) (at l) ≡ true
plane_any at n h i j k l p q r s =
    one_plane (record { x = h.a; y = h.b; z = h.c }) h.d (at i) (at j) (at k) (at l) h.proper (h.lies i p) (h.lies j q) (h.lies k r) (h.lies l s)

pub plane_fours : (at : ℕ → GridPoint) (n : ℕ) → InOnePlane at n → FoursInPlane at n
plane_fours at n h = record { four = λ i j k l p q r s. plane_any at n h i j k l (omega arith) (omega arith) (omega arith) s }

-- ---- planes

-- the plane through o with the normal m, where m is square to every difference from o
plane_through : (at : ℕ → GridPoint) (n : ℕ) (m : Vector) (o : GridPoint) → (m.x ≡ pos 0 → m.y ≡ pos 0 → m.z ≡ pos 0 → ⊥) →
    ((l : ℕ) → l < n → dot_of m (difference_of (at l) o) ≡ pos 0) → InOnePlane at n
plane_through at n m o h k = record {
  a = m.x;
  b = m.y;
  c = m.z;
  d = m.x *ℤ o.x +ℤ m.y *ℤ o.y +ℤ m.z *ℤ o.z;
  proper = h;
  lies = λ l b. sub_zero _ _ (spread (at l) ∙ k l b);
}
  where
    spread : (q : GridPoint) → (m.x *ℤ q.x +ℤ m.y *ℤ q.y +ℤ m.z *ℤ q.z) -ℤ (m.x *ℤ o.x +ℤ m.y *ℤ o.y +ℤ m.z *ℤ o.z) ≡ dot_of m (difference_of q o)
    spread q =
        ring (m.x ∷ m.y ∷ m.z ∷ q.x ∷ q.y ∷ q.z ∷ o.x ∷ o.y ∷ o.z ∷ [])
        (dot_e (vec 0) (vec 3) :- dot_e (vec 0) (vec 6)) (dot_e (vec 0) (minus_e (vec 3) (vec 6))) tt

-- ---- the plane of three points that are not on one line

abbrev OnPlane : GridPoint → GridPoint → GridPoint → GridPoint → Type 0
OnPlane p q r s = dot_of (normal_of p q r) (difference_of s p) ≡ pos 0

-- s lies in the plane of p, q and r, where the four are in one plane in any order, and where it is one of the three
module _ (p q r s : GridPoint) where
  abbrev on_plane_e : VectorE → E
  on_plane_e a = dot_e (cross_e (minus_e (vec 3) (vec 0)) (minus_e (vec 6) (vec 0))) (minus_e a (vec 0))

  abbrev orient_at_e : VectorE → VectorE → VectorE → VectorE → E
  orient_at_e a b c d = orient_e (minus_e b a) (minus_e c a) (minus_e d a)

  orient_zero : (a b c d : GridPoint) → coplanar a b c d ≡ true → orient_of a b c d ≡ pos 0
  orient_zero a b c d h = equal_yes (orient_of a b c d) (pos 0) h

  on_plane_third : coplanar p q s r ≡ true → OnPlane p q r s
  unfolding orient_of
  on_plane_third h =
      ring (of_points p q r s) (on_plane_e (vec 9)) (con (pos 0) :- orient_at_e (vec 0) (vec 3) (vec 9) (vec 6)) tt
      ∙ ap (λ (z : ℤ). pos 0 -ℤ z) (orient_zero p q s r h)

  on_plane_second : coplanar p s q r ≡ true → OnPlane p q r s
  unfolding orient_of
  on_plane_second h = ring (of_points p q r s) (on_plane_e (vec 9)) (orient_at_e (vec 0) (vec 9) (vec 3) (vec 6)) tt ∙ orient_zero p s q r h

  on_plane_first : coplanar s p q r ≡ true → OnPlane p q r s
  unfolding orient_of
  on_plane_first h =
      ring (of_points p q r s) (on_plane_e (vec 9)) (con (pos 0) :- orient_at_e (vec 9) (vec 0) (vec 3) (vec 6)) tt
      ∙ ap (λ (z : ℤ). pos 0 -ℤ z) (orient_zero s p q r h)

  on_plane_p : OnPlane p q r p
  on_plane_p = ring (of_points p q r s) (on_plane_e (vec 0)) (con (pos 0)) tt

  on_plane_q : OnPlane p q r q
  on_plane_q = ring (of_points p q r s) (on_plane_e (vec 3)) (con (pos 0)) tt

  on_plane_r : OnPlane p q r r
  on_plane_r = ring (of_points p q r s) (on_plane_e (vec 6)) (con (pos 0)) tt

-- so is point l with points i < j < k of a row, wherever it stands among them
on_plane_among : (at : ℕ → GridPoint) (i j k l : ℕ) →
    (l < i → coplanar (at l) (at i) (at j) (at k) ≡ true) → (i < l → l < j → coplanar (at i) (at l) (at j) (at k) ≡ true) →
    (j < l → l < k → coplanar (at i) (at j) (at l) (at k) ≡ true) → (k < l → coplanar (at i) (at j) (at k) (at l) ≡ true) → OnPlane (at i) (at j) (at k) (at l)
on_plane_among at i j k l first second third last = go (compared l i) (compared l j) (compared l k)
  where
    moved : {m : ℕ} → l ≡ m → OnPlane (at i) (at j) (at k) (at m) → OnPlane (at i) (at j) (at k) (at l)
    moved e f = subst (λ (x : ℕ). OnPlane (at i) (at j) (at k) (at x)) (sym e) f

    go : Compared l i → Compared l j → Compared l k → OnPlane (at i) (at j) (at k) (at l)
    go (less a) b c = on_plane_first (at i) (at j) (at k) (at l) (first a)
    go (same a) b c = moved a (on_plane_p (at i) (at j) (at k) (at l))
    go (more a) (less b) c = on_plane_second (at i) (at j) (at k) (at l) (second a b)
    go (more a) (same b) c = moved b (on_plane_q (at i) (at j) (at k) (at l))
    go (more a) (more b) (less c) = on_plane_third (at i) (at j) (at k) (at l) (third b c)
    go (more a) (more b) (same c) = moved c (on_plane_r (at i) (at j) (at k) (at l))
    go (more a) (more b) (more c) = on_plane (at i) (at j) (at k) (at l) (last c)

-- the plane of three points that are not on one line holds each point that is on it
plane_of_three : (at : ℕ → GridPoint) (n : ℕ) (p q r : GridPoint) → collinear p q r ≡ false → ((l : ℕ) → l < n → OnPlane p q r (at l)) → InOnePlane at n
plane_of_three at n p q r f h = plane_through at n (normal_of p q r) p (λ ex ey ez. true≢false (sym (equal_is (zero_square (normal_of p q r) ex ey ez)) ∙ f)) h

-- ---- the plane of points on one line

-- square to d, and so to each multiple e of it
module _ (d e : Vector) where
  abbrev square_z : Vector
  square_z = record { x = d.y; y = pos 0 -ℤ d.x; z = pos 0 }

  abbrev square_x : Vector
  square_x = record { x = pos 0; y = d.z; z = pos 0 -ℤ d.y }

  dot_square_z : dot_of square_z e ≡ pos 0 -ℤ (cross_of d e).z
  dot_square_z =
      ring (of_vectors d e e) (dot_e (record { X = var 1; Y = con (pos 0) :- var 0; Z = con (pos 0) }) (vec 3))
      (con (pos 0) :- (cross_e (vec 0) (vec 3)).Z) tt

  dot_square_x : dot_of square_x e ≡ pos 0 -ℤ (cross_of d e).x
  dot_square_x =
      ring (of_vectors d e e) (dot_e (record { X = con (pos 0); Y = var 2; Z = con (pos 0) :- var 1 }) (vec 3))
      (con (pos 0) :- (cross_e (vec 0) (vec 3)).X) tt

-- a plane along the line
pub line_plane : (at : ℕ → GridPoint) (n : ℕ) → OnOneLine at n → InOnePlane at n
line_plane at n h = go (truth (equal d.x (pos 0))) (truth (equal d.y (pos 0)))
  where
    d : Vector
    d = h.direction

    o : GridPoint
    o = h.point

    by_z : (d.x ≡ pos 0 → d.y ≡ pos 0 → ⊥) → InOnePlane at n
    by_z f =
        plane_through at n (square_z d d) o (λ ex ey ez. f (sym (sub_zero (pos 0) d.x ey)) ex)
        (λ l b. dot_square_z d (difference_of (at l) o) ∙ ap (λ (v : Vector). pos 0 -ℤ v.z) (h.lies l b))

    by_x : d.x ≡ pos 0 → d.y ≡ pos 0 → InOnePlane at n
    by_x f g =
        plane_through at n (square_x d d) o (λ ex ey ez. h.proper (λ i. record { x = f i; y = g i; z = ey i }))
        (λ l b. dot_square_x d (difference_of (at l) o) ∙ ap (λ (v : Vector). pos 0 -ℤ v.x) (h.lies l b))

    go : Truth (equal d.x (pos 0)) → Truth (equal d.y (pos 0)) → InOnePlane at n
    go (holds ex) (holds ey) = by_x (equal_yes d.x (pos 0) ex) (equal_yes d.y (pos 0) ey)
    go (holds ex) (fails ey) = by_z (λ f g. true≢false (sym (equal_is g) ∙ ey))
    go (fails ex) t = by_z (λ f g. true≢false (sym (equal_is f) ∙ ex))

-- ---- from the fours to the plane

module _ (at : ℕ → GridPoint) (n : ℕ) where
  -- some three are not on one line
  abbrev some_off_line : Bool
  some_off_line = some 0 n (λ i. some (i + 1) n (λ j. some (j + 1) n (λ k. not (collinear (at i) (at j) (at k)))))

  pub fours_plane : FoursInPlane at n → InOnePlane at n
  fours_plane h = go (truth some_off_line)
    where
      go : Truth some_off_line → InOnePlane at n
      go (holds e) =
          let f = some_found 0 n _ e in
          let g = some_found (f.at + 1) n _ f.true_at in
          let t = some_found (g.at + 1) n _ g.true_at in
          let i<j : f.at < g.at = omega (arith, g.low) in
          let j<k : g.at < t.at = omega (arith, t.low) in
          plane_of_three at n (at f.at) (at g.at) (at t.at) (fails_via refl t.true_at) (λ l b.
          on_plane_among at f.at g.at t.at l
          (λ a. h.four l f.at g.at t.at a i<j j<k t.high) (λ a c. h.four f.at l g.at t.at a c j<k t.high)
          (λ a c. h.four f.at g.at l t.at i<j a c t.high) (λ a. h.four f.at g.at t.at l i<j j<k a b))
      go (fails e) =
          line_plane at n (threes_line at n (record {
            three = λ i j k p q r. not_false_true (collinear (at i) (at j) (at k)) (λ f.
                some_none 0 n _ e i (omega arith) (omega arith)
                (some_here (i + 1) n _ j (omega arith) (omega arith) (some_here (j + 1) n _ k (omega arith) (omega arith) (ap not f))));
          }))

-- ---- from the pairs that are in one plane with two points

module _ (at : ℕ → GridPoint) (n : ℕ) (apart : at 0 ≡ at 1 → ⊥) (pairs : (k l : ℕ) → 1 < k → k < l → l < n → coplanar (at 0) (at 1) (at k) (at l) ≡ true) where
  abbrev off_line : ℕ → Bool
  off_line k = not (collinear (at 0) (at 1) (at k))

  -- a point that is not on their line: its plane with them holds every other
  by_three : (k : ℕ) → 1 < k → k < n → collinear (at 0) (at 1) (at k) ≡ false → InOnePlane at n
  by_three k 1<k k<n f =
      plane_of_three at n (at 0) (at 1) (at k) f (λ l b.
      on_plane_among at 0 1 k l (λ h. absurd (omega arith)) (λ h i. absurd (omega arith)) (λ h i. pairs l k h i k<n) (λ h. pairs k l 1<k h b))

  -- every point is on their line
  by_line : ((k : ℕ) → 1 < k → k < n → collinear (at 0) (at 1) (at k) ≡ true) → InOnePlane at n
  by_line h = line_plane at n (record {
    point = at 0;
    direction = difference_of (at 1) (at 0);
    proper = λ e. apart (sym (λ i. record {
      x = sub_zero (at 1).x (at 0).x (ap (λ (v : Vector). v.x) e) i;
      y = sub_zero (at 1).y (at 0).y (ap (λ (v : Vector). v.y) e) i;
      z = sub_zero (at 1).z (at 0).z (ap (λ (v : Vector). v.z) e) i;
    }));
    lies = λ l b. vanishes (normal_of (at 0) (at 1) (at l)) (on l b);
  })
    where
      on : (l : ℕ) → l < n → square_of (normal_of (at 0) (at 1) (at l)) ≡ pos 0
      on zero b = square_first (at 0) (at 1) (at 0)
      on (suc zero) b = square_second (at 0) (at 1) (at 0)
      on (suc (suc l)) b = equal_yes (square_of (normal_of (at 0) (at 1) (at (suc (suc l))))) (pos 0) (h (suc (suc l)) (omega arith) b)

  pub pairs_plane : InOnePlane at n
  pairs_plane = go (truth (some 2 n off_line))
    where
      go : Truth (some 2 n off_line) → InOnePlane at n
      go (holds e) = let f = some_found 2 n off_line e in by_three f.at (omega (arith, f.low)) f.high (fails_via refl f.true_at)
      go (fails e) = by_line (λ k l m. not_false_true (collinear (at 0) (at 1) (at k)) (λ f. some_none 2 n off_line e k (omega arith) m (ap not f)))
