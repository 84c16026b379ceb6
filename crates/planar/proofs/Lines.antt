-- Points are on one line exactly where every three of them are. Assumes nothing.
use mathlib.Core.Path.{◌≡◌, refl, sym, ◌∙◌, ap, subst}
use mathlib.Core.List.{List, [], ◌∷◌}
use mathlib.Core.Bool.{Bool, true, false, not}
use Prim.Native.Nat.{ℕ, zero, suc, ◌<◌}
use native.Mathlib.Omega.{arith}
use lib.IntN.{ℤ, pos, nat_abs}
use Rattle.grid.specs.declared.GridPoint.{GridPoint}
use Rattle.geometry.specs.declared.Vector.{Vector}
use Rattle.integers.specs.Order.{equal}
use Rattle.integers.proofs.Order.{equal_is, equal_yes, no_divisor, true≢false}
use Rattle.integers.proofs.Ring.{E, con, ring}
use Rattle.geometry.specs.Vectors.{difference_of, dot_of, cross_of, square_of, scaled_by, minus, zero_vector}
use Rattle.geometry.specs.Faces.{normal_of}
use Rattle.geometry.proofs.Terms.{VectorE, vec, dot_e, cross_e, scaled_e, minus_e, of_vectors, of_points}
use Rattle.lists.specs.Lists.{some}
use Rattle.lists.proofs.Choice.{Truth, holds, fails, truth, Compared, less, same, more, compared, fails_via, not_false_true}
use Rattle.lists.proofs.Ranges.{some_found, some_none}
use Rattle.geometry.proofs.Squares.{vanishes}
use Rattle.planar.specs.Circles.{collinear}
use Rattle.planar.specs.Planes.{OnOneLine}
use Rattle.planar.proofs.Zero.{vanished}

-- every three of the first n points are on one line
pub record ThreesOnLine (at : ℕ → GridPoint) (n : ℕ) : Type 0 where
  pub three : (i j k : ℕ) → i < j → j < k → k < n → collinear (at i) (at j) (at k) ≡ true

-- ---- from the line to the threes

-- two vectors along d are along each other: |d|² (u × v) by d × u and d × v
module _ (d u v : Vector) where
  abbrev crossed_e : VectorE
  crossed_e = minus_e (scaled_e (dot_e (vec 0) (vec 3)) (cross_e (vec 0) (vec 6))) (cross_e (cross_e (vec 0) (cross_e (vec 0) (vec 3))) (vec 6))

  abbrev times_e : VectorE
  times_e = scaled_e (dot_e (vec 0) (vec 0)) (cross_e (vec 3) (vec 6))

  crossed : scaled_by (square_of d) (cross_of u v) ≡ minus (scaled_by (dot_of d u) (cross_of d v)) (cross_of (cross_of d (cross_of d u)) v)
  crossed = λ i. record {
    x = ring (of_vectors d u v) times_e.X crossed_e.X tt i;
    y = ring (of_vectors d u v) times_e.Y crossed_e.Y tt i;
    z = ring (of_vectors d u v) times_e.Z crossed_e.Z tt i;
  }

  gone : minus (scaled_by (dot_of d u) zero_vector) (cross_of (cross_of d zero_vector) v) ≡ zero_vector
  gone =
      let a = minus_e (scaled_e (dot_e (vec 0) (vec 3)) none_e) (cross_e (cross_e (vec 0) none_e) (vec 6)) in
      λ i. record {
        x = ring (of_vectors d u v) a.X (con (pos 0)) tt i;
        y = ring (of_vectors d u v) a.Y (con (pos 0)) tt i;
        z = ring (of_vectors d u v) a.Z (con (pos 0)) tt i;
      }
    where
      none_e : VectorE
      none_e = record { X = con (pos 0); Y = con (pos 0); Z = con (pos 0) }

  parallel : (d ≡ zero_vector → ⊥) → cross_of d u ≡ zero_vector → cross_of d v ≡ zero_vector → cross_of u v ≡ zero_vector
  parallel h hu hv =
      let e = crossed ∙ (λ i. minus (scaled_by (dot_of d u) (hv i)) (cross_of (cross_of d (hu i)) v)) ∙ gone in
      let f : (square_of d ≡ pos 0 → ⊥) = λ z. h (vanishes d z) in
      λ i. record {
        x = no_divisor (square_of d) (cross_of u v).x f (ap (λ (w : Vector). w.x) e) i;
        y = no_divisor (square_of d) (cross_of u v).y f (ap (λ (w : Vector). w.y) e) i;
        z = no_divisor (square_of d) (cross_of u v).z f (ap (λ (w : Vector). w.z) e) i;
      }

-- a difference of two points of a line
between : (d : Vector) (o p q : GridPoint) → cross_of d (difference_of p o) ≡ zero_vector → cross_of d (difference_of q o) ≡ zero_vector →
    cross_of d (difference_of q p) ≡ zero_vector
between d o p q hp hq =
    (λ i. record { x = ring known a.X b.X tt i; y = ring known a.Y b.Y tt i; z = ring known a.Z b.Z tt i })
    ∙ (λ i. minus (hq i) (hp i))
  where
    known : List ℤ
    known = d.x ∷ d.y ∷ d.z ∷ o.x ∷ o.y ∷ o.z ∷ p.x ∷ p.y ∷ p.z ∷ q.x ∷ q.y ∷ q.z ∷ []

    a : VectorE
    a = cross_e (vec 0) (minus_e (vec 9) (vec 6))

    b : VectorE
    b = minus_e (cross_e (vec 0) (minus_e (vec 9) (vec 3))) (cross_e (vec 0) (minus_e (vec 6) (vec 3)))

pub line_threes : (at : ℕ → GridPoint) (n : ℕ) → OnOneLine at n → ThreesOnLine at n
line_threes at n h = record {
  three = λ i j k p q r.
      let d = h.direction in
      let from : (l : ℕ) → l < n → cross_of d (difference_of (at l) (at i)) ≡ zero_vector =
      λ l b. between d h.point (at i) (at l) (h.lies i (omega arith)) (h.lies l b) in
      equal_is (vanished (normal_of (at i) (at j) (at k))
      (parallel d (difference_of (at j) (at i)) (difference_of (at k) (at i)) h.proper (from j (omega arith)) (from k r)));
}

-- ---- from the threes to the line

-- the squared normal of three points of which two are the same, and of three in another order
module _ (p q r : GridPoint) where
  abbrev square_e : VectorE → VectorE → E
  square_e b c = let n = cross_e (minus_e b (vec 0)) (minus_e c (vec 0)) in dot_e n n

  pub square_first : square_of (normal_of p q p) ≡ pos 0
  square_first = ring (of_points p q r r) (square_e (vec 3) (vec 0)) (con (pos 0)) tt

  pub square_second : square_of (normal_of p q q) ≡ pos 0
  square_second = ring (of_points p q r r) (square_e (vec 3) (vec 3)) (con (pos 0)) tt

  square_swap : square_of (normal_of p q r) ≡ square_of (normal_of p r q)
  square_swap = ring (of_points p q r r) (square_e (vec 3) (vec 6)) (square_e (vec 6) (vec 3)) tt

  square_self : square_of (difference_of p p) ≡ pos 0
  square_self = ring (of_points p q r r) (dot_e (minus_e (vec 0) (vec 0)) (minus_e (vec 0) (vec 0))) (con (pos 0)) tt

-- where every three are on one line
module _ (at : ℕ → GridPoint) (n : ℕ) (h : ThreesOnLine at n) where
  -- l is on the line of 0 and j
  on_line : (j : ℕ) → 0 < j → j < n → (l : ℕ) → l < n → square_of (normal_of (at 0) (at j) (at l)) ≡ pos 0
  on_line j 0<j j<n l l<n = go (compared l 0) (compared l j)
    where
      moved : {m : ℕ} → l ≡ m → square_of (normal_of (at 0) (at j) (at m)) ≡ pos 0 → square_of (normal_of (at 0) (at j) (at l)) ≡ pos 0
      moved e f = subst (λ (x : ℕ). square_of (normal_of (at 0) (at j) (at x)) ≡ pos 0) (sym e) f

      go : Compared l 0 → Compared l j → square_of (normal_of (at 0) (at j) (at l)) ≡ pos 0
      go (less a) b = absurd (omega arith)
      go (same a) b = moved a (square_first (at 0) (at j) (at l))
      go (more a) (less b) = square_swap (at 0) (at j) (at l) ∙ equal_yes (square_of (normal_of (at 0) (at l) (at j))) (pos 0) (h.three 0 l j a b j<n)
      go (more a) (same b) = moved b (square_second (at 0) (at j) (at l))
      go (more a) (more b) = equal_yes (square_of (normal_of (at 0) (at j) (at l))) (pos 0) (h.three 0 j l 0<j b l<n)

  abbrev is_first : ℕ → Bool
  is_first j = equal (square_of (difference_of (at j) (at 0))) (pos 0)

  pub threes_line : OnOneLine at n
  threes_line = go (truth (some 0 n (λ j. not (is_first j))))
    where
      along : (d : Vector) → (d ≡ zero_vector → ⊥) → ((l : ℕ) → l < n → cross_of d (difference_of (at l) (at 0)) ≡ zero_vector) → OnOneLine at n
      along d f k = record { point = at 0; direction = d; proper = f; lies = k }

      by : (j : ℕ) → j < n → is_first j ≡ false → OnOneLine at n
      by zero b e = true≢false (sym (equal_is (square_self (at 0) (at 0) (at 0))) ∙ e)
      by (suc j) b e =
          along (difference_of (at (suc j)) (at 0)) (λ z. true≢false (sym (equal_is (vanished (difference_of (at (suc j)) (at 0)) z)) ∙ e))
          (λ l k. vanishes (normal_of (at 0) (at (suc j)) (at l)) (on_line (suc j) (omega arith) b l k))

      -- all points are the same: any direction
      one : ((l : ℕ) → l < n → difference_of (at l) (at 0) ≡ zero_vector) → OnOneLine at n
      one k = along axis_x (λ e. let z : ◌≡◌ {A = ℕ} 1 0 = ap (λ (v : Vector). nat_abs v.x) e in omega arith) (λ l b. ap (cross_of axis_x) (k l b))
        where
          axis_x : Vector
          axis_x = record { x = pos 1; y = pos 0; z = pos 0 }

      go : Truth (some 0 n (λ j. not (is_first j))) → OnOneLine at n
      go (holds e) = let f = some_found 0 n (λ j. not (is_first j)) e in by f.at f.high (fails_via refl f.true_at)
      go (fails e) =
          one (λ l b. vanishes (difference_of (at l) (at 0)) (equal_yes (square_of (difference_of (at l) (at 0))) (pos 0)
          (not_false_true (is_first l) (λ f. some_none 0 n (λ j. not (is_first j)) e l (omega arith) b (ap not f)))))
