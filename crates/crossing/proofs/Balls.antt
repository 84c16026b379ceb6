-- A ball with some vertices on its surface and all others outside is a form that is 0 at those and positive at the others. Assumes nothing.
use mathlib.Core.Path.{◌≡◌, refl, sym, ◌∙◌, ap}
use mathlib.Core.Bool.{true, false}
use mathlib.Core.List.{List, [], ◌∷◌, Memᴰ}
use mathlib.Core.Logic.{◌⊎◌, inl, inr, ⊎_elim}
use Prim.Native.Nat.{ℕ, zero, suc, ◌+◌, ◌*◌, ◌<◌}
use native.Mathlib.Omega.{arith}
use borrow.Author.Tests.{lt-ltb, ltb-false, eqb-false}
use lib.IntN.{ℤ, pos, negsuc, ◌+ℤ◌, ◌-ℤ◌, ◌*ℤ◌, +ℤ_idl}
use lib.Signed.{lt_z}
use Rattle.integers.specs.Order.{equal}
use Rattle.integers.proofs.Laws.{sub_self}
use Rattle.integers.proofs.Order.{equal_yes, equal_is, equal_multiple, less_by_difference, not_below, product_suc, true≢false}
use Rattle.integers.proofs.Ring.{E, var, con, ◌:+◌, ◌:-◌, ◌:*◌, ring}
use Rattle.polygon.specs.declared.Polygon.{Polygon}
use Rattle.geometry.specs.declared.Vector.{Vector}
use Rattle.geometry.specs.Vectors.{difference_of, square_of, scaled_by, plus, minus}
use Rattle.geometry.proofs.Terms.{VectorE, vec, dot_e, plus_e, minus_e, scaled_e}
use Rattle.lists.proofs.Choice.{Truth, holds, fails, truth}
use Rattle.polygon.specs.Polygon.{vertex}
use Rattle.crossing.specs.Crossing.{corner_at}
use Rattle.crossing.proofs.Forms.{affine_at, Form, form_at, Mark, Clear}

-- the squared distance of x from centre / scale, times scale squared
abbrev pub distance_from : ℤ → Vector → Vector → ℤ
distance_from scale centre x = square_of (minus (scaled_by scale x) centre)

-- the vertices l are at one distance from centre / scale, and every other vertex is farther
pub record Ball (p : Polygon) (l : List ℕ) : Type 0 where
  pub scale : ℤ
  pub not_zero : scale ≡ pos 0 → ⊥
  pub centre : Vector
  pub radius : ℤ
  pub on : (i : ℕ) → Memᴰ i l → distance_from scale centre (corner_at p i) ≡ radius
  pub outside : (i : ℕ) → i < p.n → Memᴰ i l ⊎ (lt_z radius (distance_from scale centre (corner_at p i)) ≡ true)

-- ---- order

-- one more than a natural number
abbrev Positive : ℤ → Type 0
Positive z = (n : ℕ) × (z ≡ pos (suc n))

square_positive : (z : ℤ) → (z ≡ pos 0 → ⊥) → Positive (z *ℤ z)
square_positive (pos zero) h = absurd (h refl)
square_positive (pos (suc n)) h = (n * n + n + n, ap pos (product_suc n n))
square_positive (negsuc n) h = (n * n + n + n, ap pos (product_suc n n))

above : (d r : ℤ) → lt_z r d ≡ true → Positive (d -ℤ r)
above d r h = go (r -ℤ d) refl
  where
    go : (z : ℤ) → r -ℤ d ≡ z → Positive (d -ℤ r)
    go (pos n) e = true≢false (sym (sym (not_below n) ∙ ap (λ (z : ℤ). lt_z z (pos 0)) (sym e) ∙ sym (less_by_difference r d) ∙ h))
    go (negsuc n) e = (n, ring (d ∷ r ∷ []) (var 0 :- var 1) (con (pos 0) :- (var 1 :- var 0)) tt ∙ ap (λ (z : ℤ). pos 0 -ℤ z) e ∙ +ℤ_idl (pos (suc n)))

-- not below and not equal
below_else : (d r : ℤ) → lt_z d r ≡ false → equal d r ≡ false → lt_z r d ≡ true
below_else (pos a) (pos b) h k = let l = ltb-false a b h in let n = eqb-false a b k in lt-ltb b a (omega arith)
below_else (pos a) (negsuc b) h k = refl
below_else (negsuc a) (pos b) h k = true≢false h
below_else (negsuc a) (negsuc b) h k = let l = ltb-false b a h in let n = eqb-false a b k in lt-ltb a b (omega arith)

-- ---- the form of a ball
module _ (p : Polygon) (l : List ℕ) (b : Ball p l) where
  factor : Positive (b.scale *ℤ b.scale)
  factor = square_positive b.scale b.not_zero

  -- the squared distance from the centre, less the squared radius
  abbrev ball_form : Form
  ball_form = record { factor = factor.0; affine = record { linear = scaled_by (negsuc 1 *ℤ b.scale) b.centre; constant = square_of b.centre -ℤ b.radius } }

  form_is : (x : Vector) → form_at ball_form x ≡ distance_from b.scale b.centre x -ℤ b.radius
  form_is x =
      ap (λ (k : ℤ). k *ℤ square_of x +ℤ affine_at ball_form.affine x) (sym factor.1)
      ∙ ring (b.scale ∷ b.centre.x ∷ b.centre.y ∷ b.centre.z ∷ x.x ∷ x.y ∷ x.z ∷ b.radius ∷ [])
      (var 0 :* var 0 :* dot_e (vec 4) (vec 4) :+ (dot_e (scaled_e (con (negsuc 1) :* var 0) (vec 1)) (vec 4) :+ (dot_e (vec 1) (vec 1) :- var 7)))
      (dot_e away away :- var 7) tt
    where
      away : VectorE
      away = minus_e (scaled_e (var 0) (vec 4)) (vec 1)

  pub ball_clear : ((i : ℕ) → Memᴰ i l → i < p.n) → ((i : ℕ) → Memᴰ i l → Mark p l i) → Clear p l
  ball_clear below independent = record {
    form = ball_form;
    below = below;
    on = λ i m. form_is (corner_at p i) ∙ sub_self _ _ (b.on i m);
    outside = λ i h. ⊎_elim inl (λ o. let q = above (distance_from b.scale b.centre (corner_at p i)) b.radius o in
        inr (q.0, form_is (corner_at p i) ∙ q.1)) (b.outside i h);
    independent = independent;
  }

-- ---- the ball round a centre seen from vertex a: a + c / (2 · o)
module _ (p : Polygon) (l : List ℕ) (a : ℕ) (o : ℤ) (c : Vector) where
  -- the squared distance of vertex i from the centre, times (2 · o) squared
  abbrev away : ℕ → ℤ
  away i = square_of (minus (scaled_by (pos 2 *ℤ o) (difference_of (vertex p i) (vertex p a))) c)

  abbrev middle : Vector
  middle = plus (scaled_by (pos 2 *ℤ o) (corner_at p a)) c

  abbrev square_e : VectorE → E
  square_e v = dot_e v v

  distance_is : (i : ℕ) → distance_from (pos 2 *ℤ o) middle (corner_at p i) ≡ away i
  distance_is i =
      let q = corner_at p a in
      let x = corner_at p i in
      ring ((pos 2 *ℤ o) ∷ q.x ∷ q.y ∷ q.z ∷ c.x ∷ c.y ∷ c.z ∷ x.x ∷ x.y ∷ x.z ∷ [])
      (square_e (minus_e (scaled_e (var 0) (vec 7)) (plus_e (scaled_e (var 0) (vec 1)) (vec 4))))
      (square_e (minus_e (scaled_e (var 0) (minus_e (vec 7) (vec 1))) (vec 4))) tt

  -- l at one distance, no vertex nearer, and only l at that distance
  pub ball_round : (o ≡ pos 0 → ⊥) → ((i : ℕ) → Memᴰ i l → away i ≡ away a) → ((i : ℕ) → i < p.n → lt_z (away i) (away a) ≡ false)
      → ((i : ℕ) → i < p.n → equal (away i) (away a) ≡ true → Memᴰ i l) → Ball p l
  ball_round h on empty only = record {
    scale = pos 2 *ℤ o;
    not_zero = λ e. h (equal_yes o (pos 0) (sym (equal_multiple 1 o) ∙ equal_is e));
    centre = middle;
    radius = away a;
    on = λ i m. distance_is i ∙ on i m;
    outside = λ i k. apart i k (truth (equal (away i) (away a)));
  }
    where
      apart : (i : ℕ) → i < p.n → Truth (equal (away i) (away a)) → Memᴰ i l ⊎ (lt_z (away a) (distance_from (pos 2 *ℤ o) middle (corner_at p i)) ≡ true)
      apart i k (holds e) = inl (only i k e)
      apart i k (fails e) = inr (ap (λ (z : ℤ). lt_z (away a) z) (distance_is i) ∙ below_else (away i) (away a) (empty i k) e)
