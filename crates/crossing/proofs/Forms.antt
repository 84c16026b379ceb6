-- Functions λ|x|² + affine, λ > 0, that are 0 at affinely independent vertices and positive at all others: lists of such vertices do not cross.
-- Assumes nothing.
use mathlib.Core.Path.{◌≡◌, sym, ◌∙◌, ap}
use mathlib.Core.List.Memᴰ
use mathlib.Core.List.{List, [], ◌∷◌, Memᴰ}
use mathlib.Core.Logic.{◌⊎◌, inl, inr, ⊎_elim}
use Prim.Native.Nat.{ℕ, suc, ◌+◌, ◌*◌, ◌<◌}
use native.Mathlib.Omega.{arith}
use lib.IntN.{ℤ, pos, nat_abs, ◌+ℤ◌, ◌-ℤ◌, ◌*ℤ◌, zero-*ℤ, *ℤ-zero}
use Rattle.integers.proofs.Laws.{sub_zero, sub_self}
use Rattle.integers.proofs.Order.{no_divisor}
use Rattle.integers.proofs.Ring.{var, con, ◌:+◌, ◌:-◌, ◌:*◌, ring}
use Rattle.lists.specs.Sums.{sum}
use Rattle.polygon.specs.declared.Polygon.{Polygon}
use Rattle.geometry.specs.declared.Vector.{Vector}
use Rattle.geometry.specs.Vectors.{dot_of, square_of}
use Rattle.geometry.proofs.Terms.{vec, dot_e, plus_e, scaled_e}
use Rattle.crossing.specs.Crossing.{corner_at, weighted_sum, Meet, Belong, NoCrossing}
use Rattle.crossing.proofs.Corners.{member_or_not, Distinct}
use Rattle.crossing.proofs.Sums.{sum_over, Natural, natural, product_zero, sum_linear, sum_zero, sum_natural, all_zero, sum_at}

-- linear · x + constant
pub record Affine : Type 0 where
  pub linear : Vector
  pub constant : ℤ

abbrev pub affine_at : Affine → Vector → ℤ
affine_at g x = dot_of g.linear x +ℤ g.constant

-- (factor + 1) · |x|² + affine
pub record Form : Type 0 where
  pub factor : ℕ
  pub affine : Affine

abbrev pub form_at : Form → Vector → ℤ
form_at f x = pos (suc f.factor) *ℤ square_of x +ℤ affine_at f.affine x

-- an affine function that is not 0 at vertex i, and 0 at every other vertex of l
pub record Mark (p : Polygon) (l : List ℕ) (i : ℕ) : Type 0 where
  pub affine : Affine
  pub here : affine_at affine (corner_at p i) ≡ pos 0 → ⊥
  pub elsewhere : (j : ℕ) → Memᴰ j l → (j ≡ i) ⊎ (affine_at affine (corner_at p j) ≡ pos 0)

-- a form that is 0 at the vertices l, which are affinely independent, and positive at all others
pub record Clear (p : Polygon) (l : List ℕ) : Type 0 where
  pub form : Form
  pub below : (i : ℕ) → Memᴰ i l → i < p.n
  pub on : (i : ℕ) → Memᴰ i l → form_at form (corner_at p i) ≡ pos 0
  pub outside : (i : ℕ) → i < p.n → Memᴰ i l ⊎ ((n : ℕ) × (form_at form (corner_at p i) ≡ pos (suc n)))
  pub independent : (i : ℕ) → Memᴰ i l → Mark p l i

-- a triangle, an edge or a vertex whose corners are among such vertices
pub record Supported (p : Polygon) (t : List ℕ) : Type 0 where
  pub zeros : List ℕ
  pub clear : Clear p zeros
  pub part : (i : ℕ) → Memᴰ i t → Memᴰ i zeros
  pub distinct : Distinct t

module _ (p : Polygon) where
  -- the value of a form at a vertex, and of an affine function
  abbrev form_on : Form → ℕ → ℤ
  form_on f i = form_at f (corner_at p i)

  abbrev affine_on : Affine → ℕ → ℤ
  affine_on g i = affine_at g (corner_at p i)

  module _ (l : List ℕ) (f : Clear p l) (i : ℕ) (h : i < p.n) where
    never_negative : Natural (form_on f.form i)
    never_negative = ⊎_elim (λ m. natural 0 (f.on i m)) (λ q. natural (suc q.0) q.1) (f.outside i h)

    zero_on : nat_abs (form_on f.form i) ≡ 0 → Memᴰ i l
    zero_on e = ⊎_elim (λ m. m) (λ q. let s : nat_abs (form_on f.form i) ≡ suc q.0 = ap nat_abs q.1 in absurd (omega arith)) (f.outside i h)

  -- the sum of an affine function is settled by the weighted sum of corners and the sum of the weights
  affine_sum : (g : Affine) (v : ℕ → ℕ) (t : List ℕ) → sum_over (affine_on g) v t ≡ dot_of g.linear (weighted_sum p v t) +ℤ g.constant *ℤ pos (sum v t)
  affine_sum g v [] =
      ring (g.linear.x ∷ g.linear.y ∷ g.linear.z ∷ g.constant ∷ [])
      (con (pos 0)) (var 0 :* con (pos 0) :+ var 1 :* con (pos 0) :+ var 2 :* con (pos 0) :+ var 3 :* con (pos 0)) tt
  affine_sum g v (i ∷ t) =
      let c = corner_at p i in
      let s = weighted_sum p v t in
      ap (λ (z : ℤ). pos (v i) *ℤ affine_on g i +ℤ z) (affine_sum g v t)
      ∙ ring (g.linear.x ∷ g.linear.y ∷ g.linear.z ∷ g.constant ∷ pos (v i) ∷ pos (sum v t) ∷ c.x ∷ c.y ∷ c.z ∷ s.x ∷ s.y ∷ s.z ∷ [])
      (var 4 :* (dot_e (vec 0) (vec 6) :+ var 3) :+ (dot_e (vec 0) (vec 9) :+ var 3 :* var 5))
      (dot_e (vec 0) (plus_e (scaled_e (var 4) (vec 6)) (vec 9)) :+ var 3 :* (var 4 :+ var 5)) tt

  -- ---- two lists that meet
  module _ (t u : List ℕ) (v w : ℕ → ℕ) (m : Meet p t u v w) where
    affine_same : (g : Affine) → sum_over (affine_on g) v t ≡ sum_over (affine_on g) w u
    affine_same g = affine_sum g v t ∙ (λ i. dot_of g.linear (m.same_point i) +ℤ g.constant *ℤ pos (m.equal_sums i)) ∙ sym (affine_sum g w u)

    -- two forms, each times the other's factor, differ by an affine function
    crosswise : (f g : Form) →
        pos (suc f.factor) *ℤ sum_over (form_on g) v t +ℤ pos (suc g.factor) *ℤ sum_over (form_on f) w u
        ≡ pos (suc g.factor) *ℤ sum_over (form_on f) v t +ℤ pos (suc f.factor) *ℤ sum_over (form_on g) w u
    crosswise f g =
        (λ i. k *ℤ parts g v t i +ℤ l *ℤ parts f w u i)
        ∙ (λ i. k *ℤ (l *ℤ squares v t +ℤ affine_same g.affine i) +ℤ l *ℤ (k *ℤ squares w u +ℤ sym (affine_same f.affine) i))
        ∙ ring (k ∷ l ∷ squares v t ∷ squares w u ∷ sum_over (affine_on f.affine) v t ∷ sum_over (affine_on g.affine) w u ∷ [])
        (var 0 :* (var 1 :* var 2 :+ var 5) :+ var 1 :* (var 0 :* var 3 :+ var 4))
        (var 1 :* (var 0 :* var 2 :+ var 4) :+ var 0 :* (var 1 :* var 3 :+ var 5)) tt
        ∙ sym (λ i. l *ℤ parts f v t i +ℤ k *ℤ parts g w u i)
      where
        k : ℤ
        k = pos (suc f.factor)

        l : ℤ
        l = pos (suc g.factor)

        squares : (ℕ → ℕ) → List ℕ → ℤ
        squares v t = sum_over (λ i. square_of (corner_at p i)) v t

        parts : (f : Form) (v : ℕ → ℕ) (t : List ℕ) → sum_over (form_on f) v t ≡ pos (suc f.factor) *ℤ squares v t +ℤ sum_over (affine_on f.affine) v t
        parts f v t = sum_linear v (pos (suc f.factor)) (λ i. square_of (corner_at p i)) (affine_on f.affine) t

-- ---- two supported ones that meet
module _ (p : Polygon) (t u : List ℕ) (st : Supported p t) (su : Supported p u) (v w : ℕ → ℕ) (m : Meet p t u v w) where
  no_weight : {k : ℕ} (F : ℤ) → k ≡ 0 → pos k *ℤ F ≡ pos 0
  no_weight F e = ap (λ (n : ℕ). pos n *ℤ F) e ∙ zero-*ℤ F

  no_value : (k : ℕ) {z : ℤ} → z ≡ pos 0 → pos k *ℤ z ≡ pos 0
  no_value k e = ap (λ (z : ℤ). pos k *ℤ z) e ∙ *ℤ-zero (pos k)

  -- the corners of u that carry weight are zeros of t's form
  common : (i : ℕ) → Memᴰ i u → (w i ≡ 0) ⊎ Memᴰ i st.zeros
  common i h =
      ⊎_elim inl (λ z. inr (zero_on p st.zeros st.clear i (su.clear.below i (su.part i h)) z))
      (product_zero (w i) (nat_abs (F i)) (all_zero w (λ j. w j * nat_abs (F j)) u none i h))
    where
      F : ℕ → ℤ
      F = form_on p st.clear.form

      G : ℕ → ℤ
      G = form_on p su.clear.form

      k : ℕ
      k = suc st.clear.form.factor

      l : ℕ
      l = suc su.clear.form.factor

      x : ℕ
      x = sum (λ j. v j * nat_abs (G j)) t

      y : ℕ
      y = sum (λ j. w j * nat_abs (F j)) u

      F-t : sum_over F v t ≡ pos 0
      F-t = sum_zero v F t (λ j n. no_value (v j) (st.clear.on j (st.part j n)))

      G-u : sum_over G w u ≡ pos 0
      G-u = sum_zero w G u (λ j n. no_value (w j) (su.clear.on j (su.part j n)))

      G-t : sum_over G v t ≡ pos x
      G-t = sum_natural v G t (λ j n. never_negative p su.zeros su.clear j (st.clear.below j (st.part j n)))

      F-u : sum_over F w u ≡ pos y
      F-u = sum_natural w F u (λ j n. never_negative p st.zeros st.clear j (su.clear.below j (su.part j n)))

      balance : pos (k * x + l * y) ≡ pos (l * 0 + k * 0)
      balance = sym (λ i. pos k *ℤ G-t i +ℤ pos l *ℤ F-u i) ∙ crosswise p t u v w m st.clear.form su.clear.form ∙ (λ i. pos l *ℤ F-t i +ℤ pos k *ℤ G-u i)

      none : y ≡ 0
      none = let e : k * x + l * y ≡ l * 0 + k * 0 = ap nat_abs balance in omega arith

  -- a corner i of t, by the affine function that marks it among the zeros
  module _ (i : ℕ) (h : Memᴰ i t) where
    mark : Mark p st.zeros i
    mark = st.clear.independent i (st.part i h)

    abbrev mark_on : ℕ → ℤ
    mark_on = affine_on p mark.affine

    sum_t : sum_over mark_on v t ≡ pos (v i) *ℤ mark_on i
    sum_t = sum_at v mark_on i t st.distinct h (λ j n. ⊎_elim inl (λ z. inr (no_value (v j) z)) (mark.elsewhere j (st.part j n)))

    elsewhere_u : (j : ℕ) → Memᴰ j u → (j ≡ i) ⊎ (pos (w j) *ℤ mark_on j ≡ pos 0)
    elsewhere_u j n = ⊎_elim (λ e. inr (no_weight (mark_on j) e)) (λ q. ⊎_elim inl (λ z. inr (no_value (w j) z)) (mark.elsewhere j q)) (common j n)

    cancelled : (a b : ℕ) → pos a *ℤ mark_on i ≡ pos b *ℤ mark_on i → a ≡ b
    cancelled a b e =
        ap nat_abs (sub_zero (pos a) (pos b) (no_divisor (mark_on i) (pos a -ℤ pos b) mark.here
        (ring (mark_on i ∷ pos a ∷ pos b ∷ []) (var 0 :* (var 1 :- var 2)) (var 1 :* var 0 :- var 2 :* var 0) tt ∙ sub_self _ _ e)))

    -- a corner of both has one weight
    pub corner_weight : Memᴰ i u → v i ≡ w i
    corner_weight n = cancelled (v i) (w i) (sym sum_t ∙ affine_same p t u v w m mark.affine ∙ sum_at w mark_on i u su.distinct n elsewhere_u)

    -- a corner with a weight above 0 is one of both
    pub carried : 0 < v i → Memᴰ i u
    carried k = ⊎_elim (λ n. n) (λ n. let e = cancelled (v i) 0 (lost n) in absurd (omega arith)) (member_or_not i u)
      where
        lost : (Memᴰ i u → ⊥) → pos (v i) *ℤ mark_on i ≡ pos 0 *ℤ mark_on i
        lost n =
            sym sum_t ∙ affine_same p t u v w m mark.affine
            ∙ sum_zero w mark_on u (λ j q. ⊎_elim (λ e. absurd (n (Memᴰ.cast (sym e) q))) (λ z. z) (elsewhere_u j q))
            ∙ sym (zero-*ℤ (mark_on i))

turned : {p : Polygon} {t u : List ℕ} {v w : ℕ → ℕ} → Meet p t u v w → Meet p u t w v
turned m = record { not_all_zero = omega (arith, m.equal_sums, m.not_all_zero); equal_sums = sym m.equal_sums; same_point = sym m.same_point }

-- supported ones do not cross
pub meeting : (p : Polygon) (t u : List ℕ) → Supported p t → Supported p u → (v w : ℕ → ℕ) → Meet p t u v w → Belong v t u × Belong w u t
meeting p t u st su v w m = (λ i h. carried p t u st su v w m i h, λ i h. carried p u t su st w v (turned m) i h)

pub uncrossed : (p : Polygon) (These : List ℕ → Type 0) → ((t : List ℕ) → These t → Supported p t) → NoCrossing p These
uncrossed p These supported = record {
  belong = λ t u ht hu. meeting p t u (supported t ht) (supported u hu);
  same_weights = λ t u ht hu v w m i h. corner_weight p t u (supported t ht) (supported u hu) v w m i h;
}
