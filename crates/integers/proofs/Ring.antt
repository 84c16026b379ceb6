-- Equations of polynomials over ℤ, by computation: `ring ρ a b tt : eval ρ a ≡ eval ρ b`, where ρ lists the values of `var 0`, `var 1`, ..
-- A false equation is refused, since `tt` then has the wrong type. Assumes nothing.
use mathlib.Core.Path.{◌≡◌, refl, sym, ◌∙◌, ap}
use mathlib.Core.List.{List, [], ◌∷◌}
use mathlib.Core.Bool.{Bool, true, false}
use Prim.Native.Nat.{ℕ, zero, suc, compare, Ordering}
use lib.Dec.{T, eqb→eq, compare_is_eq}
use lib.IntN.{ℤ, pos, negsuc, neg_ℤ, ◌+ℤ◌, ◌-ℤ◌, ◌*ℤ◌, +ℤ_idl, +ℤ_idr, +ℤ_assoc, +ℤ_comm, zero-*ℤ, *ℤ-zero}
use Rattle.integers.proofs.Laws.{neg_mul, distrib_r, distrib_l, mul_assoc, mul_left_comm, mul_swap_mid, mul_one, one_mul, sub_zero}

infixl 6 ◌:+◌ ◌:-◌
infixl 7 ◌:*◌
pub data E : Type 0 where
  var : ℕ → E
  con : ℤ → E
  ◌:+◌ : E → E → E
  ◌:-◌ : E → E → E
  ◌:*◌ : E → E → E

abbrev pub nth : List ℤ → ℕ → ℤ
nth [] i = pos 0
nth (x ∷ ρ) zero = x
nth (x ∷ ρ) (suc i) = nth ρ i

abbrev pub eval : List ℤ → E → ℤ
eval ρ (var i) = nth ρ i
eval ρ (con z) = z
eval ρ (a :+ b) = eval ρ a +ℤ eval ρ b
eval ρ (a :- b) = eval ρ a -ℤ eval ρ b
eval ρ (a :* b) = eval ρ a *ℤ eval ρ b

pub data Poly : Type 0 where
  nil : Poly
  mon : ℤ → List ℕ → Poly → Poly

abbrev eval_m : List ℤ → List ℕ → ℤ
eval_m ρ [] = pos 1
eval_m ρ (i ∷ m) = nth ρ i *ℤ eval_m ρ m

abbrev eval_p : List ℤ → Poly → ℤ
eval_p ρ nil = pos 0
eval_p ρ (mon c m p) = c *ℤ eval_m ρ m +ℤ eval_p ρ p

-- lazily, one of two by a comparison
abbrev pub pick : {A : Type 0} → Ordering → (Unit {0} → A) → (Unit {0} → A) → A
pick Ordering.lt x y = x tt
pick Ordering.eq x y = x tt
pick Ordering.gt x y = y tt

pick_ind : {A : Type 0} (o : Ordering) (x y : Unit {0} → A) (Q : A → Type 0) → Q (x tt) → Q (y tt) → Q (pick o x y)
pick_ind Ordering.lt x y Q p q = p
pick_ind Ordering.eq x y Q p q = p
pick_ind Ordering.gt x y Q p q = q

abbrev pub ins_v : ℕ → List ℕ → List ℕ
ins_v i [] = i ∷ []
ins_v i (j ∷ m) = pick (compare i j) (λ _. i ∷ j ∷ m) (λ _. j ∷ ins_v i m)

abbrev pub mul_mM : List ℕ → List ℕ → List ℕ
mul_mM [] k = k
mul_mM (i ∷ m) k = ins_v i (mul_mM m k)

-- the order of monomials
abbrev pub then_o : Ordering → (Unit {0} → Ordering) → Ordering
then_o Ordering.lt f = Ordering.lt
then_o Ordering.eq f = f tt
then_o Ordering.gt f = Ordering.gt

abbrev pub cmp_m : List ℕ → List ℕ → Ordering
cmp_m [] [] = Ordering.eq
cmp_m [] (j ∷ k) = Ordering.lt
cmp_m (i ∷ m) [] = Ordering.gt
cmp_m (i ∷ m) (j ∷ k) = then_o (compare i j) (λ _. cmp_m m k)

abbrev IsEqO : Ordering → Type 0
IsEqO Ordering.lt = ⊥
IsEqO Ordering.eq = Unit {0}
IsEqO Ordering.gt = ⊥

then_o_eq : (o : Ordering) (f : Unit {0} → Ordering) → IsEqO (then_o o f) → T (compare_is_eq o) × IsEqO (f tt)
then_o_eq Ordering.lt f h = absurd h
then_o_eq Ordering.eq f h = (tt, h)
then_o_eq Ordering.gt f h = absurd h

cmp_m_eq : (m k : List ℕ) → IsEqO (cmp_m m k) → m ≡ k
cmp_m_eq [] [] h = refl
cmp_m_eq [] (j ∷ k) h = absurd h
cmp_m_eq (i ∷ m) [] h = absurd h
cmp_m_eq (i ∷ m) (j ∷ k) h =
    let p = then_o_eq (compare i j) (λ _. cmp_m m k) h in
    ap (λ (x : ℕ). x ∷ m) (eqb→eq i j p.0) ∙ ap (λ (x : List ℕ). j ∷ x) (cmp_m_eq m k p.1)

abbrev pub three : {A : Type 0} → Ordering → (Unit {0} → A) → (Unit {0} → A) → (Unit {0} → A) → A
three Ordering.lt x y z = x tt
three Ordering.eq x y z = y tt
three Ordering.gt x y z = z tt

three_ind : {A : Type 0} (o : Ordering) (x y z : Unit {0} → A) (Q : A → Type 0) → Q (x tt) → (IsEqO o → Q (y tt)) → Q (z tt) → Q (three o x y z)
three_ind Ordering.lt x y z Q p q r = p
three_ind Ordering.eq x y z Q p q r = q tt
three_ind Ordering.gt x y z Q p q r = r

-- a monomial in front, left out where its coefficient is 0
abbrev pub front : ℤ → List ℕ → Poly → Poly
front (pos zero) m p = p
front (pos (suc n)) m p = mon (pos (suc n)) m p
front (negsuc n) m p = mon (negsuc n) m p

front_is : (ρ : List ℤ) (c : ℤ) (m : List ℕ) (p : Poly) → eval_p ρ (front c m p) ≡ c *ℤ eval_m ρ m +ℤ eval_p ρ p
front_is ρ (pos zero) m p = sym (ap (λ (x : ℤ). x +ℤ eval_p ρ p) (zero-*ℤ (eval_m ρ m)) ∙ +ℤ_idl (eval_p ρ p))
front_is ρ (pos (suc n)) m p = refl
front_is ρ (negsuc n) m p = refl

abbrev pub ins_p : ℤ → List ℕ → Poly → Poly
ins_p c m nil = front c m nil
ins_p c m (mon d k p) = three (cmp_m m k) (λ _. front c m (mon d k p)) (λ _. front (c +ℤ d) k p) (λ _. mon d k (ins_p c m p))

abbrev pub add_p : Poly → Poly → Poly
add_p nil q = q
add_p (mon c m p) q = ins_p c m (add_p p q)

-- c·m times a polynomial, added to another
abbrev pub mul_m : ℤ → List ℕ → Poly → Poly → Poly
mul_m c m nil r = r
mul_m c m (mon d k q) r = ins_p (c *ℤ d) (mul_mM m k) (mul_m c m q r)

abbrev pub mul_p : Poly → Poly → Poly
mul_p nil q = nil
mul_p (mon c m p) q = mul_m c m q (mul_p p q)

abbrev pub norm : E → Poly
norm (var i) = mon (pos 1) (i ∷ []) nil
norm (con z) = front z [] nil
norm (a :+ b) = add_p (norm a) (norm b)
norm (a :- b) = mul_m (negsuc 0) [] (norm b) (norm a)
norm (a :* b) = mul_p (norm a) (norm b)

abbrev pub is_nil : Poly → Bool
is_nil nil = true
is_nil (mon c m p) = false

-- ---- each keeps the value
module _ (ρ : List ℤ) where
  ins_v_is : (i : ℕ) (m : List ℕ) → eval_m ρ (ins_v i m) ≡ nth ρ i *ℤ eval_m ρ m
  ins_v_is i [] = refl
  ins_v_is i (j ∷ m) =
      pick_ind (compare i j) (λ _. i ∷ j ∷ m) (λ _. j ∷ ins_v i m) (λ (x : List ℕ). eval_m ρ x ≡ nth ρ i *ℤ (nth ρ j *ℤ eval_m ρ m))
      refl
      (ap (λ (x : ℤ). nth ρ j *ℤ x) (ins_v_is i m) ∙ mul_left_comm (nth ρ j) (nth ρ i) (eval_m ρ m))

  mul_mM_is : (m k : List ℕ) → eval_m ρ (mul_mM m k) ≡ eval_m ρ m *ℤ eval_m ρ k
  mul_mM_is [] k = sym (one_mul (eval_m ρ k))
  mul_mM_is (i ∷ m) k = ins_v_is i (mul_mM m k) ∙ ap (λ (x : ℤ). nth ρ i *ℤ x) (mul_mM_is m k) ∙ sym (mul_assoc (nth ρ i) (eval_m ρ m) (eval_m ρ k))

  ins_p_is : (c : ℤ) (m : List ℕ) (p : Poly) → eval_p ρ (ins_p c m p) ≡ c *ℤ eval_m ρ m +ℤ eval_p ρ p
  ins_p_is c m nil = front_is ρ c m nil
  ins_p_is c m (mon d k p) =
      three_ind (cmp_m m k) (λ _. front c m (mon d k p)) (λ _. front (c +ℤ d) k p) (λ _. mon d k (ins_p c m p))
      (λ (x : Poly). eval_p ρ x ≡ c *ℤ eval_m ρ m +ℤ (d *ℤ eval_m ρ k +ℤ eval_p ρ p))
      (front_is ρ c m (mon d k p))
      (λ h. front_is ρ (c +ℤ d) k p
      ∙ ap (λ (x : ℤ). x +ℤ eval_p ρ p) (distrib_r c d (eval_m ρ k))
      ∙ +ℤ_assoc (c *ℤ eval_m ρ k) (d *ℤ eval_m ρ k) (eval_p ρ p)
      ∙ ap (λ (x : List ℕ). c *ℤ eval_m ρ x +ℤ (d *ℤ eval_m ρ k +ℤ eval_p ρ p)) (sym (cmp_m_eq m k h)))
      (ap (λ (x : ℤ). d *ℤ eval_m ρ k +ℤ x) (ins_p_is c m p)
      ∙ sym (+ℤ_assoc (d *ℤ eval_m ρ k) (c *ℤ eval_m ρ m) (eval_p ρ p))
      ∙ ap (λ (x : ℤ). x +ℤ eval_p ρ p) (+ℤ_comm (d *ℤ eval_m ρ k) (c *ℤ eval_m ρ m))
      ∙ +ℤ_assoc (c *ℤ eval_m ρ m) (d *ℤ eval_m ρ k) (eval_p ρ p))

  add_p_is : (p q : Poly) → eval_p ρ (add_p p q) ≡ eval_p ρ p +ℤ eval_p ρ q
  add_p_is nil q = sym (+ℤ_idl (eval_p ρ q))
  add_p_is (mon c m p) q = ins_p_is c m (add_p p q) ∙ ap (λ (x : ℤ). c *ℤ eval_m ρ m +ℤ x) (add_p_is p q)
      ∙ sym (+ℤ_assoc (c *ℤ eval_m ρ m) (eval_p ρ p) (eval_p ρ q))

  mul_m_is : (c : ℤ) (m : List ℕ) (q r : Poly) → eval_p ρ (mul_m c m q r) ≡ (c *ℤ eval_m ρ m) *ℤ eval_p ρ q +ℤ eval_p ρ r
  mul_m_is c m nil r = sym (ap (λ (x : ℤ). x +ℤ eval_p ρ r) (*ℤ-zero (c *ℤ eval_m ρ m)) ∙ +ℤ_idl (eval_p ρ r))
  mul_m_is c m (mon d k q) r =
      ins_p_is (c *ℤ d) (mul_mM m k) (mul_m c m q r)
      ∙ ap (λ (x : ℤ). (c *ℤ d) *ℤ x +ℤ eval_p ρ (mul_m c m q r)) (mul_mM_is m k)
      ∙ ap (λ (x : ℤ). x +ℤ eval_p ρ (mul_m c m q r)) (mul_swap_mid c d (eval_m ρ m) (eval_m ρ k))
      ∙ ap (λ (x : ℤ). (c *ℤ eval_m ρ m) *ℤ (d *ℤ eval_m ρ k) +ℤ x) (mul_m_is c m q r)
      ∙ sym (+ℤ_assoc ((c *ℤ eval_m ρ m) *ℤ (d *ℤ eval_m ρ k)) ((c *ℤ eval_m ρ m) *ℤ eval_p ρ q) (eval_p ρ r))
      ∙ ap (λ (x : ℤ). x +ℤ eval_p ρ r) (sym (distrib_l (c *ℤ eval_m ρ m) (d *ℤ eval_m ρ k) (eval_p ρ q)))

  mul_p_is : (p q : Poly) → eval_p ρ (mul_p p q) ≡ eval_p ρ p *ℤ eval_p ρ q
  mul_p_is nil q = sym (zero-*ℤ (eval_p ρ q))
  mul_p_is (mon c m p) q =
      mul_m_is c m q (mul_p p q) ∙ ap (λ (x : ℤ). (c *ℤ eval_m ρ m) *ℤ eval_p ρ q +ℤ x) (mul_p_is p q)
      ∙ sym (distrib_r (c *ℤ eval_m ρ m) (eval_p ρ p) (eval_p ρ q))

  norm_is : (e : E) → eval_p ρ (norm e) ≡ eval ρ e
  norm_is (var i) = +ℤ_idr _ ∙ one_mul _ ∙ mul_one (nth ρ i)
  norm_is (con z) = front_is ρ z [] nil ∙ +ℤ_idr _ ∙ mul_one z
  norm_is (a :+ b) = add_p_is (norm a) (norm b) ∙ ap (λ (x : ℤ). x +ℤ eval_p ρ (norm b)) (norm_is a) ∙ ap (λ (x : ℤ). eval ρ a +ℤ x) (norm_is b)
  norm_is (a :- b) =
      mul_m_is (negsuc 0) [] (norm b) (norm a)
      ∙ +ℤ_comm _ (eval_p ρ (norm a))
      ∙ ap (λ (x : ℤ). x +ℤ (negsuc 0 *ℤ pos 1) *ℤ eval_p ρ (norm b)) (norm_is a)
      ∙ ap (λ (x : ℤ). eval ρ a +ℤ x) (neg_mul (pos 1) (eval_p ρ (norm b)) ∙ ap neg_ℤ (one_mul (eval_p ρ (norm b)) ∙ norm_is b))
  norm_is (a :* b) = mul_p_is (norm a) (norm b) ∙ ap (λ (x : ℤ). x *ℤ eval_p ρ (norm b)) (norm_is a) ∙ ap (λ (x : ℤ). eval ρ a *ℤ x) (norm_is b)

  nil_zero : (p : Poly) → T (is_nil p) → eval_p ρ p ≡ pos 0
  nil_zero nil t = refl
  nil_zero (mon c m p) t = absurd t

  pub ring : (a b : E) → T (is_nil (norm (a :- b))) → eval ρ a ≡ eval ρ b
  ring a b t = sub_zero (eval ρ a) (eval ρ b) (sym (norm_is (a :- b)) ∙ nil_zero (norm (a :- b)) t)
