-- The order of candidates and of rows, and hanging, as facts; the order is strict, and neighbours in order put the whole list in order. Assumes nothing.
use mathlib.Core.Path.{◌≡◌, refl, ◌∙◌, subst}
use mathlib.Core.Bool.{Bool, true}
use mathlib.Core.List.{List}
use mathlib.Core.Logic.{◌⊎◌, inl, inr, ⊎_elim}
use Prim.Native.Nat.{ℕ, zero, suc, ◌-◌, ◌<◌}
use native.Mathlib.Omega.{arith}
use borrow.Author.Tests.{ltb-true, lt-ltb, eqb-true, eq-eqb}
use lib.Dec.{ltb, eqb}
use Rattle.lists.specs.Lists.{both}
use Rattle.lists.proofs.Choice.{both_left, both_right, both_true, either_left, either_right, either_cases}
use Rattle.terms.specs.Entries.{vertex_a, vertex_b, vertex_c, outer, inner, lexicographic, same_edge, before, row_before, hangs}

-- candidate s is before candidate t: by a, then b, then c
pub data Before (s t : List ℕ) : Type 0 where
  by_a : vertex_a s < vertex_a t → Before s t
  by_b : vertex_a s ≡ vertex_a t → vertex_b s < vertex_b t → Before s t
  by_c : vertex_a s ≡ vertex_a t → vertex_b s ≡ vertex_b t → vertex_c s < vertex_c t → Before s t

-- row r is before row s: by outer, then inner
pub data RowBefore (r s : List ℕ) : Type 0 where
  by_outer : outer r < outer s → RowBefore r s
  by_inner : outer r ≡ outer s → inner r < inner s → RowBefore r s

-- candidate t hangs on candidate u: t's edge (a, c) is u's (a, b) or u's (b, c)
pub data Hangs (t u : List ℕ) : Type 0 where
  on_ab : vertex_a t ≡ vertex_a u → vertex_c t ≡ vertex_b u → Hangs t u
  on_bc : vertex_a t ≡ vertex_b u → vertex_c t ≡ vertex_c u → Hangs t u

lex_cases : (x y : ℕ) (rest : Bool) → lexicographic x y rest ≡ true → (x < y) ⊎ ((x ≡ y) × (rest ≡ true))
lex_cases x y rest e =
    ⊎_elim (λ h. inl (ltb-true x y h)) (λ h. inr (eqb-true x y (both_left (eqb x y) rest h), both_right (eqb x y) rest h))
    (either_cases (ltb x y) (both (eqb x y) rest) e)

lex_less : (x y : ℕ) (rest : Bool) → x < y → lexicographic x y rest ≡ true
lex_less x y rest h = either_left (ltb x y) (both (eqb x y) rest) (lt-ltb x y h)

lex_equal : (x y : ℕ) (rest : Bool) → x ≡ y → rest ≡ true → lexicographic x y rest ≡ true
lex_equal x y rest e h = either_right (ltb x y) (both (eqb x y) rest) (both_true (eq-eqb x y e) h)

module _ (s t : List ℕ) where
  pub before_true : before s t ≡ true → Before s t
  unfolding before
  before_true e =
      ⊎_elim by_a
      (λ h. ⊎_elim (by_b h.0) (λ k. by_c h.0 k.0 (ltb-true (vertex_c s) (vertex_c t) k.1))
      (lex_cases (vertex_b s) (vertex_b t) (ltb (vertex_c s) (vertex_c t)) h.1))
      (lex_cases (vertex_a s) (vertex_a t) _ e)

  pub true_before : Before s t → before s t ≡ true
  unfolding before
  true_before (by_a h) = lex_less (vertex_a s) (vertex_a t) _ h
  true_before (by_b e h) = lex_equal (vertex_a s) (vertex_a t) _ e (lex_less (vertex_b s) (vertex_b t) _ h)
  true_before (by_c e d h) = lex_equal (vertex_a s) (vertex_a t) _ e (lex_equal (vertex_b s) (vertex_b t) _ d (lt-ltb _ _ h))

  pub row_before_true : row_before s t ≡ true → RowBefore s t
  unfolding row_before
  row_before_true e =
      ⊎_elim by_outer (λ h. by_inner h.0 (ltb-true (inner s) (inner t) h.1))
      (lex_cases (outer s) (outer t) (ltb (inner s) (inner t)) e)

  pub true_row_before : RowBefore s t → row_before s t ≡ true
  unfolding row_before
  true_row_before (by_outer h) = lex_less (outer s) (outer t) _ h
  true_row_before (by_inner e h) = lex_equal (outer s) (outer t) _ e (lt-ltb _ _ h)

edge_same : (i j k l : ℕ) → same_edge i j k l ≡ true → (i ≡ k) × (j ≡ l)
edge_same i j k l e = (eqb-true i k (both_left (eqb i k) (eqb j l) e), eqb-true j l (both_right (eqb i k) (eqb j l) e))

same_edge_lem : (i j k l : ℕ) → i ≡ k → j ≡ l → same_edge i j k l ≡ true
same_edge_lem i j k l e d = both_true (eq-eqb i k e) (eq-eqb j l d)

module _ (t u : List ℕ) where
  pub hangs_true : hangs t u ≡ true → Hangs t u
  unfolding hangs
  hangs_true e =
      ⊎_elim (λ h. let p = edge_same (vertex_a t) (vertex_c t) (vertex_a u) (vertex_b u) h in on_ab p.0 p.1)
      (λ h. let p = edge_same (vertex_a t) (vertex_c t) (vertex_b u) (vertex_c u) h in on_bc p.0 p.1)
      (either_cases (same_edge (vertex_a t) (vertex_c t) (vertex_a u) (vertex_b u)) (same_edge (vertex_a t) (vertex_c t) (vertex_b u) (vertex_c u)) e)

  pub true_hangs : Hangs t u → hangs t u ≡ true
  unfolding hangs
  true_hangs (on_ab e d) = either_left (same_edge (vertex_a t) (vertex_c t) (vertex_a u) (vertex_b u)) _ (same_edge_lem _ _ _ _ e d)
  true_hangs (on_bc e d) = either_right (same_edge (vertex_a t) (vertex_c t) (vertex_a u) (vertex_b u)) _ (same_edge_lem _ _ _ _ e d)

pub before_trans : {s t u : List ℕ} → Before s t → Before t u → Before s u
before_trans (by_a h) (by_a k) = by_a (omega arith)
before_trans (by_a h) (by_b e k) = by_a (omega arith)
before_trans (by_a h) (by_c e d k) = by_a (omega arith)
before_trans (by_b e h) (by_a k) = by_a (omega arith)
before_trans (by_b e h) (by_b d k) = by_b (e ∙ d) (omega arith)
before_trans (by_b e h) (by_c d f k) = by_b (e ∙ d) (omega arith)
before_trans (by_c e d h) (by_a k) = by_a (omega arith)
before_trans (by_c e d h) (by_b f k) = by_b (e ∙ f) (omega arith)
before_trans (by_c e d h) (by_c f g k) = by_c (e ∙ f) (d ∙ g) (omega arith)

pub row_before_trans : {r s t : List ℕ} → RowBefore r s → RowBefore s t → RowBefore r t
row_before_trans (by_outer h) (by_outer k) = by_outer (omega arith)
row_before_trans (by_outer h) (by_inner e k) = by_outer (omega arith)
row_before_trans (by_inner e h) (by_outer k) = by_outer (omega arith)
row_before_trans (by_inner e h) (by_inner d k) = by_inner (e ∙ d) (omega arith)

-- a row for the same pair is not before this one
pub row_before_same : {r s : List ℕ} → outer r ≡ outer s → inner r ≡ inner s → RowBefore r s → ⊥
row_before_same e d (by_outer h) = omega arith
row_before_same e d (by_inner f h) = omega arith

-- where each is after the one before it, each is after all before it
module _ (R : ℕ → ℕ → Type 0) (trans : (i j k : ℕ) → R i j → R j k → R i k) (m : ℕ) (next : (i : ℕ) → 0 < i → i < m → R (i - 1) i) where
  pub in_order : (i j : ℕ) → i < j → j < m → R i j
  in_order i zero h l = absurd (omega arith)
  in_order i (suc j) h l = go (subst (λ x. R x (suc j)) (omega arith) (next (suc j) (omega arith) l)) (λ k. in_order i j k (omega arith)) (j - i) refl
    where
      go : R j (suc j) → (i < j → R i j) → (k : ℕ) → j - i ≡ k → R i (suc j)
      go r earlier zero e = subst (λ x. R x (suc j)) (omega arith) r
      go r earlier (suc k) e = trans i j (suc j) (earlier (omega arith)) r
