-- What is in a set after the faces of a four were put in, and how many triples there can be. Assumes nothing.
use mathlib.Core.Path.{◌≡◌, refl, sym, ◌∙◌, ap}
use mathlib.Core.Bool.{Bool, true, false}
use mathlib.Core.List.{List}
use Prim.Native.Nat.{ℕ, zero, suc, ◌+◌, ◌-◌, ◌≤◌, ◌<◌}
use native.Mathlib.Nat.{le_trans}
use native.Mathlib.Omega.{arith}
use borrow.Author.Tests.{eqb-true, eqb-false, eq-eqb}
use lib.Dec.{eqb}
use lib.ListN.{length, get_or, replicate, length-append, get_or-replicate}
use lib.Seq.{get_or-set_same, get_or-set_other}
use Rattle.lists.specs.Lists.{up_from, when, both, either}
use Rattle.lists.proofs.Choice.{Truth, holds, fails, truth, both_left, both_right, both_true, either_right, not_true_false}
use Rattle.lists.proofs.Ranges.{up_bound, when_bound}
use Rattle.lists.proofs.Parts.{over_same}
use Rattle.lists.proofs.Bools.{either_no}
use Rattle.faces.proofs.Masks.{bit_set, bit_none}
use Rattle.terms.specs.Limits.{max_vertices, max_triples}
use Rattle.terms.specs.Entries.{triple}
use Rattle.faces.specs.Faces.{same_triple, is_face, triples_of}
use Rattle.faces.specs.Masks.{pair_count, pair_at, with_vertex, has_vertex, has, with_triple, Joined}

-- all numbers of a triple are those of vertices
pub record Vertices (a b c : ℕ) : Type 0 where
  pub first : a < max_vertices
  pub second : b < max_vertices
  pub third : c < max_vertices

same_pair : {a b x y : ℕ} → a < max_vertices → b < max_vertices → x < max_vertices → y < max_vertices → pair_at x y ≡ pair_at a b → (a ≡ x) × (b ≡ y)
same_pair ha hb hx hy e = (omega arith, omega arith)

pub same_triple_lem : {a b c x y z : ℕ} → (a ≡ x) × (b ≡ y) × (c ≡ z) → same_triple a b c x y z ≡ true
same_triple_lem {a} {b} {c} {x} {y} {z} e = both_true (eq-eqb a x e.0) (both_true (eq-eqb b y e.1) (eq-eqb c z e.2))

pub triple_same : {a b c x y z : ℕ} → same_triple a b c x y z ≡ true → (a ≡ x) × (b ≡ y) × (c ≡ z)
triple_same {a} {b} {c} {x} {y} {z} e =
    let t = both_right (eqb a x) (both (eqb b y) (eqb c z)) e in (
      eqb-true a x (both_left (eqb a x) (both (eqb b y) (eqb c z)) e),
      eqb-true b y (both_left (eqb b y) (eqb c z) t),
      eqb-true c z (both_right (eqb b y) (eqb c z) t),
    )

-- a triple put in
pub put_in : (masks : List ℕ) {a b x y z : ℕ} (c : ℕ) → length masks ≡ pair_count → a < max_vertices → b < max_vertices → Vertices x y z →
    has (with_triple masks a b c) x y z ≡ either (same_triple a b c x y z) (has masks x y z)
unfolding has
put_in masks {a} {b} {x} {y} {z} c l ha hb k = go (truth (eqb (pair_at x y) (pair_at a b)))
  where
    go : Truth (eqb (pair_at x y) (pair_at a b)) →
        has_vertex (get_or (with_triple masks a b c) (pair_at x y) 0) z ≡ either (same_triple a b c x y z) (has_vertex (get_or masks (pair_at x y) 0) z)
    go (holds e) =
        let f : pair_at x y ≡ pair_at a b = eqb-true (pair_at x y) (pair_at a b) e in
        let s = same_pair ha hb k.first k.second f in
        let v = get_or masks (pair_at a b) 0 in
        ap (λ (i : ℕ). has_vertex (get_or (with_triple masks a b c) i 0) z) f
        ∙ ap (λ (m : ℕ). has_vertex m z) (get_or-set_same masks (pair_at a b) (with_vertex v c) 0 (omega arith))
        ∙ bit_set v c z
        ∙ sym (λ i. either (both (eq-eqb a x s.0 i) (both (eq-eqb b y s.1 i) (eqb c z))) (has_vertex v z))
        ∙ ap (λ (i : ℕ). either (same_triple a b c x y z) (has_vertex (get_or masks i 0) z)) (sym f)
    go (fails e) =
        ap (λ (m : ℕ). has_vertex m z)
        (get_or-set_other masks (pair_at a b) (pair_at x y) (with_vertex (get_or masks (pair_at a b) 0) c) 0 (eqb-false (pair_at x y) (pair_at a b) e))
        ∙ ap (λ (t : Bool). either t (has_vertex (get_or masks (pair_at x y) 0) z))
        (sym (not_true_false (same_triple a b c x y z) (λ s. let t = triple_same {a = a} {b = b} {c = c} {x = x} {y = y} {z = z} s in
        eqb-false (pair_at x y) (pair_at a b) e (omega (arith, t.0, t.1)))))

either_turn : (p q : Bool) → either p q ≡ either q p
either_turn true q = sym (either_right q true refl)
either_turn false q = sym (either_no q)

-- the same, as a set says it
pub triple_joined : {before after : List ℕ} {a b : ℕ} (c : ℕ) → length before ≡ pair_count → a < max_vertices → b < max_vertices →
    after ≡ with_triple before a b c → Joined before (same_triple a b c) after
triple_joined {before} {after} {a} {b} c l ha hb e = record {
  at = λ x y z hx hy hz. ap (λ (m : List ℕ). has m x y z) e
      ∙ put_in before c l ha hb (record { first = hx; second = hy; third = hz })
      ∙ either_turn (same_triple a b c x y z) (has before x y z);
}

-- four tests, one after the other
faces_order : (h p q r s : Bool) → either (either (either (either h s) r) q) p ≡ either h (either p (either q (either r s)))
faces_order true p q r s = refl
faces_order false p q r true = sym (either_right p _ (either_right q _ (either_right r true refl)))
faces_order false p q true false = sym (either_right p _ (either_right q _ refl))
faces_order false p true false false = sym (either_right p _ refl)
faces_order false p false false false = sym (either_no p)

-- the faces of a four put in
pub faces_joined : {masks m1 m2 m3 m4 : List ℕ} (a b c d : ℕ) → Joined masks (same_triple b c d) m1 → Joined m1 (same_triple a c d) m2 →
    Joined m2 (same_triple a b d) m3 → Joined m3 (same_triple a b c) m4 → Joined masks (is_face a b c d) m4
unfolding is_face
faces_joined {masks} a b c d j1 j2 j3 j4 = record {
  at = λ x y z hx hy hz.
      let p = same_triple a b c x y z in
      let q = same_triple a b d x y z in
      let r = same_triple a c d x y z in
      let s = same_triple b c d x y z in
      j4.at x y z hx hy hz
      ∙ ap (λ (t : Bool). either t p) (j3.at x y z hx hy hz
      ∙ ap (λ (t : Bool). either t q) (j2.at x y z hx hy hz
      ∙ ap (λ (t : Bool). either t r) (j1.at x y z hx hy hz)))
      ∙ faces_order (has masks x y z) p q r s;
}

-- the set that is empty
pub none_in : (m : ℕ) {x y z : ℕ} → pair_count ≤ m → Vertices x y z → has (replicate m 0) x y z ≡ false
unfolding has
none_in m {x} {y} {z} h k =
    let p = k.first in
    let q = k.second in
    ap (λ (v : ℕ). has_vertex v z) (get_or-replicate m (pair_at x y) 0 0 (omega arith)) ∙ bit_none z

-- f's sum over lo, .. , lo + k - 1
unfoldable sum_from : (ℕ → ℕ) → ℕ → ℕ → ℕ
sum_from f lo zero = 0
sum_from f lo (suc k) = f lo + sum_from f (suc lo) k

up_sum : {A : Type 0} (f : ℕ → List A) (g : ℕ → ℕ) (lo k k' : ℕ) → k ≤ k' → ((i : ℕ) → length (f i) ≤ g i) → length (up_from f lo k) ≤ sum_from g lo k'
unfolding up_from sum_from
up_sum f g lo zero k' h b = omega arith
up_sum f g lo (suc k) zero h b = absurd (omega arith)
up_sum f g lo (suc k) (suc k') h b = omega (arith, length-append (f lo) (up_from f (suc lo) k), b lo, up_sum f g (suc lo) k k' (omega arith) b)

-- all vertices but one
abbrev others : ℕ
others = max_vertices - 1

-- no more than the triples of that many vertices
pub triples_bound : (n : ℕ) (P : ℕ → ℕ → ℕ → Bool) → n ≤ max_vertices → length (triples_of n P) ≤ max_triples
unfolding sum_from
triples_bound n P h =
    up_sum _ (λ a. sum_from (λ b. others - b) (a + 1) (others - a)) 0 (n - 0) max_vertices (omega arith)
    (λ a. up_sum _ (λ b. others - b) (a + 1) (n - (a + 1)) (others - a) (omega arith)
    (λ b. le_trans (up_bound _ 1 (b + 1) (n - (b + 1)) (λ c. when_bound (P a b c) (triple a b c))) (omega arith)))

-- two tests that agree on the triples of n vertices list the same triples
pub triples_same : (n : ℕ) (P Q : ℕ → ℕ → ℕ → Bool) → ((a b c : ℕ) → a < b → b < c → c < n → P a b c ≡ Q a b c) → triples_of n P ≡ triples_of n Q
triples_same n P Q h =
    over_same 0 n _ _ (λ a l m. over_same (a + 1) n _ _ (λ b l' m'. over_same (b + 1) n _ _ (λ c l'' m''.
    ap (λ (t : Bool). when t (triple a b c)) (h a b c (omega arith) (omega arith) m''))))
