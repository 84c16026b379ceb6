-- The own weight, a sum along the rim, is the one by the candidate's three edges; so it stays below the limit. Assumes nothing.
use mathlib.Core.Path.{◌≡◌, refl, sym, ap, ◌∙◌}
use mathlib.Core.Bool.{Bool, true, false, cond}
use mathlib.Core.List.{List}
use mathlib.Core.Logic.{◌⊎◌, inl, inr}
use Prim.Native.Nat.{ℕ, zero, suc, ◌+◌, ◌*◌, ◌≤◌, ◌<◌}
use native.Mathlib.Nat.{add-zero, le_trans}
use native.Mathlib.Omega.{arith}
use borrow.Author.Tests.{eq-eqb, ne_eqb, eqb-true, eqb-false}
use lib.Dec.{eqb, lit≤}
use Rattle.lists.specs.Lists.{both, either}
use Rattle.lists.specs.Sums.{sum_below}
use Rattle.lists.proofs.Choice.{yes, below_or_same, either_left, either_right, both_true}
use Rattle.polygon.specs.declared.Polygon.{Polygon}
use Rattle.polygon.specs.declared.normal.Normal.{Normal}
use Rattle.polygon.specs.Polygon.{ValidPolygon}
use Rattle.polygon.specs.Normal.{no_normal, is_none, normal_at}
use Rattle.geometry.specs.Bounds.{max_length, max_bend}
use Rattle.geometry.proofs.Lengths.{length_bound}
use Rattle.geometry.proofs.Faces.{area_weight_bound}
use Rattle.terms.specs.Limits.{max_area_factor, max_bend_factor, max_weight}
use Rattle.terms.specs.Entries.{vertex_a, vertex_b, vertex_c}
use Rattle.dihedrals.specs.Dihedrals.{face_normal}
use Rattle.dihedrals.proofs.Faces.{face_within}
use Rattle.weights.specs.Weights.{next_vertex, is_corner, has_rim_edge, rim_bend, rim_bends, area_weight, own_weight}
use Rattle.weights.specs.Edges.{edge_normal, edges_of, outside_weight_of, own_weight_of, max_own_weight}
use Rattle.weights.proofs.Surfaces.{of_the_next, of_the_last, not_from_0, not_to_the_last, outside_none, outside_bound}

same_or_not : (x y : ℕ) → (x ≡ y) ⊎ (x ≡ y → ⊥)
same_or_not x y = by (eqb x y) refl
  where
    by : (b : Bool) → eqb x y ≡ b → (x ≡ y) ⊎ (x ≡ y → ⊥)
    by true e = inl (eqb-true x y e)
    by false e = inr (eqb-false x y e)

-- ---- sums: places where f is 0 add nothing
skip : (f : ℕ → ℕ) (hi lo : ℕ) → lo ≤ hi → ((i : ℕ) → lo ≤ i → i < hi → f i ≡ 0) → sum_below hi f ≡ sum_below lo f
unfolding sum_below
skip f zero lo l h = let z : 0 ≡ lo = omega arith in ap (λ (k : ℕ). sum_below k f) z
skip f (suc hi) lo l h = by (below_or_same lo (suc hi) l) (λ m. skip f hi lo m (λ i a b. h i a (omega arith)))
  where
    by : (lo < suc hi) ⊎ (lo ≡ suc hi) → (lo ≤ hi → sum_below hi f ≡ sum_below lo f) → sum_below (suc hi) f ≡ sum_below lo f
    by (inl m) rest = let below : lo ≤ hi = omega arith in (λ i. rest below i + h hi below (omega arith) i) ∙ add-zero (sum_below lo f)
    by (inr e) rest = ap (λ (k : ℕ). sum_below k f) (sym e)

-- three places that may not be 0
three : (f : ℕ → ℕ) (a b c n : ℕ) → a < b → b < c → c < n → ((i : ℕ) → i < n → (i ≡ a → ⊥) → (i ≡ b → ⊥) → (i ≡ c → ⊥) → f i ≡ 0) →
    sum_below n f ≡ f a + f b + f c
unfolding sum_below
three f a b c n ab bc cn h =
    let past-c : sum_below n f ≡ sum_below c f + f c =
    skip f n (suc c) cn (λ i l m. h i m (λ e. omega (arith, e)) (λ e. omega (arith, e)) (λ e. omega (arith, e))) in
    let past-b : sum_below c f ≡ sum_below b f + f b =
    skip f c (suc b) bc (λ i l m. h i (omega arith) (λ e. omega (arith, e)) (λ e. omega (arith, e)) (λ e. omega (arith, e))) in
    let past-a : sum_below b f ≡ sum_below a f + f a =
    skip f b (suc a) ab (λ i l m. h i (omega arith) (λ e. omega (arith, e)) (λ e. omega (arith, e)) (λ e. omega (arith, e))) in
    let none : sum_below a f ≡ 0 =
    skip f a 0 (omega arith) (λ i l m. h i (omega arith) (λ e. omega (arith, e)) (λ e. omega (arith, e)) (λ e. omega (arith, e))) in
    omega (arith, past-c, past-b, past-a, none)

-- a rim without a surface outside bends no candidate
pub no_bends : (p : Polygon) (t : List ℕ) → ((i : ℕ) → i < p.n → is_none (normal_at p.normals i) ≡ true) → rim_bends p t ≡ 0
unfolding sum_below
no_bends p t bare = skip _ p.n 0 (omega arith) (λ i _ l. by (has_rim_edge p.n t i) (yes 0 _ (bare i l)))
  where
    by : (b : Bool) {w : ℕ} → w ≡ 0 → cond b w 0 ≡ 0
    by true e = e
    by false e = refl

module _ (p : Polygon) (t : List ℕ) (ab : vertex_a t < vertex_b t) (bc : vertex_b t < vertex_c t) (cn : vertex_c t < p.n) where
  abbrev a : ℕ
  a = vertex_a t

  abbrev b : ℕ
  b = vertex_b t

  abbrev c : ℕ
  c = vertex_c t

  -- ---- the corners, and the vertices after them
  no_corner : (v : ℕ) → (v ≡ a → ⊥) → (v ≡ b → ⊥) → (v ≡ c → ⊥) → is_corner t v ≡ false
  no_corner v x y z = λ i. either (ne_eqb v a x i) (either (ne_eqb v b y i) (ne_eqb v c z i))

  is_a : is_corner t a ≡ true
  is_a = either_left (eqb a a) (either (eqb a b) (eqb a c)) (eq-eqb a a refl)

  is_b : (v : ℕ) → v ≡ b → is_corner t v ≡ true
  is_b v e = either_right (eqb v a) (either (eqb v b) (eqb v c)) (either_left (eqb v b) (eqb v c) (eq-eqb v b e))

  is_c : (v : ℕ) → v ≡ c → is_corner t v ≡ true
  is_c v e = either_right (eqb v a) (either (eqb v b) (eqb v c)) (either_right (eqb v b) (eqb v c) (eq-eqb v c e))

  is_0 : a ≡ 0 → is_corner t 0 ≡ true
  is_0 e = either_left (eqb 0 a) (either (eqb 0 b) (eqb 0 c)) (eq-eqb 0 a (sym e))

  next_within : (v : ℕ) → v + 1 < p.n → next_vertex p.n v ≡ v + 1
  next_within v l = ap (λ (k : Bool). cond k 0 (v + 1)) (ne_eqb (v + 1) p.n (λ e. omega (arith, e)))

  next_last : (v : ℕ) → v + 1 ≡ p.n → next_vertex p.n v ≡ 0
  next_last v e = ap (λ (k : Bool). cond k 0 (v + 1)) (eq-eqb (v + 1) p.n e)

  edge_yes : (v w : ℕ) → is_corner t v ≡ true → next_vertex p.n v ≡ w → is_corner t w ≡ true → has_rim_edge p.n t v ≡ true
  edge_yes v w x e y = both_true x (ap (is_corner t) e ∙ y)

  edge_no : (v w : ℕ) → is_corner t v ≡ true → next_vertex p.n v ≡ w → is_corner t w ≡ false → has_rim_edge p.n t v ≡ false
  edge_no v w x e y = ap (λ (k : Bool). both k (is_corner t (next_vertex p.n v))) x ∙ ap (is_corner t) e ∙ y

  -- ---- the sum along the rim, edge by edge
  abbrev term : ℕ → ℕ
  term i = cond (has_rim_edge p.n t i) (rim_bend p t i) 0

  term_yes : (i : ℕ) → has_rim_edge p.n t i ≡ true → term i ≡ outside_weight_of p.bend_factor (face_normal p t) (normal_at p.normals i)
  unfolding outside_weight_of
  term_yes i h = ap (λ (k : Bool). cond k (rim_bend p t i) 0) h

  term_no : (i : ℕ) → has_rim_edge p.n t i ≡ false → term i ≡ 0
  term_no i h = ap (λ (k : Bool). cond k (rim_bend p t i) 0) h

  -- the surface outside the edge of vertices x < y, and the weight of the bend there
  abbrev outside_normal : ℕ → ℕ → Normal
  outside_normal x y = edge_normal p.n x y (normal_at p.normals x) (normal_at p.normals y)

  abbrev outside : ℕ → ℕ → ℕ
  outside x y = outside_weight_of p.bend_factor (face_normal p t) (outside_normal x y)

  -- an edge with the normal k, and one with none
  has : (x y i : ℕ) → outside_normal x y ≡ normal_at p.normals i → has_rim_edge p.n t i ≡ true → term i ≡ outside x y
  has x y i e h = term_yes i h ∙ ap (outside_weight_of p.bend_factor (face_normal p t)) (sym e)

  has_none : (x y i : ℕ) → outside_normal x y ≡ no_normal → has_rim_edge p.n t i ≡ false → term i ≡ outside x y
  has_none x y i e h =
      term_no i h
      ∙ sym (ap (outside_weight_of p.bend_factor (face_normal p t)) e ∙ outside_none p.bend_factor (face_normal p t) no_normal refl)

  abbrev ka : Normal
  ka = normal_at p.normals a

  abbrev kb : Normal
  kb = normal_at p.normals b

  abbrev kc : Normal
  kc = normal_at p.normals c

  -- (a, b)
  first : term a ≡ outside a b
  first = by (same_or_not b (a + 1)) (same_or_not a 0)
    where
      within : next_vertex p.n a ≡ a + 1
      within = next_within a (omega arith)

      by : (b ≡ a + 1) ⊎ (b ≡ a + 1 → ⊥) → (a ≡ 0) ⊎ (a ≡ 0 → ⊥) → term a ≡ outside a b
      by (inl e) z = has a b a (of_the_next p.n a b ka kb e) (edge_yes a (a + 1) (is_a) within (is_b (a + 1) (sym e)))
      by (inr d) z =
          has_none a b a (none z)
          (edge_no a (a + 1) (is_a) within (no_corner (a + 1) (λ e. omega (arith, e)) (λ e. d (sym e)) (λ e. omega (arith, e))))
        where
          none : (a ≡ 0) ⊎ (a ≡ 0 → ⊥) → edge_normal p.n a b ka kb ≡ no_normal
          none (inl z) = not_to_the_last p.n a b ka kb d z (λ e. omega (arith, e))
          none (inr z) = not_from_0 p.n a b ka kb d z

  -- (b, c)
  second : term b ≡ outside b c
  second = by (same_or_not c (b + 1))
    where
      within : next_vertex p.n b ≡ b + 1
      within = next_within b (omega arith)

      by : (c ≡ b + 1) ⊎ (c ≡ b + 1 → ⊥) → term b ≡ outside b c
      by (inl e) = has b c b (of_the_next p.n b c kb kc e) (edge_yes b (b + 1) (is_b b refl) within (is_c (b + 1) (sym e)))
      by (inr d) =
          has_none b c b (not_from_0 p.n b c kb kc d (λ e. omega (arith, e)))
          (edge_no b (b + 1) (is_b b refl) within (no_corner (b + 1) (λ e. omega (arith, e)) (λ e. omega (arith, e)) (λ e. d (sym e))))

  -- (a, c), which closes the rim or is not on it
  third : term c ≡ outside a c
  third = by (same_or_not (c + 1) p.n) (same_or_not a 0)
    where
      far : c ≡ a + 1 → ⊥
      far e = omega (arith, e)

      at_c : is_corner t c ≡ true
      at_c = is_c c refl

      beyond : (c + 1 ≡ p.n → ⊥) → has_rim_edge p.n t c ≡ false
      beyond d =
          edge_no c (c + 1) at_c (next_within c (omega arith))
          (no_corner (c + 1) (λ e. omega (arith, e)) (λ e. omega (arith, e)) (λ e. omega (arith, e)))

      by : (c + 1 ≡ p.n) ⊎ (c + 1 ≡ p.n → ⊥) → (a ≡ 0) ⊎ (a ≡ 0 → ⊥) → term c ≡ outside a c
      by (inl e) (inl z) = has a c c (of_the_last p.n a c ka kc far z e) (edge_yes c 0 at_c (next_last c e) (is_0 z))
      by (inl e) (inr z) =
          has_none a c c (not_from_0 p.n a c ka kc far z)
          (edge_no c 0 at_c (next_last c e) (no_corner 0 (λ q. z (sym q)) (λ q. omega (arith, q)) (λ q. omega (arith, q))))
      by (inr d) (inl z) = has_none a c c (not_to_the_last p.n a c ka kc far z d) (beyond d)
      by (inr d) (inr z) = has_none a c c (not_from_0 p.n a c ka kc far z) (beyond d)

  elsewhere : (i : ℕ) → i < p.n → (i ≡ a → ⊥) → (i ≡ b → ⊥) → (i ≡ c → ⊥) → term i ≡ 0
  elsewhere i l x y z = term_no i (ap (λ (k : Bool). both k (is_corner t (next_vertex p.n i))) (no_corner i x y z))

  -- the own weight by the three edges is the area weight and the sum along the rim
  pub own_weight_along_the_rim : own_weight_of p.area_factor p.bend_factor (face_normal p t) (edges_of p t) ≡ own_weight p t
  own_weight_along_the_rim = omega (arith, three term a b c p.n ab bc cn elsewhere, first, second, third)

  pub own_weight_most : ValidPolygon p → own_weight p t ≤ max_own_weight
  own_weight_most v =
      let area : area_weight p t ≤ max_area_factor * max_length =
      area_weight_bound v.area_factor (length_bound (face_within {t = t} v (record { a<n = omega arith; b<n = omega arith; c<n = cn }))) in
      let bend : (x y : ℕ) → outside x y ≤ max_bend_factor * max_bend =
      λ x y. outside_bound p.bend_factor (face_normal p t) (outside_normal x y) v.bend_factor in
      omega (arith, own_weight_along_the_rim, area, bend a b, bend b c, bend a c)

  -- no own weight is above what a direct job may have
  pub own_weight_bound : ValidPolygon p → own_weight p t ≤ max_weight
  own_weight_bound v = le_trans (own_weight_most v) (lit≤ tt)

-- in numbers
pub own_weight_largest : max_own_weight ≡ 1280020000
own_weight_largest = refl
