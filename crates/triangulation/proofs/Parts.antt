-- Triangulations by recursion, in preorder, and their edge counts. Assumes nothing.
use Prim.Native.Nat.{ℕ, ◌+◌, ◌-◌, ◌≤◌, ◌<◌, min}
use mathlib.Core.Path.{◌≡◌, refl, ap, ap₂}
use mathlib.Core.Bool.{Bool, true, false}
use mathlib.Core.Logic.{◌⊎◌, inl, inr, ⊎_elim, ◌≢◌}
use mathlib.Core.List.{List, [], ◌∷◌, ◌++◌}
use native.Mathlib.Omega.{arith}
use lib.ListN.{length, length-append}
use lib.Dec.{eqb}
use borrow.Author.Tests.{eqb-true, eqb-false}
use Rattle.lists.specs.Lists.{both, either}
use Rattle.lists.specs.Sums.{only}
use Rattle.triangulation.specs.Triangulations.{Problem, ValidProblem, long_edge, short_edge, count_between, count_outside}
use Rattle.triangulation.proofs.Sums.{sum_append}

-- 1 where (i, j) is the edge (p, q)
abbrev pub is_edge : ℕ → ℕ → ℕ → ℕ → ℕ
is_edge i j p q = only (both (eqb i p) (eqb j q)) 1

pub data IsEdge (i j p q : ℕ) : Type 0 where
  hit : i ≡ p → j ≡ q → is_edge i j p q ≡ 1 → IsEdge i j p q
  miss₁ : i ≢ p → is_edge i j p q ≡ 0 → IsEdge i j p q
  miss₂ : j ≢ q → is_edge i j p q ≡ 0 → IsEdge i j p q

pub is_edge_cases : (i j p q : ℕ) → IsEdge i j p q
is_edge_cases i j p q = go (eqb i p) (eqb j q) refl refl
  where
    go : (x y : Bool) → eqb i p ≡ x → eqb j q ≡ y → IsEdge i j p q
    go true true e f = hit (eqb-true i p e) (eqb-true j q f) (rw (e, f))
    go false true e f = miss₁ (eqb-false i p e) (rw e)
    go false false e f = miss₁ (eqb-false i p e) (rw e)
    go true false e f = miss₂ (eqb-false j q f) (rw (e, f))

-- 1 where (p, q) is a rim edge between i and j
abbrev pub is_step : ℕ → ℕ → ℕ → ℕ → ℕ
is_step i j p q = only (eqb q (p + 1)) (min 1 (p + 1 - i) - min 1 (p + 1 - j))

pub data IsStep (i j p q : ℕ) : Type 0 where
  hit : q ≡ p + 1 → is_step i j p q ≡ min 1 (p + 1 - i) - min 1 (p + 1 - j) → IsStep i j p q
  miss : q ≢ p + 1 → is_step i j p q ≡ 0 → IsStep i j p q

pub is_step_cases : (i j p q : ℕ) → IsStep i j p q
is_step_cases i j p q = go (eqb q (p + 1)) refl
  where
    go : (x : Bool) → eqb q (p + 1) ≡ x → IsStep i j p q
    go true e = hit (eqb-true q (p + 1) e) (rw e)
    go false e = miss (eqb-false q (p + 1) e) (rw e)

past_mono : (p : ℕ) {i j : ℕ} → i < j → min 1 (p + 1 - j) ≤ min 1 (p + 1 - i)
past_mono p h = omega arith

telescope : (x y z : ℕ) → y ≤ x → z ≤ y → (x - y) + (y - z) ≡ x - z
telescope x y z h k = omega arith

is_step_split : (i x j p q : ℕ) → i < x → x < j → is_step i x p q + is_step x j p q ≡ is_step i j p q
is_step_split i x j p q h k = go (eqb q (p + 1))
  where
    go : (b : Bool) → only b (min 1 (p + 1 - i) - min 1 (p + 1 - x)) + only b (min 1 (p + 1 - x) - min 1 (p + 1 - j))
        ≡ only b (min 1 (p + 1 - i) - min 1 (p + 1 - j))
    go true = telescope _ _ _ (past_mono p h) (past_mono p k)
    go false = refl

step_is : (i j p q : ℕ) → j ≡ i + 1 → is_edge i j p q ≡ is_step i j p q
step_is i j p q e = go (is_edge_cases i j p q) (is_step_cases i j p q)
  where
    go : IsEdge i j p q → IsStep i j p q → is_edge i j p q ≡ is_step i j p q
    go (hit h k t) (hit r s) = omega arith
    go (hit h k t) (miss r s) = absurd (omega arith)
    go (miss₁ h t) (hit r s) = omega arith
    go (miss₁ h t) (miss r s) = omega arith
    go (miss₂ h t) (hit r s) = omega arith
    go (miss₂ h t) (miss r s) = omega arith

short_edge_split : (a b c p q : ℕ) → a < b → only (either (both (eqb a p) (eqb b q)) (both (eqb b p) (eqb c q))) 1 ≡ is_edge a b p q + is_edge b c p q
short_edge_split a b c p q h = go (eqb a p) (eqb b p) (eqb b q) (eqb c q) refl refl
  where
    go : (x y z w : Bool) → eqb a p ≡ x → eqb b p ≡ y → only (either (both x z) (both y w)) 1 ≡ only (both x z) 1 + only (both y w) 1
    go true true z w e f = absurd (omega (arith, eqb-true a p e, eqb-true b p f))
    go true false true w e f = refl
    go true false false w e f = refl
    go false true z true e f = refl
    go false true z false e f = refl
    go false false z w e f = refl

-- z is 0, or is 1 and (p, q) is no rim edge and lies within i to j
abbrev pub Within : ℕ → ℕ → ℕ → ℕ → ℕ → Type 0
Within i j p q z = (z ≡ 0) ⊎ ((z ≡ 1) × (i ≤ p) × (p + 2 ≤ q) × (q ≤ j))

within_node : {i x j p q y z a c : ℕ} → i < x → x < j → a ≡ i → c ≡ j → IsEdge a c p q → Within i x p q y → Within x j p q z →
    Within i j p q (is_edge a c p q + (y + z))
within_node h k ea ec (hit e f t) (inl y) (inl z) = inr (omega arith)
within_node h k ea ec (hit e f t) (inr y) (inl z) = absurd (omega arith)
within_node h k ea ec (hit e f t) (inl y) (inr z) = absurd (omega arith)
within_node h k ea ec (hit e f t) (inr y) (inr z) = absurd (omega arith)
within_node h k ea ec (miss₁ e t) (inl y) (inl z) = inl (omega arith)
within_node h k ea ec (miss₁ e t) (inr y) (inl z) = inr (omega arith)
within_node h k ea ec (miss₁ e t) (inl y) (inr z) = inr (omega arith)
within_node h k ea ec (miss₁ e t) (inr y) (inr z) = absurd (omega arith)
within_node h k ea ec (miss₂ e t) (inl y) (inl z) = inl (omega arith)
within_node h k ea ec (miss₂ e t) (inr y) (inl z) = inr (omega arith)
within_node h k ea ec (miss₂ e t) (inl y) (inr z) = inr (omega arith)
within_node h k ea ec (miss₂ e t) (inr y) (inr z) = absurd (omega arith)

module _ (job : Problem) where
  -- the row weight of the first triangle of a list to the triangle o that it hangs on
  abbrev pub hinge_weight : ℕ → List ℕ → ℕ
  hinge_weight o [] = 0
  hinge_weight o (u ∷ l) = job.row o u

  -- `Part i j l x`: l lists a triangulation of the part from i to j in preorder, and x is its total.
  pub data Part : ℕ → ℕ → List ℕ → ℕ → Type 0 where
    edge : {i j : ℕ} → j ≡ i + 1 → Part i j [] 0
    node : {i j : ℕ} {l r : List ℕ} {x y : ℕ} (u : ℕ) → u < job.size → job.a u ≡ i → job.c u ≡ j → Part i (job.b u) l x → Part (job.b u) j r y
        → Part i j (u ∷ (l ++ r)) (job.weight u + (x + hinge_weight u l) + (y + hinge_weight u r))

  -- a part has a triangle for each vertex between its ends
  pub part_length : {i j : ℕ} {l : List ℕ} {x : ℕ} → Part i j l x → length l + i + 1 ≡ j
  part_length (edge e) = omega arith
  part_length (node {l = l} {r = r} u h ei ej wl wr) = omega (arith, part_length wl, part_length wr, length-append l r)

  module _ (good : ValidProblem job) where
    -- each edge is in as many triangles on one side as on the other, but for the edge (i, j) and the rim
    pub boundary : {i j : ℕ} {l : List ℕ} {x : ℕ} → Part i j l x → (p q : ℕ) → count_outside job l p q + is_edge i j p q
        ≡ count_between job l p q + is_step i j p q
    unfolding count_between count_outside
    boundary (edge {i} {j} e) p q = omega (arith, step_is i j p q e)
    boundary (node {i} {j} {l} {r} u h ei ej wl wr) p q =
        omega (
          arith,
          boundary wl p q,
          boundary wr p q,
          sum_append (λ k. only (long_edge job p q k) 1) l r,
          sum_append (λ k. only (short_edge job p q k) 1) l r,
          short_edge_split (job.a u) (job.b u) (job.c u) p q (good.ab u h),
          ap₂ (λ x y. is_edge x y p q) ei ej,
          ap (λ x. is_edge x (job.b u) p q) ei,
          ap (λ y. is_edge (job.b u) y p q) ej,
          is_step_split i (job.b u) j p q (omega (arith, ei, good.ab u h)) (omega (arith, ej, good.bc u h)),
        )

    -- at most one triangle is under an edge, and it is within i to j
    pub within : {i j : ℕ} {l : List ℕ} {x : ℕ} → Part i j l x → (p q : ℕ) → Within i j p q (count_between job l p q)
    unfolding count_between
    within (edge e) p q = inl refl
    within (node {i} {j} {l} {r} u h ei ej wl wr) p q =
        rw (sum_append (λ k. only (long_edge job p q k) 1) l r)
        (within_node (omega (arith, ei, good.ab u h)) (omega (arith, ej, good.bc u h)) ei ej
        (is_edge_cases (job.a u) (job.c u) p q) (within wl p q) (within wr p q))

    pub between_le : {i j : ℕ} {l : List ℕ} {x : ℕ} → Part i j l x → (p q : ℕ) → count_between job l p q ≤ 1
    between_le w p q = ⊎_elim (λ h. omega arith) (λ h. omega arith) (within w p q)
