-- How many candidates there can be: strictly ascending triples below n are at most n (n − 1) (n − 2) / 6, so at most `max_triples`. Assumes nothing.
use mathlib.Core.Path.{◌≡◌, refl, ap}
use mathlib.Core.List.{List}
use Prim.Native.Nat.{ℕ, zero, suc, ◌+◌, ◌-◌, ◌≤◌, ◌<◌}
use native.Mathlib.Omega.{arith}
use native.Mathlib.Nat.{le_trans}
use lib.ListN.{length}
use Rattle.terms.specs.Limits.{max_vertices, max_triples}
use Rattle.terms.specs.Entries.{entry_at, vertex_a, vertex_b, vertex_c}
use Rattle.jobs.proofs.Order.{Before, by_a, by_b, by_c}
use Rattle.jobs.proofs.Lists.{Ordered, Candidates}

-- k over 2, and k over 3
unfoldable pub choose2 : ℕ → ℕ
choose2 zero = 0
choose2 (suc k) = choose2 k + k

unfoldable pub choose3 : ℕ → ℕ
choose3 zero = 0
choose3 (suc k) = choose3 k + choose2 k

choose2_up : (x y : ℕ) → x ≤ y → choose2 x ≤ choose2 y
unfolding choose2
choose2_up zero y h = omega arith
choose2_up (suc x) zero h = absurd (omega arith)
choose2_up (suc x) (suc y) h = omega (arith, choose2_up x y (omega arith))

choose3_up : (x y : ℕ) → x ≤ y → choose3 x ≤ choose3 y
unfolding choose3
choose3_up zero y h = omega arith
choose3_up (suc x) zero h = absurd (omega arith)
choose3_up (suc x) (suc y) h = omega (arith, choose3_up x y (omega arith), choose2_up x y (omega arith))

-- the place of p > q > r among all such triples, counted from the smallest
abbrev place : ℕ → ℕ → ℕ → ℕ
place p q r = choose3 p + choose2 q + r

place_below : (p q r k : ℕ) → r < q → q < p → p < k → place p q r < choose3 k
unfolding choose2 choose3
place_below p q r k h g f = omega (arith, choose2_up (suc q) p (omega arith), choose3_up (suc p) k (omega arith))

place_p : (p q r p' q' r' : ℕ) → r < q → q < p → p < p' → place p q r < place p' q' r'
place_p p q r p' q' r' h g f = omega (arith, place_below p q r p' h g f)

place_q : (p q r q' r' : ℕ) → r < q → q < q' → place p q r < place p q' r'
unfolding choose2
place_q p q r q' r' h g = omega (arith, choose2_up (suc q) q' (omega arith))

-- the place of a candidate among all triples below n, counted from the last
module _ (n : ℕ) where
  abbrev from_last : List ℕ → ℕ
  from_last t = place (n - 1 - vertex_a t) (n - 1 - vertex_b t) (n - 1 - vertex_c t)

  from_last_below : (t : List ℕ) → Ordered n t → from_last t < choose3 n
  from_last_below t o =
      let x = o.a_b in let y = o.b_c in let z = o.c_n in
      place_below (n - 1 - vertex_a t) (n - 1 - vertex_b t) (n - 1 - vertex_c t) n (omega arith) (omega arith) (omega arith)

  from_last_falls : (s t : List ℕ) → Ordered n s → Ordered n t → Before s t → from_last t < from_last s
  from_last_falls s t o q (by_a h) =
      let x = q.a_b in let y = q.b_c in let z = q.c_n in
      place_p (n - 1 - vertex_a t) (n - 1 - vertex_b t) (n - 1 - vertex_c t) _ _ _ (omega arith) (omega arith) (omega arith)
  from_last_falls s t o q (by_b e h) =
      let x = q.a_b in let y = q.b_c in let z = q.c_n in
      let d = ap (λ a. choose3 (n - 1 - a)) e in
      omega (
        arith,
        place_q (n - 1 - vertex_a t) (n - 1 - vertex_b t) (n - 1 - vertex_c t) (n - 1 - vertex_b s) (n - 1 - vertex_c s) (omega arith)
            (omega arith),
      )
  from_last_falls s t o q (by_c e f h) =
      let z = q.c_n in
      let d = ap (λ a. choose3 (n - 1 - a)) e in
      let g = ap (λ b. choose2 (n - 1 - b)) f in
      omega arith

  module _ (candidates : List (List ℕ)) (c : Candidates n candidates) where
    left_below : (i : ℕ) → i < length candidates → from_last (entry_at candidates i) + i < choose3 n
    left_below zero h = omega (arith, from_last_below (entry_at candidates 0) (c.ordered 0 h))
    left_below (suc i) h =
        let o = c.ordered i (omega arith) in
        let f = from_last_falls (entry_at candidates i) (entry_at candidates (suc i)) o (c.ordered (suc i) h) (c.ascending i (suc i) (omega arith) h) in
        omega (arith, left_below i (omega arith))

    pub at_most_choose3 : length candidates ≤ choose3 n
    at_most_choose3 = go (length candidates) refl
      where
        go : (m : ℕ) → length candidates ≡ m → length candidates ≤ choose3 n
        go zero e = omega arith
        go (suc m) e = omega (arith, left_below m (omega arith))

    -- where 14 and 15 are not due, candidate numbers fit 16 bits
    pub candidates_bounded : n ≤ max_vertices → length candidates ≤ max_triples
    unfolding choose2 choose3
    candidates_bounded h = le_trans at_most_choose3 (choose3_up n max_vertices h)
