-- The scans of the vertices for four corners or three, by what is left to scan. Assumes nothing.
use mathlib.Core.Path.{◌≡◌, sym, ◌∙◌, ap, subst}
use mathlib.Core.Bool.{Bool, true, false, not}
use Prim.Native.Nat.{ℕ, zero, suc, ◌+◌, ◌-◌, ◌≤◌, ◌<◌}
use native.Mathlib.Omega.{arith}
use Rattle.lists.specs.Lists.{both, every, some}
use Rattle.lists.proofs.Choice.{true_not_false, not_true_false}
use Rattle.lists.proofs.Ranges.{every_on, every_end, every_at, some_on, some_end}
use Rattle.lists.proofs.Bools.{both_no}
use Rattle.delaunay_search.specs.Search.{scanned_at}

-- a turn looks at a vertex
pub scanned_in : (n last i v : ℕ) → last < n → i < n + 1 → v ≡ scanned_at last i → v < n
scanned_in n last zero v h k e = omega (arith, e)
scanned_in n last (suc i) v h k e = omega (arith, e)

-- of n vertices, by the test whether one is strictly inside
module _ (n : ℕ) (inside : ℕ → Bool) where
  abbrev pub none_inside : Bool
  none_inside = every 0 n (λ w. not (inside w))

  -- none before v is
  abbrev pub Scanned : ℕ → Type 0
  Scanned v = every v n (λ w. not (inside w)) ≡ none_inside

  pub scan_on : (v : ℕ) → v < n → inside v ≡ false → Scanned v → Scanned (v + 1)
  scan_on v h e s = sym (every_on v n _ h (ap not e)) ∙ s

  -- turn i of a scan that looks at one vertex first
  pub scan_turn : (last i v : ℕ) → v ≡ scanned_at last i → v < n → inside v ≡ false → Scanned (i - 1) → Scanned (i + 1 - 1)
  scan_turn last zero v k h e s = s
  scan_turn last (suc i) v k h e s = subst Scanned (omega (arith, k)) (scan_on v h e (subst Scanned (ahead ∙ sym k) s))
    where
      ahead : suc i - 1 ≡ i
      ahead = omega arith

  -- all are scanned
  pub scan_end : (v : ℕ) → n ≤ v → Scanned v → none_inside ≡ true
  scan_end v h s = sym s ∙ every_end v n _ h

  scan_found : (v : ℕ) → v < n → inside v ≡ true → none_inside ≡ false
  scan_found v h e = not_true_false _ (λ t. true_not_false (every_at 0 n _ t v (omega arith) h) (ap not e))

  -- four corners or three count where they span what they should, and none is inside
  module _ (bad : Bool) where
    abbrev pub counts_by : Bool
    counts_by = both (not bad) none_inside

    pub not_counts_bad : bad ≡ true → counts_by ≡ false
    not_counts_bad e = ap (λ (t : Bool). both (not t) none_inside) e

    pub not_counts_inside : (v : ℕ) → v < n → inside v ≡ true → counts_by ≡ false
    not_counts_inside v h e = both_no (not bad) (scan_found v h e)

    pub counts_all : bad ≡ false → none_inside ≡ true → counts_by ≡ true
    counts_all e f = (λ i. both (not (e i)) none_inside) ∙ f

-- by the test whether one more is on the border
module _ (n : ℕ) (other : ℕ → Bool) where
  -- none before v is
  abbrev pub Passed : ℕ → Type 0
  Passed v = some v n other ≡ some 0 n other

  pub pass_on : (v : ℕ) → v < n → other v ≡ false → Passed v → Passed (v + 1)
  pass_on v h e s = sym (some_on v n other h e) ∙ s

  -- all are passed
  pub pass_end : (v : ℕ) → n ≤ v → Passed v → some 0 n other ≡ false
  pass_end v h s = sym s ∙ some_end v n other h
