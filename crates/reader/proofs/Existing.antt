-- A number is due only on what there is: 5 and 20 on no loop, 6 to 9 and 18 on no record that a link misses, 11 on no record that one of 6 to 9 refuses.
-- Assumes nothing.
use mathlib.Core.Path.{◌≡◌, refl}
use mathlib.Core.Bool.{false}
use mathlib.Core.List.{List, ◌∷◌, ◌++◌}
use Prim.Native.Nat.{ℕ, zero, suc, ◌+◌, ◌≤◌, ◌<◌}
use native.Mathlib.Omega.{arith}
use lib.ListN.{length, replicate}
use Rattle.lists.proofs.Choice.{true_not_false}
use Rattle.grid.specs.declared.GridPoint.{GridPoint}
use Rattle.rim_file.specs.File.{header_size, layout_of, header_start, record_count}
use Rattle.reader.specs.Chain.{link}
use Rattle.reader.specs.Order.{FilePlace, link_to, at_record}
use Rattle.reader.specs.Due.{InFile, kind_at, tail_zero_at, OnGridAt, HasVertex, a_point, a_level_point, FileDue, link_over, met_again}
use Rattle.reader.specs.Due.{too_many, above_limit, kind_unknown, no_height, not_finite, tail_not_zero, out_of_range, normal_out_of_range}

-- ---- a chain that comes back within the limit has no more records than that
module _ (limit : ℕ) (s : List ℕ) (i j : ℕ) (h : i < j) (l : j ≤ limit) (e : link s i ≡ link s j) where
  pub no_5_on_loop : (p : FilePlace) → FileDue limit s p 5 → ⊥
  no_5_on_loop _ (too_many has m) = has.different i j h (omega arith) e

  pub no_20_on_loop : (p : FilePlace) → FileDue limit s p 20 → ⊥
  no_20_on_loop _ (above_limit has m) = has.different i j h (omega arith) e

-- a loop of three points: 4 is due at position 3, where the chain comes back to record 1, and neither 5 nor 20 is due anywhere
point_then : ℕ → List ℕ
point_then next = next ∷ 0 ∷ 1 ∷ replicate 13 0

pub loop : List ℕ
unfolding point_then
loop = (1 ∷ 0 ∷ 3 ∷ 0 ∷ 1 ∷ 0 ∷ 1 ∷ replicate 1 0) ++ point_then 2 ++ point_then 3 ++ point_then 1

loop_record : (k : ℕ) → 0 < k → k ≤ 3 → InFile loop k
unfolding loop layout_of
loop_record k h l =
    let n : length loop ≡ 56 = refl in
    let r : record_count loop ≡ 3 = refl in
    record { numbered = h; counted = omega arith; bytes = omega arith }

loop_in_file : (i : ℕ) → i < 3 → InFile loop (link loop i)
unfolding loop link layout_of
loop_in_file zero h = loop_record 1 (omega arith) (omega arith)
loop_in_file (suc zero) h = loop_record 2 (omega arith) (omega arith)
loop_in_file (suc (suc zero)) h = loop_record 3 (omega arith) (omega arith)
loop_in_file (suc (suc (suc i))) h = absurd (omega arith)

loop_different : (i j : ℕ) → i < j → j < 3 → link loop i ≡ link loop j → ⊥
unfolding loop link layout_of
loop_different i zero h l e = omega arith
loop_different zero (suc zero) h l e = let d : ◌≡◌ {A = ℕ} 1 2 = e in omega arith
loop_different zero (suc (suc zero)) h l e = let d : ◌≡◌ {A = ℕ} 1 3 = e in omega arith
loop_different (suc zero) (suc (suc zero)) h l e = let d : ◌≡◌ {A = ℕ} 2 3 = e in omega arith
loop_different (suc i) (suc zero) h l e = omega arith
loop_different (suc (suc i)) (suc (suc zero)) h l e = omega arith
loop_different i (suc (suc (suc j))) h l e = omega arith

loop_returns : link loop 0 ≡ link loop 3
unfolding loop link layout_of
loop_returns = refl

pub loop_4 : (limit : ℕ) → FileDue limit loop (link_to 3) 4
unfolding loop layout_of
loop_4 limit = met_again 0 3 (omega arith) (record { has_header = header; in_file = loop_in_file; different = loop_different }) loop_returns
  where
    header : header_start loop + header_size ≤ length loop
    header = let n : length loop ≡ 56 = refl in omega arith

pub loop_no_5 : (limit : ℕ) → 3 ≤ limit → (p : FilePlace) → FileDue limit loop p 5 → ⊥
loop_no_5 limit h = no_5_on_loop limit loop 0 3 (omega arith) h loop_returns

pub loop_no_20 : (limit : ℕ) → 3 ≤ limit → (p : FilePlace) → FileDue limit loop p 20 → ⊥
loop_no_20 limit h = no_20_on_loop limit loop 0 3 (omega arith) h loop_returns

-- ---- a link above R leads to no record: only 3 is due where it leads
module _ (limit : ℕ) (s : List ℕ) where
  pub only_3_over : (i k : ℕ) → record_count s < link s i → FileDue limit s (link_to i) k → k ≡ 3
  only_3_over _ _ h (link_over i has l) = refl
  only_3_over _ _ h (met_again j i l has e) = absurd (omega (arith, (has.in_file j l).counted))
  only_3_over _ _ h (too_many has m) = absurd (omega (arith, (has.in_file limit (omega arith)).counted))
  only_3_over _ _ h (above_limit has m) = absurd (omega (arith, (has.in_file limit (omega arith)).counted))

  pub no_record_over : (i k : ℕ) → record_count s < link s i → FileDue limit s (at_record i) k → ⊥
  no_record_over _ _ h (kind_unknown i has a b) = omega (arith, (has.in_file i (omega arith)).counted)
  no_record_over _ _ h (no_height i has k none) = omega (arith, (has.in_file i (omega arith)).counted)
  no_record_over _ _ h (not_finite i v has m f) = omega (arith, (has.in_file i (omega arith)).counted)
  no_record_over _ _ h (tail_not_zero i has k t) = omega (arith, (has.in_file i (omega arith)).counted)
  no_record_over _ _ h (out_of_range i v has m f) = omega (arith, (has.in_file i (omega arith)).counted)
  no_record_over _ _ h (normal_out_of_range i c has m f) = omega (arith, (has.in_file i (omega arith)).counted)

-- ---- a record on which one of 6 to 9 is due gives no vertex, so none for 11
module _ (s : List ℕ) where
  vertex_on_grid : (i : ℕ) (p : GridPoint) → HasVertex s i p → OnGridAt s i
  vertex_on_grid _ _ (a_point i k g) = g
  vertex_on_grid _ _ (a_level_point i j k t g l h) = g

  vertex_kind : (i : ℕ) (p : GridPoint) → HasVertex s i p → (kind_at s i ≡ 1 → ⊥) → (kind_at s i ≡ 2 → ⊥) → ⊥
  vertex_kind _ _ (a_point i k g) a b = a k
  vertex_kind _ _ (a_level_point i j k t g l h) a b = b k

  vertex_height : (i : ℕ) (p : GridPoint) → HasVertex s i p → kind_at s i ≡ 2 → ((j : ℕ) → j < i → kind_at s j ≡ 1 → ⊥) → ⊥
  vertex_height _ _ (a_point i k g) e none = omega arith
  vertex_height _ _ (a_level_point i j k t g l h) e none = none j l.before l.is_point

  vertex_tail : (i : ℕ) (p : GridPoint) → HasVertex s i p → kind_at s i ≡ 2 → tail_zero_at s i ≡ false → ⊥
  vertex_tail _ _ (a_point i k g) e f = omega arith
  vertex_tail _ _ (a_level_point i j k t g l h) e f = true_not_false t f

  pub refused_no_vertex : {limit : ℕ} (i k : ℕ) (p : GridPoint) → k ≤ 9 → FileDue limit s (at_record i) k → HasVertex s i p → ⊥
  refused_no_vertex _ _ p l (kind_unknown i has a b) v = vertex_kind i p v a b
  refused_no_vertex _ _ p l (no_height i has k none) v = vertex_height i p v k none
  refused_no_vertex _ _ p l (not_finite i x has m f) v = true_not_false ((vertex_on_grid i p v).all_finite x m) f
  refused_no_vertex _ _ p l (tail_not_zero i has k t) v = vertex_tail i p v k t
  refused_no_vertex _ _ p l (out_of_range i x has m f) v = true_not_false ((vertex_on_grid i p v).all_in_range x m) f
  refused_no_vertex _ _ p l (normal_out_of_range i c has m f) v = omega arith
