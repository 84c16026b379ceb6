-- The number of the record at a position, by its tests. Assumes nothing.
use mathlib.Core.Path.{◌≡◌, refl, sym, ◌∙◌, subst}
use mathlib.Core.Bool.{Bool, true, false, cond}
use mathlib.Core.List.Memᴰ
use mathlib.Core.List.{List, [], ◌∷◌, Memᴰ}
use Prim.Native.Nat.{ℕ, suc, ◌≤◌, ◌<◌}
use native.Mathlib.Omega.{arith}
use borrow.Author.Tests.{eqb-true, eqb-false, eq-eqb, ne_eqb}
use lib.Dec.{eqb}
use lib.Ieee.{Float}
use Rattle.lists.proofs.Choice.{yes, no}
use Rattle.grid.specs.Number.{finite, in_range}
use Rattle.rim_file.specs.File.{offset, first_number, second_number, third_number}
use Rattle.lists.specs.Sums.{all_of}
use Rattle.rim_file.specs.Record.{known, height_of, numbers_code, number_of}
use Rattle.rim_file.proofs.Vertices.{tests, vertex_number}
use Rattle.rim_file.proofs.Floats.{UpTo, all_of_fails, all_of_not, numbers_most, finite_code, range_code}
use Rattle.reader.specs.Chain.{height_before, vertex_at_position}
use Rattle.reader.specs.Chain as chain
use Rattle.reader.specs.Order.{at_record}
use Rattle.reader.specs.Due.{HasRecords, kind_at, tail_zero_at, floats_at, FileDue, kind_unknown, no_height, not_finite, tail_not_zero, out_of_range}
use Rattle.reader.proofs.Heights.{height_unknown, no_height_known}

module _ (s : List ℕ) (i : ℕ) where
  abbrev pub point_floats : List Float
  point_floats = first_number s (offset s (chain.link s i)) ∷ second_number s (offset s (chain.link s i)) ∷ third_number s (offset s (chain.link s i)) ∷ []

  abbrev pub level_floats : List Float
  level_floats = first_number s (offset s (chain.link s i)) ∷ second_number s (offset s (chain.link s i)) ∷ []

  pub record_number : number_of (vertex_at_position s i)
      ≡ tests (eqb (kind_at s i) 1) (eqb (kind_at s i) 2) (known (height_before s i)) (tail_zero_at s i) point_floats level_floats
  record_number = vertex_number s (offset s (chain.link s i)) (known (height_before s i)) (height_of (height_before s i))

  -- the numbers of a record come before 18
  pub record_most : number_of (vertex_at_position s i) ≤ 9
  record_most = by (eqb (kind_at s i) 1) (eqb (kind_at s i) 2) (known (height_before s i)) (tail_zero_at s i) record_number
    where
      by : (one two kn tail : Bool) → number_of (vertex_at_position s i) ≡ tests one two kn tail point_floats level_floats
          → number_of (vertex_at_position s i) ≤ 9
      by true two kn tail e = omega (arith, e, numbers_most point_floats)
      by false true true true e = omega (arith, e, numbers_most level_floats)
      by false true true false e = omega (arith, e)
      by false true false tail e = omega (arith, e)
      by false false kn tail e = omega (arith, e)

  -- ---- of a level point
  level_number : kind_at s i ≡ 2 → number_of (vertex_at_position s i)
      ≡ cond (known (height_before s i)) (cond (tail_zero_at s i) (numbers_code level_floats) 8) 7
  level_number k = record_number ∙ no _ _ (ne_eqb (kind_at s i) 1 (λ e. omega arith)) ∙ yes _ _ (eq-eqb (kind_at s i) 2 k)

  -- ---- a number that is due on the record: the one that is given is at most that
  pub kind_given : (kind_at s i ≡ 1 → ⊥) → (kind_at s i ≡ 2 → ⊥) → number_of (vertex_at_position s i) ≡ 6
  kind_given a b = record_number ∙ no _ _ (ne_eqb (kind_at s i) 1 a) ∙ no _ _ (ne_eqb (kind_at s i) 2 b)

  pub height_given : kind_at s i ≡ 2 → ((j : ℕ) → j < i → kind_at s j ≡ 1 → ⊥) → number_of (vertex_at_position s i) ≡ 7
  height_given k none = level_number k ∙ no _ _ (no_height_known s i none)

  pub tail_given : kind_at s i ≡ 2 → tail_zero_at s i ≡ false → UpTo 8 (number_of (vertex_at_position s i))
  tail_given k t = by (known (height_before s i)) refl
    where
      by : (b : Bool) → known (height_before s i) ≡ b → UpTo 8 (number_of (vertex_at_position s i))
      by false p = let e : number_of (vertex_at_position s i) ≡ 7 = level_number k ∙ no _ _ p in record { some = omega arith; most = omega arith }
      by true p = let e : number_of (vertex_at_position s i) ≡ 8 = level_number k ∙ yes _ _ p ∙ no _ _ t in record { some = omega arith; most = omega arith }

  -- of a float: 7, 8, or what the floats give
  floats_given : (k : ℕ) (v : Float) → 8 ≤ k → Memᴰ v (floats_at s i) → ((vs : List Float) → Memᴰ v vs → UpTo k (numbers_code vs)) →
      UpTo k (number_of (vertex_at_position s i))
  floats_given k v h m code = by (eqb (kind_at s i) 1) (eqb (kind_at s i) 2) (known (height_before s i)) (tail_zero_at s i) refl refl refl refl
    where
      member : {vs : List Float} → floats_at s i ≡ vs → Memᴰ v vs
      member e = subst (λ (l : List Float). Memᴰ v l) e m

      upto : {c : ℕ} → number_of (vertex_at_position s i) ≡ c → UpTo k c → UpTo k (number_of (vertex_at_position s i))
      upto e u = record { some = omega (arith, u.some); most = omega (arith, u.most) }

      by : (one two kn tail : Bool) → eqb (kind_at s i) 1 ≡ one → eqb (kind_at s i) 2 ≡ two → known (height_before s i) ≡ kn → tail_zero_at s i ≡ tail →
          UpTo k (number_of (vertex_at_position s i))
      by true two kn tail a b c d = upto (record_number ∙ yes _ _ a) (code point_floats (member (yes _ _ a)))
      by false true true true a b c d = upto (record_number ∙ no _ _ a ∙ yes _ _ b ∙ yes _ _ c ∙ yes _ _ d) (code level_floats (member (no _ _ a ∙ yes _ _ b)))
      by false true true false a b c d = upto (record_number ∙ no _ _ a ∙ yes _ _ b ∙ yes _ _ c ∙ no _ _ d) (record { some = omega arith; most = h })
      by false true false tail a b c d = upto (record_number ∙ no _ _ a ∙ yes _ _ b ∙ no _ _ c) (record { some = omega arith; most = omega arith })
      by false false kn tail a b c d = absurd (Memᴰ.not-nil (member (no _ _ a ∙ no _ _ b)))

  pub finite_given : (v : Float) → Memᴰ v (floats_at s i) → finite v ≡ false → UpTo 8 (number_of (vertex_at_position s i))
  finite_given v m f =
      floats_given 8 v (omega arith) m
      (λ vs n. let e : numbers_code vs ≡ 8 = finite_code vs (all_of_not finite vs v n f) in record { some = omega arith; most = omega arith })

  pub range_given : (v : Float) → Memᴰ v (floats_at s i) → in_range v ≡ false → UpTo 9 (number_of (vertex_at_position s i))
  range_given v m f = floats_given 9 v (omega arith) m (λ vs n. range_code vs (all_of_not in_range vs v n f))

  -- ---- the number that is given is due
  module _ (limit : ℕ) (has : HasRecords s (suc i)) where
    floats_due : (vs : List Float) (c : ℕ) → floats_at s i ≡ vs → numbers_code vs ≡ suc c → FileDue limit s (at_record i) (suc c)
    unfolding numbers_code
    floats_due vs c u e = by (all_of finite vs) (all_of in_range vs) refl refl e
      where
        by : (f r : Bool) → all_of finite vs ≡ f → all_of in_range vs ≡ r → ◌≡◌ {A = ℕ} (cond f (cond r 0 9) 8) (suc c) → FileDue limit s (at_record i) (suc c)
        by false r p q d =
            let w = all_of_fails finite vs p in
            subst (λ (k : ℕ). FileDue limit s (at_record i) k) d
            (not_finite i w.value has (subst (λ (l : List Float). Memᴰ w.value l) (sym u) w.member) w.fails)
        by true false p q d =
            let w = all_of_fails in_range vs q in
            subst (λ (k : ℕ). FileDue limit s (at_record i) k) d
            (out_of_range i w.value has (subst (λ (l : List Float). Memᴰ w.value l) (sym u) w.member) w.fails)
        by true true p q d = absurd (omega (arith, d))

    pub record_due : (c : ℕ) → number_of (vertex_at_position s i) ≡ suc c → FileDue limit s (at_record i) (suc c)
    record_due c e = by (eqb (kind_at s i) 1) (eqb (kind_at s i) 2) (known (height_before s i)) (tail_zero_at s i) refl refl refl refl (sym record_number ∙ e)
      where
        by : (one two kn tail : Bool) → eqb (kind_at s i) 1 ≡ one → eqb (kind_at s i) 2 ≡ two → known (height_before s i) ≡ kn → tail_zero_at s i ≡ tail →
            tests one two kn tail point_floats level_floats ≡ suc c → FileDue limit s (at_record i) (suc c)
        by true two kn tail a b k t d = floats_due point_floats c (yes _ _ a) d
        by false true true true a b k t d = floats_due level_floats c (no _ _ a ∙ yes _ _ b) d
        by false true true false a b k t d = subst (λ (k : ℕ). FileDue limit s (at_record i) k) d (tail_not_zero i has (eqb-true (kind_at s i) 2 b) t)
        by false true false tail a b k t d =
            subst (λ (k : ℕ). FileDue limit s (at_record i) k) d (no_height i has (eqb-true (kind_at s i) 2 b) (height_unknown s i k))
        by false false kn tail a b k t d =
            subst (λ (k : ℕ). FileDue limit s (at_record i) k) d (kind_unknown i has (eqb-false (kind_at s i) 1 a) (eqb-false (kind_at s i) 2 b))
