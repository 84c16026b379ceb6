-- What a record's vertex says of the record. Assumes nothing.
use mathlib.Core.Path.{◌≡◌, refl, sym, ap, ◌∙◌, subst}
use mathlib.Core.Bool.{Bool, true, false, cond}
use mathlib.Core.List.{List, [], ◌∷◌}
use Prim.Native.Nat.{ℕ, zero, suc, ◌<◌}
use native.Mathlib.Omega.{arith}
use lib.IntN.{ℤ}
use lib.Dec.{eqb}
use lib.Ieee.{Float}
use Rattle.lists.specs.Lists.{both}
use Rattle.lists.proofs.Choice.{both_left, both_right}
use Rattle.grid.specs.declared.GridPoint.{GridPoint}
use Rattle.grid.specs.Number.{finite, in_range, round_eighths}
use Rattle.grid.specs.Point.{point, OnGrid, PointOnGrid}
use Rattle.grid.proofs.HalfStep.{in_range_on_grid}
use Rattle.rim_file.specs.File.{kind, first_number, second_number, third_number, tail_zero}
use Rattle.lists.specs.Sums.{all_of}
use Rattle.rim_file.specs.Record.{known, height_of, record_at, Height, Vertex, numbers_code, vertex_of, number_of}
use Rattle.std.proofs.Common.{None, Some, Ok, Err}
use Rattle.codes.specs.Refusals.{refusal, or_refused}

-- the number of no due number is 0, and then all numbers are finite and in range
code_none : (f r : Bool) → ◌≡◌ {A = ℕ} (cond f (cond r 0 9) 8) 0 → (f ≡ true) × (r ≡ true)
code_none true true e = (refl, refl)
code_none true false e = absurd (omega (arith, e))
code_none false r e = absurd (omega (arith, e))

pub numbers_fine : (vs : List Float) → numbers_code vs ≡ 0 → (all_of finite vs ≡ true) × (all_of in_range vs ≡ true)
unfolding numbers_code
numbers_fine vs e = code_none (all_of finite vs) (all_of in_range vs) e

-- a vertex where a number could be due
or_refused_lem : (k : ℕ) (p q : GridPoint) → or_refused k p ≡ Ok q → (k ≡ 0) × (p ≡ q)
or_refused_lem zero p q e = (refl, cc)
or_refused_lem (suc k) p q e = absurd (let z : ◌≡◌ {A = ℕ} 0 1 = cc in omega arith)

unless_positive : (k j : ℕ) (p : GridPoint) → or_refused k p ≡ Err (refusal j) → 0 < j
unless_positive zero j p e = absurd (let z : ◌≡◌ {A = ℕ} 0 1 = cc in omega arith)
unless_positive (suc k) j p e = let z : suc k ≡ j = ap (number_of {A = GridPoint}) e in omega arith

-- what is known of a record that has a vertex, at the height h before it
pub record Vertexed (s : List ℕ) (i : ℕ) (h : Height) (p : GridPoint) : Type 0 where
  pub on_grid : PointOnGrid p
  pub height_after : cond (eqb (kind s i) 1) (Some (round_eighths (third_number s i))) h ≡ Some p.z

point_vertexed : (x y z : Float) (p : GridPoint) →
    or_refused (numbers_code (x ∷ y ∷ z ∷ [])) (point (round_eighths x) (round_eighths y) (round_eighths z)) ≡ Ok p →
    PointOnGrid p × (round_eighths z ≡ p.z)
point_vertexed x y z p e =
    let d = or_refused_lem (numbers_code (x ∷ y ∷ z ∷ [])) (point (round_eighths x) (round_eighths y) (round_eighths z)) p e in
    let r = (numbers_fine (x ∷ y ∷ z ∷ []) d.0).1 in
    let yz = both_right (in_range x) (both (in_range y) (both (in_range z) true)) r in
    let zt = both_right (in_range y) (both (in_range z) true) yz in (
      subst PointOnGrid d.1 (record {
        x = in_range_on_grid x (both_left (in_range x) (both (in_range y) (both (in_range z) true)) r);
        y = in_range_on_grid y (both_left (in_range y) (both (in_range z) true) yz);
        z = in_range_on_grid z (both_left (in_range z) true zt);
      }),
      ap (λ (q : GridPoint). q.z) d.1,
    )

level_vertexed : (x y : Float) (h : ℤ) (p : GridPoint) → OnGrid h
    → or_refused (numbers_code (x ∷ y ∷ [])) (point (round_eighths x) (round_eighths y) h) ≡ Ok p →
    PointOnGrid p × (h ≡ p.z)
level_vertexed x y h p g e =
    let d = or_refused_lem (numbers_code (x ∷ y ∷ [])) (point (round_eighths x) (round_eighths y) h) p e in
    let r = (numbers_fine (x ∷ y ∷ []) d.0).1 in
    let yt = both_right (in_range x) (both (in_range y) true) r in (
      subst PointOnGrid d.1 (record {
        x = in_range_on_grid x (both_left (in_range x) (both (in_range y) true) r);
        y = in_range_on_grid y (both_left (in_range y) true yt);
        z = g;
      }),
      ap (λ (q : GridPoint). q.z) d.1,
    )

known_is : (h : Height) → known h ≡ true → h ≡ Some (height_of h)
known_is None e = absurd (let z : ◌≡◌ {A = ℕ} 1 0 = ap (λ (b : Bool). cond b 0 1) e in omega arith)
known_is (Some z) e = refl

-- the record by its tests
unfoldable pub shape : (one two known tail : Bool) (x y z : Float) (h : ℤ) → Vertex
shape one two known tail x y z h =
    cond one (or_refused (numbers_code (x ∷ y ∷ z ∷ [])) (point (round_eighths x) (round_eighths y) (round_eighths z)))
    (cond two (cond known (cond tail (or_refused (numbers_code (x ∷ y ∷ [])) (point (round_eighths x) (round_eighths y) h)) (Err (refusal 8))) (Err (refusal 7)))
    (Err (refusal 6)))

pub shape_is : (one two known tail : Bool) (s : List ℕ) (i : ℕ) (h : ℤ) → eqb (kind s i) 1 ≡ one → eqb (kind s i) 2 ≡ two → tail_zero s i ≡ tail →
    vertex_of (record_at s i known) h ≡ shape one two known tail (first_number s i) (second_number s i) (third_number s i) h
unfolding vertex_of record_at shape
shape_is true two known tail s i h a b c = rw a
shape_is false true true true s i h a b c = rw (a, b, c)
shape_is false true true false s i h a b c = rw (a, b, c)
shape_is false true false tail s i h a b c = rw (a, b)
shape_is false false known tail s i h a b c = rw (a, b)

vertexed_by : (one two kn tail : Bool) (s : List ℕ) (i : ℕ) (h : Height) (p : GridPoint) → eqb (kind s i) 1 ≡ one → known h ≡ kn → OnGrid (height_of h) →
    shape one two kn tail (first_number s i) (second_number s i) (third_number s i) (height_of h) ≡ Ok p → Vertexed s i h p
unfolding shape
vertexed_by true two kn tail s i h p a k g e =
    let d = point_vertexed (first_number s i) (second_number s i) (third_number s i) p e in
    record { on_grid = d.0; height_after = rw a (ap Some d.1) }
vertexed_by false true true true s i h p a k g e =
    let d = level_vertexed (first_number s i) (second_number s i) (height_of h) p g e in
    record { on_grid = d.0; height_after = rw a (known_is h k ∙ ap Some d.1) }
vertexed_by false true true false s i h p a k g e = absurd (let z : ◌≡◌ {A = ℕ} 0 1 = cc in omega arith)
vertexed_by false true false tail s i h p a k g e = absurd (let z : ◌≡◌ {A = ℕ} 0 1 = cc in omega arith)
vertexed_by false false kn tail s i h p a k g e = absurd (let z : ◌≡◌ {A = ℕ} 0 1 = cc in omega arith)

pub vertexed : (s : List ℕ) (i : ℕ) (h : Height) (p : GridPoint) → OnGrid (height_of h) →
    vertex_of (record_at s i (known h)) (height_of h) ≡ Ok p → Vertexed s i h p
vertexed s i h p g e =
    vertexed_by (eqb (kind s i) 1) (eqb (kind s i) 2) (known h) (tail_zero s i) s i h p refl refl g
    (sym (shape_is (eqb (kind s i) 1) (eqb (kind s i) 2) (known h) (tail_zero s i) s i (height_of h) refl refl refl) ∙ e)

-- a record is never refused with 0
refused_by : (one two kn tail : Bool) (x y z : Float) (h : ℤ) (k : ℕ) → shape one two kn tail x y z h ≡ Err (refusal k) → 0 < k
unfolding shape
refused_by true two kn tail x y z h k e = unless_positive (numbers_code (x ∷ y ∷ z ∷ [])) k (point (round_eighths x) (round_eighths y) (round_eighths z)) e
refused_by false true true true x y z h k e = unless_positive (numbers_code (x ∷ y ∷ [])) k (point (round_eighths x) (round_eighths y) h) e
refused_by false true true false x y z h k e = let d : ◌≡◌ {A = ℕ} 8 k = ap (number_of {A = GridPoint}) e in omega arith
refused_by false true false tail x y z h k e = let d : ◌≡◌ {A = ℕ} 7 k = ap (number_of {A = GridPoint}) e in omega arith
refused_by false false kn tail x y z h k e = let d : ◌≡◌ {A = ℕ} 6 k = ap (number_of {A = GridPoint}) e in omega arith

pub refused_positive : (s : List ℕ) (i : ℕ) (kn : Bool) (h : ℤ) (k : ℕ) → vertex_of (record_at s i kn) h ≡ Err (refusal k) → 0 < k
refused_positive s i kn h k e =
    refused_by (eqb (kind s i) 1) (eqb (kind s i) 2) kn (tail_zero s i) (first_number s i) (second_number s i) (third_number s i) h k
    (sym (shape_is (eqb (kind s i) 1) (eqb (kind s i) 2) kn (tail_zero s i) s i h refl refl refl) ∙ e)

-- ---- the number of a record
number_unless : (k : ℕ) (p : GridPoint) → number_of (or_refused k p) ≡ k
number_unless zero p = refl
number_unless (suc k) p = refl

-- the number by the tests of the kind, of the height before, of the bytes that a level point does not use, and of three floats or two
abbrev pub tests : (one two kn tail : Bool) (three_floats two_floats : List Float) → ℕ
tests one two kn tail three_floats two_floats = cond one (numbers_code three_floats) (cond two (cond kn (cond tail (numbers_code two_floats) 8) 7) 6)

shape_number : (one two kn tail : Bool) (x y z : Float) (h : ℤ) → number_of (shape one two kn tail x y z h)
    ≡ tests one two kn tail (x ∷ y ∷ z ∷ []) (x ∷ y ∷ [])
unfolding shape
shape_number true two kn tail x y z h = number_unless (numbers_code (x ∷ y ∷ z ∷ [])) (point (round_eighths x) (round_eighths y) (round_eighths z))
shape_number false true true true x y z h = number_unless (numbers_code (x ∷ y ∷ [])) (point (round_eighths x) (round_eighths y) h)
shape_number false true true false x y z h = refl
shape_number false true false tail x y z h = refl
shape_number false false kn tail x y z h = refl

pub vertex_number : (s : List ℕ) (i : ℕ) (kn : Bool) (h : ℤ) →
    number_of (vertex_of (record_at s i kn) h) ≡ tests (eqb (kind s i) 1) (eqb (kind s i) 2) kn (tail_zero s i)
    (first_number s i ∷ second_number s i ∷ third_number s i ∷ []) (first_number s i ∷ second_number s i ∷ [])
vertex_number s i kn h =
    ap number_of (shape_is (eqb (kind s i) 1) (eqb (kind s i) 2) kn (tail_zero s i) s i h refl refl refl)
    ∙ shape_number (eqb (kind s i) 1) (eqb (kind s i) 2) kn (tail_zero s i) (first_number s i) (second_number s i) (third_number s i) h
