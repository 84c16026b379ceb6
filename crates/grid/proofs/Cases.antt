-- What each answer of a grid number says of the float. Assumes nothing.
use mathlib.Core.Path.{◌≡◌, refl, sym, ap, ◌∙◌, subst}
use mathlib.Core.Bool.{Bool, true, false, cond}
use Prim.Native.Nat.{ℕ, ◌%◌, ◌<◌}
use native.Mathlib.Nat.{lt_of_not-le}
use native.Mathlib.Omega.{arith}
use lib.IntN.{ℤ}
use lib.Dec.{T}
use lib.Ieee.{Float, nan, inf, fin, binary32, fits, to_bits}
use Rattle.grid.specs.Number.{GridNumber}
use Rattle.std.proofs.Common.{Ok, Err, IfOk}
use Rattle.std.specs.Float.{float_is_finite}
use Rattle.grid.specs.declared.OffGrid.TheVariants.{NotFinite, OutOfRange}
use Rattle.grid.specs.Number.{finite, in_range, round_eighths, grid_number_of}
use Rattle.grid.specs.Point.{OnGrid}
use Rattle.grid.proofs.HalfStep.{in_range_on_grid}
use Rattle.grid.proofs.Patterns.{not_finite}

-- the three answers
pub value_is : (v : Float) → finite v ≡ true → in_range v ≡ true → grid_number_of v ≡ Ok (round_eighths v)
unfolding grid_number_of
value_is v f r =
    ap (λ (t : Bool). cond t (cond (in_range v) (Ok (round_eighths v)) (Err OutOfRange)) (Err NotFinite)) f
    ∙ ap (λ (t : Bool). cond t (Ok (round_eighths v)) (Err OutOfRange)) r

pub out_of_range_is : (v : Float) → finite v ≡ true → in_range v ≡ false → grid_number_of v ≡ Err OutOfRange
unfolding grid_number_of
out_of_range_is v f r =
    ap (λ (t : Bool). cond t (cond (in_range v) (Ok (round_eighths v)) (Err OutOfRange)) (Err NotFinite)) f
    ∙ ap (λ (t : Bool). cond t (Ok (round_eighths v)) (Err OutOfRange)) r

pub not_finite_is : (v : Float) → finite v ≡ false → grid_number_of v ≡ Err NotFinite
unfolding grid_number_of
not_finite_is v f = ap (λ (t : Bool). cond t (cond (in_range v) (Ok (round_eighths v)) (Err OutOfRange)) (Err NotFinite)) f

-- and back: what an answer tells
pub record IsValue (v : Float) (i : ℤ) : Type 0 where
  pub finite : finite v ≡ true
  pub ranged : in_range v ≡ true
  pub value : round_eighths v ≡ i

pub record IsOutOfRange (v : Float) : Type 0 where
  pub finite : finite v ≡ true
  pub out_of_range : in_range v ≡ false

answer : Bool → Bool → ℤ → GridNumber
answer f r z = cond f (cond r (Ok z) (Err OutOfRange)) (Err NotFinite)

zero_one : ◌≡◌ {A = ℕ} 0 1 → ⊥
zero_one h = omega arith

value_cases : (f r : Bool) (z i : ℤ) → answer f r z ≡ Ok i → (f ≡ true) × (r ≡ true) × (z ≡ i)
unfolding answer
value_cases true true z i h = (refl, refl, cc)
value_cases true false z i h = let k : ◌≡◌ {A = ℕ} 0 1 = cc in absurd (zero_one k)
value_cases false r z i h = let k : ◌≡◌ {A = ℕ} 0 1 = cc in absurd (zero_one k)

out_cases : (f r : Bool) (z : ℤ) → answer f r z ≡ Err OutOfRange → (f ≡ true) × (r ≡ false)
unfolding answer
out_cases true true z h = let k : ◌≡◌ {A = ℕ} 0 1 = cc in absurd (zero_one k)
out_cases true false z h = (refl, refl)
out_cases false r z h = let k : ◌≡◌ {A = ℕ} 0 1 = cc in absurd (zero_one k)

not_finite_cases : (f r : Bool) (z : ℤ) → answer f r z ≡ Err NotFinite → f ≡ false
unfolding answer
not_finite_cases true true z h = let k : ◌≡◌ {A = ℕ} 0 1 = cc in absurd (zero_one k)
not_finite_cases true false z h = let k : ◌≡◌ {A = ℕ} 0 1 = cc in absurd (zero_one k)
not_finite_cases false r z h = refl

pub value_told : (v : Float) (i : ℤ) → grid_number_of v ≡ Ok i → IsValue v i
unfolding grid_number_of answer
value_told v i h = let k = value_cases (finite v) (in_range v) (round_eighths v) i h in record { finite = k.0; ranged = k.1; value = k.2 }

pub out_of_range_told : (v : Float) → grid_number_of v ≡ Err OutOfRange → IsOutOfRange v
unfolding grid_number_of answer
out_of_range_told v h = let k = out_cases (finite v) (in_range v) (round_eighths v) h in record { finite = k.0; out_of_range = k.1 }

pub not_finite_told : (v : Float) → grid_number_of v ≡ Err NotFinite → finite v ≡ false
unfolding grid_number_of answer
not_finite_told v h = not_finite_cases (finite v) (in_range v) (round_eighths v) h

-- a grid number is on the grid
pub value_on_grid : (v : Float) (i : ℤ) → grid_number_of v ≡ Ok i → OnGrid i
value_on_grid v i h = let t = value_told v i h in subst OnGrid t.value (in_range_on_grid v t.ranged)

-- ---- the library's test
finite_is : (v : Float) → finite v ≡ float_is_finite v
unfolding finite float_is_finite
finite_is nan = refl
finite_is (inf s) = refl
finite_is (fin s m e) = refl

pub at_not_finite : (v : Float) → float_is_finite v ≡ false → Err NotFinite ≡ grid_number_of v
at_not_finite v h = sym (not_finite_is v (finite_is v ∙ h))

pub finite_below : (v : Float) → T (fits binary32 v) → float_is_finite v ≡ true → to_bits binary32 v % 2147483648 < 2139095040
finite_below v f h = lt_of_not-le (λ k. no (sym h ∙ sym (finite_is v) ∙ not_finite_told v (sym (not_finite v f k))))
  where
    no : true ≡ false → ⊥
    no e = zero_one (ap (λ (b : Bool). cond b 0 1) e)

-- a grid number where there is one
pub ok_on_grid : (v : Float) (r : GridNumber) → r ≡ grid_number_of v → IfOk r OnGrid
ok_on_grid v (Ok i) h = value_on_grid v i (sym h)
ok_on_grid v (Err e) h = tt
