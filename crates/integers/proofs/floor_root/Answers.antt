-- `integers::floor_root` meets its contract. The loop's invariant: the guess is at least the root, and its square fits. The measure is
-- the guess (`next_below` of proofs/Newton.antt).
use mathlib.Core.Path.{◌≡◌, sym, ◌∙◌, subst}
use Prim.Native.Nat.{ℕ, ◌+◌, ◌*◌, ◌/◌, ◌%◌, ◌^◌, ◌≤◌, ◌<◌}
use native.Mathlib.Nat.{le_trans, lt_of_le_of_lt, mul-le-mul_left, mul-le-mul_right, div-le_self, one-mul}
use native.Mathlib.Omega.{arith}
use lib.Count.{leading_le}
use lib.Dec.{lit<}
use lib.Pow.{pow_mono, pow_pos, shl_exact}
use Rattle.integers.proofs.Newton.{next, next_above, next_below, guess_above_0, exponent, exponent_small, shifted_below}
use Rattle.integers.proofs.Rounding.{is_floor_root}
use Rattle.integers.proofs.floor_root.Invariants.{Inv}
use Rattle.integers.proofs.floor_root.Goals as goal

below : {x : ℕ} → x < 2 ^ 52 → x < 2 ^ 64
below h = omega arith

-- the first guess: one step from 2 ^ k
module _ (x : ℕ) (h : x < 2 ^ 52) where
  abbrev k : ℕ
  k = exponent x

  k_small : k ≤ 32
  k_small = exponent_small x (below h)

  power_is : 1 * 2 ^ k % 2 ^ 64 ≡ 2 ^ k
  power_is = shl_exact 1 k 64 (lit< tt) (omega (arith, k_small)) ∙ one-mul (2 ^ k)

  power_small : 2 ^ k ≤ 4294967296
  power_small = pow_mono {j = 32} k_small

  sum_small : 1 * 2 ^ k % 2 ^ 64 + x / 2 ^ k < 8589934592
  sum_small = omega (arith, power_is, power_small, shifted_below x (below h))

  first : Inv x ((1 * 2 ^ k % 2 ^ 64 + x / 2 ^ k) / 2)
  first = record {
    over = subst (λ (p : ℕ). x < ((p + x / 2 ^ k) / 2 + 1) * ((p + x / 2 ^ k) / 2 + 1)) (sym power_is) (next_above x (2 ^ k) (pow_pos k));
    small = omega (arith, sum_small);
  }

step : (x r : ℕ) → Inv x r → x < r * r → Inv x (next x r)
step x r i h = record { over = next_above x r (guess_above_0 x r h); small = omega (arith, i.small, next_below x r h) }

square_fits : (r : ℕ) → r < 4294967296 → r * r < 2 ^ 64
square_fits r h = lt_of_le_of_lt (le_trans (mul-le-mul_right r le) (mul-le-mul_left 4294967295 le)) (lit< tt)
  where
    le : r ≤ 4294967295
    le = omega arith

pub overflow_sub-k : goal.overflow_sub-k
overflow_sub-k c = omega (arith, leading_le 64 c.args.x)

pub overflow_cast-r : goal.overflow_cast-r
overflow_cast-r c = omega (arith, k_small c.args.x c.requires)

pub overflow_shl-r : goal.overflow_shl-r
overflow_shl-r c = omega (arith, k_small c.args.x c.requires)

pub overflow_cast-r-2 : goal.overflow_cast-r-2
overflow_cast-r-2 c = omega (arith, k_small c.args.x c.requires)

pub overflow_shr-r : goal.overflow_shr-r
overflow_shr-r c = omega (arith, k_small c.args.x c.requires)

pub overflow_add-r : goal.overflow_add-r
overflow_add-r c = omega (arith, sum_small c.args.x c.requires)

pub loop-r-init : goal.loop-r-init
loop-r-init c = first c.args.x c.requires

pub overflow_mul-r : goal.overflow_mul-r
overflow_mul-r c = record { fits = square_fits c.loop-r.r c.loop-r.invariant.small }

pub loop-r-smaller : goal.loop-r-smaller
loop-r-smaller c = next_below c.args.x c.loop-r.r c.loop-r-test.true

pub nonzero_div-r-in-loop-r : goal.nonzero_div-r-in-loop-r
nonzero_div-r-in-loop-r c = guess_above_0 c.args.x c.loop-r.r c.loop-r-test.true

pub overflow_add-r-in-loop-r : goal.overflow_add-r-in-loop-r
overflow_add-r-in-loop-r c = omega (arith, c.loop-r.invariant.small, c.requires, div-le_self c.args.x c.loop-r.r)

pub loop-r-preserved : goal.loop-r-preserved
loop-r-preserved c = step c.args.x c.loop-r.r c.loop-r.invariant c.loop-r-test.true

pub returns : goal.returns
returns c =
    let x = c.args.x in
    is_floor_root x c.loop-r.r (below c.requires) (record { low = c.loop-r-test.false; high = c.loop-r.invariant.over })
