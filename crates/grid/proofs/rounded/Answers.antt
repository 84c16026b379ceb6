-- `grid::rounded` meets its contract. Assumes nothing.
use mathlib.Core.Path.{◌∙◌}
use Prim.Native.Nat.{ℕ, ◌%◌}
use Rattle.grid.proofs.Nearest.{down, up, even_stays, odd_moves}
use Rattle.grid.proofs.Round.{below_half, one_pos, twice_fits, next_fits, from_half}
use Rattle.grid.proofs.rounded.Goals.{Start}
use Rattle.grid.proofs.rounded.Goals as goal

abbrev pattern : goal.Start → ℕ
pattern c = c.args.bits % 2147483648

pub returns-then-pattern-lt1056964608 : goal.returns-then-pattern-lt1056964608
returns-then-pattern-lt1056964608 c = below_half _ c.if-pattern-lt1056964608.true

pub nonzero_div-whole : goal.nonzero_div-whole
nonzero_div-whole c = one_pos _ c.if-pattern-lt1056964608.false

pub nonzero_rem-twice : goal.nonzero_rem-twice
nonzero_rem-twice c = one_pos _ c.if-pattern-lt1056964608.false

pub overflow_mul-twice : goal.overflow_mul-twice
overflow_mul-twice c = record { fits = twice_fits _ c.if-pattern-lt1056964608.false }

pub overflow_add-result : goal.overflow_add-result
overflow_add-result c = record { fits = next_fits (pattern (goal.at.overflow_add-result c).Start) }

pub overflow_add-result-else-whole-eq0 : goal.overflow_add-result-else-whole-eq0
overflow_add-result-else-whole-eq0 c = record { fits = next_fits (pattern (goal.at.overflow_add-result-else-whole-eq0 c).Start) }

pub returns-then-twice-one : goal.returns-then-twice-one
returns-then-twice-one c = down _ _ c.if-twice-one.true ∙ from_half _ c.if-pattern-lt1056964608.false c.requires

pub returns-then-one-twice : goal.returns-then-one-twice
returns-then-one-twice c = up _ _ c.if-one-twice.true ∙ from_half _ c.if-pattern-lt1056964608.false c.requires

-- exactly half: the whole part where it is even, else the next number
pub returns-then-whole-eq0 : goal.returns-then-whole-eq0
returns-then-whole-eq0 c =
    even_stays _ _ c.if-twice-one.false c.if-one-twice.false c.if-whole-eq0.true
    ∙ from_half _ c.if-pattern-lt1056964608.false c.requires

pub returns-else-whole-eq0 : goal.returns-else-whole-eq0
returns-else-whole-eq0 c =
    odd_moves _ _ c.if-twice-one.false c.if-one-twice.false c.if-whole-eq0.false
    ∙ from_half _ c.if-pattern-lt1056964608.false c.requires
