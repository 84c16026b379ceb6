-- The lines of rim file P by its lists (rule 6.1). Assumes nothing.
use mathlib.Core.Path.{◌≡◌, refl}
use mathlib.Core.List.{[], ◌∷◌}
use Prim.Native.Nat.{ℕ}
use Rattle.terms.specs.Entries.{triple, hangs}
use Rattle.patch_lines.specs.declared.Line.{Line}
use Rattle.patch_lines.specs.Lines.{lines_of}

abbrev line : ℕ → ℕ → ℕ → ℕ → ℕ → Line
line a b c weight row = record { a = a; b = b; c = c; weight = weight; row = row }

-- 0 1 3 256 0 and 1 2 3 373 314
pub lines_of_P :
    lines_of (triple 0 1 2 ∷ triple 0 1 3 ∷ triple 0 2 3 ∷ triple 1 2 3 ∷ []) (320 ∷ 256 ∷ 320 ∷ 373 ∷ []) (triple 1 3 314 ∷ triple 2 0 360 ∷ []) (1 ∷ 3 ∷ [])
    ≡ line 0 1 3 256 0 ∷ line 1 2 3 373 314 ∷ []
unfolding hangs
lines_of_P = refl
