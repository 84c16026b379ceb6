-- Numbers of two bytes in two's complement. Assumes nothing.
use mathlib.Core.Path.{◌≡◌, refl, sym, ap, subst, ◌∙◌}
use mathlib.Core.Bool.{Bool, true, false}
use Prim.Native.Nat.{ℕ, ◌-◌, ◌≤◌, ◌<◌}
use native.Mathlib.Omega.{arith}
use borrow.Author.Tests.{lt-ltb, le-ltb, ltb-false}
use lib.Dec.{ltb}
use lib.IntN.{ℤ, pos, negsuc, ◌-ℤ◌}
use mir.Syntax.{w16, w64}
use mir.Val.{SFits, to_z, of_z}
use mir.Facts.{to_z_pos, to_z-of_z}
use Rattle.lists.proofs.Choice.{yes, no}
use Rattle.rim_file.specs.File.{signed16}

-- from 32768 on
less : (u : ℕ) → 32768 ≤ u → u < 65536 → pos u -ℤ pos 65536 ≡ negsuc (65535 - u)
less u low high = yes _ _ (lt-ltb u 65536 high) ∙ ap negsuc (omega arith)

-- only the bits 0 are the number 0
pub zero_bits : (u : ℕ) → u < 65536 → signed16 u ≡ pos 0 → u ≡ 0
zero_bits u h e = by (ltb u 32768) refl
  where
    by : (b : Bool) → ltb u 32768 ≡ b → u ≡ 0
    by true d = let z : pos u ≡ pos 0 = sym (yes _ _ d) ∙ e in cc
    by false d =
        let z : negsuc (65535 - u) ≡ pos 0 = sym (less u (ltb-false u 32768 d) h) ∙ sym (no _ _ d) ∙ e in
        absurd (let n : ◌≡◌ {A = ℕ} 0 1 = cc in omega arith)
