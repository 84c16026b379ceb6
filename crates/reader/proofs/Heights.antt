-- The height before a position, and the last point before it. Assumes nothing.
use mathlib.Core.Path.{◌≡◌, refl, sym, ap, ◌∙◌}
use mathlib.Core.Bool.{Bool, true, false}
use mathlib.Core.List.{List}
use mathlib.Core.Logic.{⊎_elim}
use Prim.Native.Nat.{ℕ, zero, suc, ◌<◌}
use native.Mathlib.Omega.{arith}
use borrow.Author.Tests.{eqb-true, eqb-false, eq-eqb, ne_eqb}
use lib.Dec.{eqb}
use Rattle.lists.proofs.Choice.{yes, no, true_not_false, below_or_same}
use Rattle.rim_file.specs.Record.{known}
use Rattle.std.proofs.Common.{Some}
use Rattle.reader.specs.Chain.{height_before}
use Rattle.reader.specs.Due.{kind_at, height_at, LastPoint}

module _ (s : List ℕ) where
  -- one position back
  height_here : (i : ℕ) → kind_at s i ≡ 1 → height_before s (suc i) ≡ Some (height_at s i)
  unfolding height_before
  height_here i k = yes _ _ (eq-eqb (kind_at s i) 1 k)

  height_past : (i : ℕ) → (kind_at s i ≡ 1 → ⊥) → height_before s (suc i) ≡ height_before s i
  unfolding height_before
  height_past i k = no _ _ (ne_eqb (kind_at s i) 1 k)

  -- the height is that of the last point before
  pub height_of_last : (i j : ℕ) → LastPoint s j i → height_before s i ≡ Some (height_at s j)
  height_of_last zero j l = absurd (omega (arith, l.before))
  height_of_last (suc i) j l =
      ⊎_elim
      (λ h.
      height_past i (λ k. l.none_between i h (omega arith) k)
      ∙ height_of_last i j (record { before = h; is_point = l.is_point; none_between = λ m a b. l.none_between m a (omega arith) }))
      (λ e. ap (λ m. height_before s (suc m)) (sym e) ∙ height_here j l.is_point)
      (below_or_same j i (omega (arith, l.before)))

  -- where a height is known there is a last point
  pub record Last (i : ℕ) : Type 0 where
    pub at : ℕ
    pub is_last : LastPoint s at i

  pub last_point : (i : ℕ) → known (height_before s i) ≡ true → Last i
  unfolding height_before
  last_point zero e = absurd (true_not_false e refl)
  last_point (suc i) e = by (eqb (kind_at s i) 1) refl (λ h. last_point i h)
    where
      by : (b : Bool) → eqb (kind_at s i) 1 ≡ b → (known (height_before s i) ≡ true → Last i) → Last (suc i)
      by true p go = record {
        at = i;
        is_last = record { before = omega arith; is_point = eqb-true (kind_at s i) 1 p; none_between = λ m a b. absurd (omega arith) };
      }
      by false p go =
          let f = go (ap known (sym (height_past i (eqb-false (kind_at s i) 1 p))) ∙ e) in
          record {
            at = f.at;
            is_last = record {
              before = omega (arith, f.is_last.before);
              is_point = f.is_last.is_point;
              none_between = λ m a b k.
                  ⊎_elim (λ l. f.is_last.none_between m a l k) (λ d. eqb-false (kind_at s i) 1 p (ap (λ n. kind_at s n) (sym d) ∙ k))
                  (below_or_same m i (omega arith));
            };
          }

  -- no height is known exactly where no record before is a point
  pub height_unknown : (i : ℕ) → known (height_before s i) ≡ false → (j : ℕ) → j < i → kind_at s j ≡ 1 → ⊥
  height_unknown zero e j h k = omega arith
  height_unknown (suc i) e j h k = by (eqb (kind_at s i) 1) refl (λ e' l. height_unknown i e' j l k)
    where
      by : (b : Bool) → eqb (kind_at s i) 1 ≡ b → (known (height_before s i) ≡ false → j < i → ⊥) → ⊥
      by true p go = true_not_false (ap known (height_here i (eqb-true (kind_at s i) 1 p))) e
      by false p go =
          ⊎_elim (λ l. go (ap known (sym (height_past i (eqb-false (kind_at s i) 1 p))) ∙ e) l)
          (λ d. eqb-false (kind_at s i) 1 p (ap (λ (m : ℕ). kind_at s m) (sym d) ∙ k))
          (below_or_same j i (omega arith))

  pub no_height_known : (i : ℕ) → ((j : ℕ) → j < i → kind_at s j ≡ 1 → ⊥) → known (height_before s i) ≡ false
  unfolding height_before
  no_height_known zero none = refl
  no_height_known (suc i) none = ap known (height_past i (none i (omega arith))) ∙ no_height_known i (λ j h. none j (omega arith))
