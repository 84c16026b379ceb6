-- What a call answers and leaves, from what the dynamic programme returns and leaves. Assumes nothing.
use Prim.Native.Nat.{ℕ, zero, suc, ◌-◌, ◌≤◌}
use mathlib.Core.Path.{◌≡◌, refl, sym, ap, ap₂, ◌∙◌}
use mathlib.Core.Bool.{Bool, true, false, cond}
use mathlib.Core.Logic.{◌⊎◌, inl, inr}
use mathlib.Core.List.{List, [], ◌∷◌}
use native.Mathlib.Omega.{arith}
use lib.ListN.{length, take, drop, replicate, length-append}
use lib.Dec.{leb}
use lib.Seq.{take_at}
use borrow.Author.Tests.{le-leb}
use Rattle.std.proofs.Common.{Option, Some, None, Ok, Err}
use Rattle.codes.specs.Refusals.{refusal}
use Rattle.lists.specs.Lists.{filled}
use Rattle.lists.proofs.Choice.{yes, no}
use Rattle.triangulation.specs.Triangulations.{Answer, answer_of}
use Rattle.triangulation.specs.Recursion.{cost_of, key_total, rest_of}
use Rattle.triangulator.specs.Steps.{lists, listed_by}
use Rattle.triangulator.specs.Call.{Outcome, patch_with, triangles_of, values, values_of, answer_values, due_values, result_of, settled, part_of}

module _ (n count : ℕ) (t w : List ℕ) {t' w' : List ℕ} where
  pub settle_none : (k : List ℕ) → None ≡ key_total k → t' ≡ filled (rest_of k) t → w' ≡ filled (replicate count 0) w
      → (result_of (Ok None) t' w' ≡ settled (answer_of k) count t w) × (values_of (Ok None) ≡ answer_values n (answer_of k))
  settle_none [] q e f = (ap₂ (result_of (Ok None)) e f, refl)
  settle_none (x ∷ l) q e f = cc

  pub settle_patch : (k : List ℕ) (total : ℕ) → Some total ≡ key_total k
      → ((x : ℕ) (l : List ℕ) → k ≡ x ∷ l → length l ≡ n - 2) → t' ≡ filled (rest_of k) t
      → w' ≡ filled (replicate count 0) w → (result_of (Ok (Some (patch_with (n - 2) total))) t' w' ≡ settled (answer_of k) count t w)
      × (values_of (Ok (Some (patch_with (n - 2) total))) ≡ answer_values n (answer_of k))
  settle_patch [] total q m e f = cc
  settle_patch (x ∷ l) total q m e f =
      let same : total ≡ x = cc in (
        ap₂ (λ a b. result_of (Ok (Some (patch_with a b))) t' w') (sym (m x l refl)) same ∙ ap₂ (result_of (Ok (Some (patch_with (length l) x)))) e f,
        ap (values 0 (n - 2)) same,
      )

-- the values of a refusal
pub refused_values : (k number n : ℕ) (a : Answer) → k ≡ number → (number ≡ 0 → ⊥) → values_of (Err (refusal k)) ≡ due_values number n a
refused_values k zero n a e h = absurd (h refl)
refused_values k (suc number) n a e h = ap (λ j. values j 0 0) e

-- the part that is handed back after a patch is its triangles
pub part_patch : (l t : List ℕ) (total : ℕ) → part_of (Ok (Some (patch_with (length l) total))) (filled l t) ≡ l
part_patch l t total =
    let h : length l ≤ length (filled l t) = omega (arith, length-append l (drop (length l) t)) in
    yes _ _ (le-leb _ _ h) ∙ take_at l (drop (length l) t) (length l) refl

-- and nothing where no triangle is counted
pub part_empty : (o : Outcome) (t : List ℕ) → triangles_of o ≡ 0 → part_of o t ≡ []
part_empty o t e = ap (λ k. cond (leb k (length t)) (take k t) []) e ∙ yes [] [] (le-leb 0 (length t) (omega arith))

-- the triangle table, listed and not listed
pub listed : (figure : Option ℕ) (k triangles : List ℕ) → lists figure (cost_of k) ≡ true → filled (rest_of k) triangles ≡ listed_by figure k triangles
listed figure k triangles e = sym (yes _ _ e)

pub not_listed : (figure : Option ℕ) (k triangles : List ℕ) → (k ≡ []) ⊎ (lists figure (cost_of k) ≡ false) → triangles ≡ listed_by figure k triangles
not_listed figure k triangles (inl e) =
    same (lists figure (cost_of k)) ∙ ap (λ (l : List ℕ). cond (lists figure (cost_of k)) (filled (rest_of l) triangles) triangles) (sym e)
  where
    same : (b : Bool) → triangles ≡ cond b triangles triangles
    same true = refl
    same false = refl
not_listed figure k triangles (inr d) = sym (no _ _ d)
