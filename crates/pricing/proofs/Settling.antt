-- What the two calls answer and leave, from what the dynamic programme returns and leaves. Assumes nothing.
use Prim.Native.Nat.{ℕ, ◌-◌}
use mathlib.Core.Path.{◌≡◌, refl, sym, ap, ap₂, ◌∙◌}
use mathlib.Core.Logic.{inl}
use mathlib.Core.List.{List, [], ◌∷◌}
use lib.ListN.{length, replicate}
use borrow.Author.Tests.{eq-eqb}
use Rattle.std.proofs.Common.{Some, None, Ok}
use Rattle.lists.specs.Lists.{filled}
use Rattle.lists.proofs.Choice.{yes}
use Rattle.triangulation.specs.Triangulations.{answer_of}
use Rattle.triangulation.specs.Recursion.{cost_of, key_total, rest_of}
use Rattle.triangulator.specs.Call as tiler
use Rattle.triangulator.specs.Call.{Outcome, patch_with, values, values_of, due_values}
use Rattle.pricing.specs.Quote.{result_of, quote_of, settled}
use Rattle.pricing.specs.Patch.{refused_or, settled_at, values_at, due_values_at}
use Rattle.triangulator.specs.Steps.{listed_by}
use Rattle.minimum_weight.proofs.Answer.{without_key, with_key}
use Rattle.triangulator.proofs.Settling.{listed, not_listed}

-- ---- the price, by the exits of the code
module _ (n count number : ℕ) (work : List ℕ) where
  module _ (z : number ≡ 0) (k : List ℕ) {left : List ℕ} (f : left ≡ filled (replicate count 0) work) where
    pub quote_none : None ≡ key_total k
        → (result_of (Ok None) left ≡ settled number (quote_of n (answer_of k)) count work) × (values_of (Ok None) ≡ due_values number n (answer_of k))
    quote_none h = let q = without_key k h in (
      ap (result_of (Ok None)) f ∙ ap₂ (λ (j : ℕ) (l : List ℕ). settled j (quote_of n (answer_of l)) count work) (sym z) (sym q),
      ap₂ (λ (j : ℕ) (l : List ℕ). due_values j n (answer_of l)) (sym z) (sym q),
    )

-- ---- the patch, by the exits of the code
-- what a key with a total says, where the agreed total is the same
module _ (n count agreed : ℕ) (triangles work : List ℕ) where
  same_total : (k : List ℕ) → Some agreed ≡ key_total k → ((x : ℕ) (l : List ℕ) → k ≡ x ∷ l → length l ≡ n - 2)
      → (settled_at agreed (answer_of k) count triangles work
      ≡ tiler.result_of (Ok (Some (patch_with (n - 2) (cost_of k)))) (filled (rest_of k) triangles) (filled (replicate count 0) work))
      × (values_at agreed n (answer_of k) ≡ values 0 (n - 2) (cost_of k))
  same_total [] h m = cc
  same_total (x ∷ l) h m = let e : agreed ≡ x = cc in (
    yes _ _ (eq-eqb agreed x e) ∙ ap (λ (c : ℕ). tiler.result_of (Ok (Some (patch_with c x))) (filled l triangles) (filled (replicate count 0) work)) (m x l refl),
    yes _ _ (eq-eqb agreed x e),
  )

-- no number of the job: what the totals say
module _ (n count number agreed : ℕ) (z : number ≡ 0) (triangles work k : List ℕ) {Listed-in cleared-in : List ℕ}
    (e : Listed-in ≡ listed_by (Some agreed) k triangles) (f : cleared-in ≡ filled (replicate count 0) work) where
  abbrev Right : Outcome → Type 0
  Right o = (tiler.result_of o Listed-in cleared-in ≡ refused_or number triangles work (settled_at agreed (answer_of k) count triangles work))
      × (values_of o ≡ due_values_at number agreed n (answer_of k))

  -- it is enough to know the answer
  accepted : (o : Outcome) → tiler.result_of o Listed-in cleared-in ≡ settled_at agreed (answer_of k) count triangles work
      → values_of o ≡ values_at agreed n (answer_of k) → Right o
  accepted o g h = (
    g ∙ ap (λ (j : ℕ). refused_or j triangles work (settled_at agreed (answer_of k) count triangles work)) (sym z),
    h ∙ ap (λ (j : ℕ). due_values_at j agreed n (answer_of k)) (sym z),
  )

  pub patch_none : None ≡ key_total k → Right (Ok None)
  patch_none h = let q = without_key k h in accepted (Ok None)
      (ap₂ (tiler.result_of (Ok None)) (e ∙ sym (not_listed (Some agreed) k triangles (inl q))) f
      ∙ ap (λ (l : List ℕ). settled_at agreed (answer_of l) count triangles work) (sym q))
      (ap (λ (l : List ℕ). values_at agreed n (answer_of l)) (sym q))

  pub patch_whole : (total : ℕ) → Some total ≡ key_total k → agreed ≡ total
      → ((x : ℕ) (l : List ℕ) → k ≡ x ∷ l → length l ≡ n - 2) → Right (Ok (Some (patch_with (n - 2) total)))
  patch_whole total h a m =
      let g = with_key k h in
      let o = same_total n count agreed triangles work k (ap Some a ∙ h) m in
      accepted (Ok (Some (patch_with (n - 2) total)))
      (ap₂ (tiler.result_of (Ok (Some (patch_with (n - 2) total)))) (e ∙ sym (listed (Some agreed) k triangles (eq-eqb agreed (cost_of k) (a ∙ g)))) f
      ∙ ap (λ (t : ℕ). tiler.result_of (Ok (Some (patch_with (n - 2) t))) (filled (rest_of k) triangles) (filled (replicate count 0) work)) g ∙ sym o.0)
      (ap (values 0 (n - 2)) g ∙ sym o.1)
