-- Tables with a place for each vertex of the chain. Assumes nothing.
use mathlib.Core.Path.{◌≡◌, sym, ap, ◌∙◌}
use mathlib.Core.List.{List, [], ◌∷◌, ◌++◌}
use Prim.Native.Nat.{ℕ, ◌+◌, ◌<◌}
use native.Mathlib.Omega.{arith}
use lib.ListN.{length, get_or, set, replicate}
use Rattle.lists.specs.Lists.{over, filled}
use Rattle.lists.proofs.Ranges.{over_last, over_length, over_at}
use Rattle.lists.proofs.Writing.{filled_at, filled_next}
use Rattle.terms.specs.Limits.{max_vertices}

module _ {A : Type 0} (f : ℕ → A) (d : A) where
  -- the first n places hold f, the others d
  abbrev table : ℕ → List A
  table n = filled (over 0 n (λ i. f i ∷ [])) (replicate max_vertices d)

  pub table_next : (n : ℕ) (a : A) → n < max_vertices → a ≡ f n → set (table n) n a ≡ table (n + 1)
  table_next n a room e =
      let counted : n ≡ length (over 0 n (λ i. f i ∷ [])) = omega (arith, over_length 0 n f) in
      filled_next (over 0 n (λ i. f i ∷ [])) (replicate max_vertices d) a n counted room
      ∙ ap (λ (l : List A). filled l (replicate max_vertices d))
      (ap (λ (b : A). over 0 n (λ i. f i ∷ []) ++ (b ∷ [])) e ∙ sym (over_last 0 n (λ i. f i ∷ []) (omega arith)))

  pub table_at : (n i : ℕ) → i < n → get_or (table n) i d ≡ f i
  table_at n i h =
      let l : i < length (over 0 n (λ i. f i ∷ [])) = omega (arith, over_length 0 n f) in
      filled_at (over 0 n (λ i. f i ∷ [])) (replicate max_vertices d) i d l
      ∙ over_at 0 n f d i (omega arith)
      ∙ ap f (omega arith)
