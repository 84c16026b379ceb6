-- Candidates that are missing, a patch passed from the front, and rows that weigh the same. Assumes nothing.
use mathlib.Core.Path.{◌≡◌, refl, sym, ap, ◌∙◌}
use mathlib.Core.Bool.{true, false, cond}
use mathlib.Core.List.{List, [], ◌∷◌, map, Memᴰ}
use Prim.Native.Nat.{ℕ, zero, suc, ◌+◌, ◌≤◌, ◌<◌}
use native.Mathlib.Nat.{le_of_suc-le-suc, not-suc-le-zero}
use native.Mathlib.Numerals.{add-one}
use lib.ListN.{get_or, length, drop, drop_of_length-le}
use lib.Seq.{drop-cons}
use Rattle.lists.proofs.Choice.{yes, no}
use Rattle.lists.proofs.Writing.{rest_step}
use Rattle.terms.specs.Entries.{triple, entry_at, hangs}
use Rattle.triangulation.specs.Problems.{pair_weight}
use Rattle.patch_lines.specs.declared.Line.{Line}
use Rattle.patch_lines.specs.Lines.{row_under, line_of}

-- within a list what stands for a missing entry does not matter
pub any_default : {A : Type 0} (l : List A) (i : ℕ) (d e : A) → i < length l → get_or l i d ≡ get_or l i e
any_default [] i d e h = absurd (not-suc-le-zero h)
any_default (x ∷ l) zero d e h = refl
any_default (x ∷ l) (suc i) d e h = any_default l i d e (le_of_suc-le-suc h)

-- nor does it for a function that takes both alike
pub same_default : {A B : Type 0} (f : A → B) (l : List A) (i : ℕ) (d e : A) → f d ≡ f e → f (get_or l i d) ≡ f (get_or l i e)
same_default f [] i d e h = h
same_default f (x ∷ l) zero d e h = refl
same_default f (x ∷ l) (suc i) d e h = same_default f l i d e h

module _ (candidates : List (List ℕ)) where
  -- three zeros for a missing candidate
  pub hangs_same : (t o : ℕ) {inner outer : List ℕ} → inner ≡ get_or candidates t (triple 0 0 0) → outer ≡ get_or candidates o (triple 0 0 0) →
      hangs inner outer ≡ hangs (entry_at candidates t) (entry_at candidates o)
  unfolding hangs
  hangs_same t o d e =
      (λ i. hangs (d i) (e i))
      ∙ same_default (λ x. hangs x (get_or candidates o (triple 0 0 0))) candidates t (triple 0 0 0) [] refl
      ∙ same_default (λ x. hangs (entry_at candidates t) x) candidates o (triple 0 0 0) [] refl

  pub corner : (t : ℕ) {triangle : List ℕ} → triangle ≡ get_or candidates t (triple 0 0 0) → (j : ℕ) → get_or (triple 0 0 0) j 0 ≡ 0 →
      get_or triangle j 0 ≡ get_or (entry_at candidates t) j 0
  corner t e j h = ap (λ (x : List ℕ). get_or x j 0) e ∙ same_default (λ (x : List ℕ). get_or x j 0) candidates t (triple 0 0 0) [] h

  module _ (rows : List (List ℕ)) (patch : List ℕ) (t : ℕ) where
    at_front : (k : ℕ) → k < length patch →
        row_under candidates rows (drop k patch) t ≡ row_under candidates rows (get_or patch k 0 ∷ drop (suc k) patch) t
    at_front k h = ap (λ (l : List ℕ). row_under candidates rows l t) (drop-cons patch k 0 h)

    -- t hangs on triangle k, or it does not
    module _ (k : ℕ) {o : ℕ} (h : k < length patch) (is : o ≡ get_or patch k 0) where
      on : hangs (entry_at candidates t) (entry_at candidates (get_or patch k 0)) ≡ hangs (entry_at candidates t) (entry_at candidates o)
      on = ap (λ (x : ℕ). hangs (entry_at candidates t) (entry_at candidates x)) (sym is)

      pub under_found : hangs (entry_at candidates t) (entry_at candidates o) ≡ true → row_under candidates rows (drop k patch) t ≡ pair_weight rows o t
      under_found e = at_front k h ∙ yes _ _ (on ∙ e) ∙ ap (λ (x : ℕ). pair_weight rows x t) (sym is)

      pub under_next : hangs (entry_at candidates t) (entry_at candidates o) ≡ false →
          row_under candidates rows (drop k patch) t ≡ row_under candidates rows (drop (k + 1) patch) t
      under_next e = at_front k h ∙ no _ _ (on ∙ e) ∙ ap (λ (n : ℕ). row_under candidates rows (drop n patch) t) (sym (add-one k))

    pub under_end : (k : ℕ) → length patch ≤ k → row_under candidates rows (drop k patch) t ≡ 0
    under_end k h = ap (λ (l : List ℕ). row_under candidates rows l t) (drop_of_length-le patch h)

  -- rows that give every pair the same weight
  pub under_same : (rows rows' : List (List ℕ)) → ((o i : ℕ) → pair_weight rows o i ≡ pair_weight rows' o i) → (patch : List ℕ) (t : ℕ) →
      row_under candidates rows patch t ≡ row_under candidates rows' patch t
  under_same rows rows' h [] t = refl
  under_same rows rows' h (o ∷ patch) t = (λ i. cond (hangs (entry_at candidates t) (entry_at candidates o)) (h o t i) (under_same rows rows' h patch t i))

  pub line_same : (weights : List ℕ) (rows rows' : List (List ℕ)) → ((o i : ℕ) → pair_weight rows o i ≡ pair_weight rows' o i) →
      (patch : List ℕ) (t : ℕ) → line_of candidates weights rows patch t ≡ line_of candidates weights rows' patch t
  line_same weights rows rows' h patch t =
      ap (λ (w : ℕ). record {
        a = get_or (entry_at candidates t) 0 0;
        b = get_or (entry_at candidates t) 1 0;
        c = get_or (entry_at candidates t) 2 0;
        weight = get_or weights t 0;
        row = w;
      })
      (under_same rows rows' h patch t)

-- candidates that are the same where the patch has its triangles
pub under_members : (candidates candidates' rows : List (List ℕ)) (patch : List ℕ) (t : ℕ) → entry_at candidates t ≡ entry_at candidates' t →
    ((o : ℕ) → Memᴰ o patch → entry_at candidates o ≡ entry_at candidates' o) →
    row_under candidates rows patch t ≡ row_under candidates' rows patch t
under_members candidates candidates' rows [] t e h = refl
under_members candidates candidates' rows (o ∷ patch) t e h =
    let rest : row_under candidates rows patch t ≡ row_under candidates' rows patch t =
    under_members candidates candidates' rows patch t e (λ u m. h u (Memᴰ.tail m)) in
    let first : entry_at candidates o ≡ entry_at candidates' o = h o (Memᴰ.head refl) in
    (λ i. cond (hangs (e i) (first i)) (pair_weight rows o t) (rest i))

-- the line of triangle k comes before those that are left
pub next_line : (f : ℕ → Line) (patch : List ℕ) (k : ℕ) {t : ℕ} {line : Line} → k < length patch → t ≡ get_or patch k 0 → line ≡ f t →
    map f (drop k patch) ≡ line ∷ map f (drop (k + 1) patch)
next_line f patch k h is e = rest_step f patch k 0 h ∙ ap (λ (x : Line). x ∷ map f (drop (k + 1) patch)) (sym (e ∙ ap f is))
