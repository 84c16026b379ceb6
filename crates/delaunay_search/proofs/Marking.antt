-- A search over fours or threes: the triples that are marked, and those that the ones to come will give, make up all of them. Assumes nothing.
use mathlib.Core.Path.{◌≡◌, refl, sym, ◌∙◌, ap}
use mathlib.Core.Bool.{Bool, true, false}
use mathlib.Core.List.{List}
use Prim.Native.Nat.{ℕ, ◌<◌}
use Rattle.terms.specs.Limits.{max_vertices}
use Rattle.lists.specs.Lists.{either}
use Rattle.lists.proofs.Choice.{true_not_false}
use Rattle.lists.proofs.Bools.{either_no, either_assoc}
use Rattle.std.proofs.Common.{Ok}
use Rattle.faces.specs.Masks.{has, empty_set, Joined}
use Rattle.delaunay_search.specs.Search.{twelve_if, Marked}

-- T is the type of tests, of fours or of threes: `gives x y z` asks whether one gives the triple, `due` whether it makes 12 due;
-- `left` says of a test whether it holds of one that is left. From one place of the search to a later one:
pub record Kept {T : Type 0} (gives : ℕ → ℕ → ℕ → T) (due : T) (marks₀ marks : List ℕ) (left₀ left : T → Bool) : Type 0 where
  pub faces : (x y z : ℕ) → x < max_vertices → y < max_vertices → z < max_vertices →
      either (has marks x y z) (left (gives x y z)) ≡ either (has marks₀ x y z) (left₀ (gives x y z))
  pub twelve : left due ≡ left₀ due

module _ {T : Type 0} {gives : ℕ → ℕ → ℕ → T} {due : T} where
  pub kept_start : {marks : List ℕ} {left : T → Bool} → Kept gives due marks marks left left
  kept_start = record { faces = λ x y z h k l. refl; twelve = refl }

  pub kept_then : {marks₀ marks marks' : List ℕ} {left₀ left left' : T → Bool} → Kept gives due marks₀ marks left₀ left →
      Kept gives due marks marks' left left' → Kept gives due marks₀ marks' left₀ left'
  kept_then k l = record {
    faces = λ x y z h i j. l.faces x y z h i j ∙ k.faces x y z h i j;
    twelve = l.twelve ∙ k.twelve;
  }

  -- what is left is the same, for the tests that matter
  pub kept_leave : {marks₀ marks : List ℕ} {left₀ left left' : T → Bool} → ((x y z : ℕ) → left (gives x y z) ≡ left' (gives x y z)) →
      left due ≡ left' due → Kept gives due marks₀ marks left₀ left → Kept gives due marks₀ marks left₀ left'
  kept_leave {marks = m} e f k = record {
    faces = λ x y z h i j. ap (λ (t : Bool). either (has m x y z) t) (sym (e x y z)) ∙ k.faces x y z h i j;
    twelve = sym f ∙ k.twelve;
  }

  pub kept_turn : {marks₀ marks : List ℕ} {left₀ left left' : T → Bool} → ((P : T) → left P ≡ left' P) → Kept gives due marks₀ marks left₀ left →
      Kept gives due marks₀ marks left₀ left'
  kept_turn e k = kept_leave (λ x y z. e (gives x y z)) (e due) k

  -- on to the next four or three: `at` says of a test whether it holds of this one
  module _ {marks₀ marks : List ℕ} {left₀ left : T → Bool} (left' : T → Bool) (at : T → Bool)
      (next : (P : T) → left P ≡ either (at P) (left' P)) (k : Kept gives due marks₀ marks left₀ left) where
    pub kept_skip : ((x y z : ℕ) → at (gives x y z) ≡ false) → at due ≡ false → Kept gives due marks₀ marks left₀ left'
    kept_skip e f =
        kept_leave (λ x y z. next (gives x y z) ∙ ap (λ (t : Bool). either t (left' (gives x y z))) (e x y z))
        (next due ∙ ap (λ (t : Bool). either t (left' due)) f) k

    pub kept_mark : {marks' : List ℕ} → Joined marks (λ x y z. at (gives x y z)) marks' → at due ≡ false → Kept gives due marks₀ marks' left₀ left'
    kept_mark e f = record {
      faces = λ x y z h i j.
          ap (λ (t : Bool). either t (left' (gives x y z))) (e.at x y z h i j)
          ∙ sym (either_assoc (has marks x y z) (at (gives x y z)) (left' (gives x y z)))
          ∙ ap (λ (t : Bool). either (has marks x y z) t) (sym (next (gives x y z)))
          ∙ k.faces x y z h i j;
      twelve = sym (next due ∙ ap (λ (t : Bool). either t (left' due)) f) ∙ k.twelve;
    }

    pub kept_due : at due ≡ true → left₀ due ≡ true
    kept_due e = sym k.twelve ∙ next due ∙ ap (λ (t : Bool). either t (left' due)) e

  -- all fours or threes are done
  pub put_all : {marks₀ marks : List ℕ} {left₀ left : T → Bool} → ((P : T) → left P ≡ false) → Kept gives due marks₀ marks left₀ left →
      Marked (λ x y z. left₀ (gives x y z)) (left₀ due) marks₀ (Ok tt) marks
  put_all {marks = marks} none k = let e = sym (none due) ∙ k.twelve in record {
    searched = record {
      found = ap twelve_if e;
      put = λ h. record {
        at = λ x y z hx hy hz. sym (ap (λ (t : Bool). either (has marks x y z) t) (none (gives x y z)) ∙ either_no (has marks x y z)) ∙ k.faces x y z hx hy hz;
      };
    };
    empty = λ h. absurd (true_not_false h (sym e));
  }

-- 12 is due, and the set was emptied
pub marked_none : {test : ℕ → ℕ → ℕ → Bool} {twelve : Bool} {marks₀ marks : List ℕ} → twelve ≡ true → marks ≡ empty_set →
    Marked test twelve marks₀ (twelve_if true) marks
marked_none e f = record {
  searched = record { found = sym (ap twelve_if e); put = λ h. absurd (true_not_false e h) };
  empty = λ h. f;
}
