-- The normal of a record, by its edition and by its numbers. Assumes nothing.
use mathlib.Core.Path.{◌≡◌, refl, sym, subst}
use mathlib.Core.Bool.{Bool, true, false}
use mathlib.Core.List.Memᴰ
use mathlib.Core.List.{List, [], ◌∷◌, Memᴰ}
use mathlib.Core.Logic.{⊎_elim}
use Prim.Native.Nat.{ℕ}
use lib.IntN.{ℤ}
use Rattle.lists.proofs.Choice.{yes, no, true_not_false}
use Rattle.grid.specs.Point.{OnGrid, coordinate_on_grid}
use Rattle.grid.proofs.Points.{on_grid, on_grid_test}
use Rattle.polygon.specs.Normal.{normal, no_normal, normal_in_range}
use Rattle.polygon.specs.declared.normal.Normal.{Normal}
use Rattle.polygon.proofs.Normals.{normal_in_range_lem, normal_in_range_test}
use Rattle.rim_file.specs.File.{is_edition2}
use Rattle.rim_file.specs.Record.{held_normal, normal_in, normal_numbers_of}

-- a number that is out of range
pub record Outside (cs : List ℤ) : Type 0 where
  pub number : ℤ
  pub member : Memᴰ number cs
  pub fails : OnGrid number → ⊥

one_outside : (x y z : ℤ) → normal_in_range (normal x y z) ≡ false → Outside (x ∷ y ∷ z ∷ [])
one_outside x y z h = by (coordinate_on_grid x) (coordinate_on_grid y) (coordinate_on_grid z) refl refl refl
  where
    among : (c : ℤ) → Memᴰ c (x ∷ y ∷ z ∷ []) → coordinate_on_grid c ≡ false → Outside (x ∷ y ∷ z ∷ [])
    among c m f = record { number = c; member = m; fails = λ g. true_not_false (on_grid_test c g) f }

    by : (a b c : Bool) → coordinate_on_grid x ≡ a → coordinate_on_grid y ≡ b → coordinate_on_grid z ≡ c → Outside (x ∷ y ∷ z ∷ [])
    by false b c p q r = among x (Memᴰ.head refl) p
    by true false c p q r = among y (Memᴰ.tail (Memᴰ.head refl)) q
    by true true false p q r = among z (Memᴰ.tail (Memᴰ.tail (Memᴰ.head refl))) r
    by true true true p q r = absurd (true_not_false (normal_in_range_test (normal x y z) (record { x = on_grid x p; y = on_grid y q; z = on_grid z r })) h)

none_in_range : normal_in_range no_normal ≡ true
none_in_range = refl

module _ (s : List ℕ) (at : ℕ) where
  -- ---- by the edition
  pub normal_1 : is_edition2 s ≡ false → normal_in s at ≡ no_normal
  unfolding normal_in
  normal_1 e = no _ _ e

  pub normal_2 : is_edition2 s ≡ true → normal_in s at ≡ held_normal s at
  unfolding normal_in
  normal_2 e = yes _ _ e

  pub numbers_1 : is_edition2 s ≡ false → normal_numbers_of s at ≡ []
  numbers_1 e = no _ _ e

  numbers_2 : is_edition2 s ≡ true → normal_numbers_of s at ≡ (held_normal s at).x ∷ (held_normal s at).y ∷ (held_normal s at).z ∷ []
  numbers_2 e = yes _ _ e

  -- ---- by its numbers: it is in range exactly where each is
  pub number_in_range : normal_in_range (normal_in s at) ≡ true → (c : ℤ) → Memᴰ c (normal_numbers_of s at) → OnGrid c
  number_in_range h c m = by (is_edition2 s) refl
    where
      by : (b : Bool) → is_edition2 s ≡ b → OnGrid c
      by false e = absurd (Memᴰ.not-nil (subst (λ (l : List ℤ). Memᴰ c l) (numbers_1 e) m))
      by true e =
          let r = normal_in_range_lem (held_normal s at) (subst (λ (n : Normal). normal_in_range n ≡ true) (normal_2 e) h) in
          ⊎_elim (λ d. subst OnGrid (sym d) r.x)
          (λ t. ⊎_elim (λ d. subst OnGrid (sym d) r.y)
          (λ u. ⊎_elim (λ d. subst OnGrid (sym d) r.z) (λ v. absurd (Memᴰ.not-nil v)) (Memᴰ.cases_cons u))
          (Memᴰ.cases_cons t))
          (Memᴰ.cases_cons (subst (λ (l : List ℤ). Memᴰ c l) (numbers_2 e) m))

  -- a number at which it is not
  pub outside : normal_in_range (normal_in s at) ≡ false → Outside (normal_numbers_of s at)
  outside h = by (is_edition2 s) refl
    where
      by : (b : Bool) → is_edition2 s ≡ b → Outside (normal_numbers_of s at)
      by false e = absurd (true_not_false none_in_range (subst (λ (n : Normal). normal_in_range n ≡ false) (normal_1 e) h))
      by true e =
          subst Outside (sym (numbers_2 e))
          (one_outside (held_normal s at).x (held_normal s at).y (held_normal s at).z (subst (λ (n : Normal). normal_in_range n ≡ false) (normal_2 e) h))
