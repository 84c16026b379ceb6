-- The normal of the record at a position, and number 18 there. Assumes nothing.
use mathlib.Core.Path.{◌≡◌, refl, sym, subst}
use mathlib.Core.Bool.{Bool, true, false}
use mathlib.Core.List.Memᴰ
use mathlib.Core.List.{List, Memᴰ}
use Prim.Native.Nat.{ℕ, suc}
use lib.IntN.{ℤ}
use Rattle.lists.proofs.Choice.{not_true_false}
use Rattle.grid.specs.Point.{OnGrid}
use Rattle.polygon.specs.Normal.{normal_in_range}
use Rattle.polygon.specs.declared.normal.Normal.{Normal}
use Rattle.polygon.proofs.Normals.{normal_in_range_lem}
use Rattle.rim_file.specs.File.{is_edition2, offset}
use Rattle.rim_file.specs.Record.{held_normal}
use Rattle.rim_file.proofs.Normals.{normal_1, normal_2, numbers_1, number_in_range, outside}
use Rattle.reader.specs.Chain.{link, normal_at_position}
use Rattle.reader.specs.Order.{FilePlace, at_record}
use Rattle.reader.specs.Due.{normal_numbers_at, HasRecords, HasNormal, held, none, FileDue, normal_out_of_range}

-- number 18 at a position
module _ (s : List ℕ) (i : ℕ) where
  -- where a number of the normal is out of range, the normal is
  pub normal_given : (c : ℤ) → Memᴰ c (normal_numbers_at s i) → (OnGrid c → ⊥) → normal_in_range (normal_at_position s i) ≡ false
  normal_given c m f = not_true_false (normal_in_range (normal_at_position s i)) (λ h. f (number_in_range s (offset s (link s i)) h c m))

  -- and where the normal is, 18 is due
  pub normal_due : (limit : ℕ) → HasRecords s (suc i) → normal_in_range (normal_at_position s i) ≡ false → FileDue limit s (at_record i) 18
  normal_due limit has h =
      let o = outside s (offset s (link s i)) h in
      normal_out_of_range i o.number has o.member o.fails

  -- the normal of a record, where it is in range
  pub has_normal : normal_in_range (normal_at_position s i) ≡ true → HasNormal s i (normal_at_position s i)
  has_normal h = by (is_edition2 s) refl
    where
      at : ℕ
      at = offset s (link s i)

      by : (b : Bool) → is_edition2 s ≡ b → HasNormal s i (normal_at_position s i)
      by true e =
          subst (λ (q : Normal). HasNormal s i q) (sym (normal_2 s at e))
          (held i e (normal_in_range_lem (held_normal s at) (subst (λ (q : Normal). normal_in_range q ≡ true) (normal_2 s at e) h)))
      by false e = subst (λ (q : Normal). HasNormal s i q) (sym (normal_1 s at e)) (none i e)

-- rule 4.18: 18 is due on no file of edition 1
pub no_18_in_edition_1 : (limit : ℕ) (s : List ℕ) → is_edition2 s ≡ false → (p : FilePlace) → FileDue limit s p 18 → ⊥
no_18_in_edition_1 limit s e _ (normal_out_of_range i c has m f) =
    Memᴰ.not-nil (subst (λ (l : List ℤ). Memᴰ c l) (numbers_1 s (offset s (link s i)) e) m)
