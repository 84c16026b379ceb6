-- The weight of a hanging pair by the lengths of its normals in quarters. Assumes nothing.
use mathlib.Core.Path.{◌≡◌, refl}
use mathlib.Core.List.{List}
use Prim.Native.Nat.{ℕ, ◌*◌, ◌<◌}
use Rattle.polygon.specs.declared.Polygon.{Polygon}
use Rattle.geometry.specs.Bounds.{max_normal, Within}
use Rattle.geometry.specs.Faces.{length_of, bend_between}
use Rattle.geometry.specs.Quarters.{IsBendBetween}
use Rattle.geometry.proofs.Quarters.{bend_between_lem}
use Rattle.dihedrals.specs.Dihedrals.{face_normal, hinge_weight}

-- the bend factor times the bend, where both lengths are whole parts of four times the root (rules 2.7, 2.10 to 2.12)
pub hinge_in_quarters : (p : Polygon) (t u : List ℕ) → Within max_normal (face_normal p t) → Within max_normal (face_normal p u) →
    0 < length_of (face_normal p t) → 0 < length_of (face_normal p u) →
    (b : ℕ) × IsBendBetween (face_normal p t) (face_normal p u) b × (hinge_weight p t u ≡ p.bend_factor * b)
hinge_in_quarters p t u ht hu pt pu = (bend_between (face_normal p t) (face_normal p u), bend_between_lem ht hu pt pu, refl)
