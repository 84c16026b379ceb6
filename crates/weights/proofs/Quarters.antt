-- The own weight by the lengths of normals in quarters, the triangle's own and those outside. Assumes nothing.
use mathlib.Core.Path.{◌≡◌, refl, ap}
use mathlib.Core.Bool.{Bool, false, cond}
use mathlib.Core.List.{List}
use Prim.Native.Nat.{ℕ, ◌+◌, ◌*◌, ◌<◌}
use Rattle.polygon.specs.declared.Polygon.{Polygon}
use Rattle.polygon.specs.Normal.{is_none, normal_at, NormalInRange}
use Rattle.geometry.specs.Bounds.{max_normal, Within}
use Rattle.geometry.specs.Faces.{length_of, bend_between, bend_weight_of}
use Rattle.geometry.specs.Quarters.{IsLength, IsBendBetween}
use Rattle.geometry.proofs.Lengths.{length_is}
use Rattle.geometry.proofs.Quarters.{bend_between_lem}
use Rattle.dihedrals.specs.Dihedrals.{face_normal}
use Rattle.weights.specs.Weights.{vector_of, rim_bend, rim_bends, own_weight}
use Rattle.weights.proofs.Surfaces.{outside_within, outside_above_0}

module _ (p : Polygon) (t : List ℕ) (within : Within max_normal (face_normal p t)) (above : 0 < length_of (face_normal p t)) where
  -- the area factor times the whole part of four times the root, and the bends along the rim (rules 2.7, 2.8, 2.15)
  pub own_weight_in_quarters : (m : ℕ) × IsLength (face_normal p t) m × (0 < m) × (own_weight p t ≡ p.area_factor * m + rim_bends p t)
  own_weight_in_quarters = (length_of (face_normal p t), length_is within, above, refl)

  -- a bend against the surface outside a rim edge, where both lengths are such whole parts (rules 2.7, 2.10, 2.11, 2.15)
  pub rim_bend_in_quarters : (v : ℕ) → NormalInRange (normal_at p.normals v) → is_none (normal_at p.normals v) ≡ false →
      (b : ℕ) × IsBendBetween (face_normal p t) (vector_of (normal_at p.normals v)) b × (rim_bend p t v ≡ p.bend_factor * b)
  rim_bend_in_quarters v range some =
      let k = normal_at p.normals v in
      let b = bend_between (face_normal p t) (vector_of k) in (
        b,
        bend_between_lem within (outside_within range) above (outside_above_0 k range some),
        ap (λ (none : Bool). cond none 0 (bend_weight_of p.bend_factor b)) some,
      )
