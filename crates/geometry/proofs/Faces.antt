-- Normals of triangles and weights: their bounds, and that each face of four points that are not in one plane has a length. Assumes nothing.
use mathlib.Core.Path.{◌≡◌, sym, ◌∙◌}
use mathlib.Core.Bool.{false}
use Prim.Native.Nat.{ℕ, ◌*◌, ◌≤◌, ◌<◌}
use lib.Dec.{lit≤}
use lib.IntN.{ℤ, pos, ◌+ℤ◌, ◌*ℤ◌, *ℤ-zero}
use Rattle.grid.specs.declared.GridPoint.{GridPoint}
use Rattle.grid.specs.Point.{PointOnGrid}
use Rattle.geometry.specs.declared.Vector.{Vector}
use Rattle.terms.specs.Limits.{max_area_factor, max_bend_factor}
use Rattle.integers.specs.Bounds.{AtMost, max_dividend}
use Rattle.integers.proofs.Ring.{E, ring}
use Rattle.integers.proofs.Bounds.{mul_le, at_most_mul, literal}
use Rattle.integers.proofs.Order.{equal_is, true≢false}
use Rattle.geometry.specs.Vectors.{difference_of, dot_of, square_of}
use Rattle.geometry.specs.Spheres.{orient_of, coplanar}
use Rattle.geometry.specs.Bounds.{max_normal, max_dot, max_ratio_dividend, max_length, max_bend, Within}
use Rattle.geometry.specs.Faces.{dividend_scale, normal_of, length_of, area_weight_of, bend_weight_of}
use Rattle.geometry.proofs.Terms.{VectorE, vec, dot_e, cross_e, minus_e, orient_e, of_points}
use Rattle.geometry.proofs.Vectors.{within_difference, within_cross, at_most_dot}
use Rattle.geometry.proofs.Squares.{zero_vector_lem}
use Rattle.geometry.proofs.Lengths.{length_above_0}

pub normal_within : {a b c : GridPoint} → PointOnGrid a → PointOnGrid b → PointOnGrid c → Within max_normal (normal_of a b c)
normal_within h k l = within_cross (within_difference k h) (within_difference l h)

pub normals_dot : {n k : Vector} → Within max_normal n → Within max_normal k → AtMost max_dot (dot_of n k)
normals_dot h l = at_most_dot h l

-- what a ratio divides fits, with room for the quotient
pub ratio_dividend_bound : {d : ℤ} → AtMost max_dot d → AtMost max_ratio_dividend (pos dividend_scale *ℤ d)
ratio_dividend_bound h = at_most_mul (literal dividend_scale).bound h

pub ratio_dividend_fits : max_ratio_dividend ≤ max_dividend
ratio_dividend_fits = lit≤ tt

-- ---- weights

pub area_weight_bound : {factor m : ℕ} → factor ≤ max_area_factor → m ≤ max_length → area_weight_of factor m ≤ max_area_factor * max_length
area_weight_bound h k = mul_le h k

pub bend_weight_bound : {factor bend : ℕ} → factor ≤ max_bend_factor → bend ≤ max_bend → bend_weight_of factor bend ≤ max_bend_factor * max_bend
bend_weight_bound h k = mul_le h k

-- ---- the faces of four that are not in one plane have a normal

dot_zero : (e n : Vector) → square_of n ≡ pos 0 → dot_of e n ≡ pos 0
dot_zero e n h =
    let k = zero_vector_lem n h in
    (λ i. e.x *ℤ k.0 i +ℤ e.y *ℤ k.1 i +ℤ e.z *ℤ k.2 i)
    ∙ (λ i. *ℤ-zero e.x i +ℤ *ℤ-zero e.y i +ℤ *ℤ-zero e.z i)

module _ (p q r s : GridPoint) where
  abbrev four_e : E
  four_e = orient_e (minus_e (vec 3) (vec 0)) (minus_e (vec 6) (vec 0)) (minus_e (vec 9) (vec 0))

  abbrev normal_e : VectorE → VectorE → VectorE → VectorE
  normal_e a b c = cross_e (minus_e b a) (minus_e c a)

  orient_pqr : orient_of p q r s ≡ dot_of (difference_of s p) (normal_of p q r)
  unfolding orient_of
  orient_pqr = ring (of_points p q r s) four_e (dot_e (minus_e (vec 9) (vec 0)) (normal_e (vec 0) (vec 3) (vec 6))) tt

  orient_pqs : orient_of p q r s ≡ dot_of (difference_of p r) (normal_of p q s)
  unfolding orient_of
  orient_pqs = ring (of_points p q r s) four_e (dot_e (minus_e (vec 0) (vec 6)) (normal_e (vec 0) (vec 3) (vec 9))) tt

  orient_prs : orient_of p q r s ≡ dot_of (difference_of q p) (normal_of p r s)
  unfolding orient_of
  orient_prs = ring (of_points p q r s) four_e (dot_e (minus_e (vec 3) (vec 0)) (normal_e (vec 0) (vec 6) (vec 9))) tt

  orient_qrs : orient_of p q r s ≡ dot_of (difference_of q p) (normal_of q r s)
  unfolding orient_of
  orient_qrs = ring (of_points p q r s) four_e (dot_e (minus_e (vec 3) (vec 0)) (normal_e (vec 3) (vec 6) (vec 9))) tt

  -- m is at least 1 for each face of a four that is not in one plane
  module _ (hp : PointOnGrid p) (hq : PointOnGrid q) (hr : PointOnGrid r) (hs : PointOnGrid s) (h : coplanar p q r s ≡ false) where
    not_zero : (e n : Vector) → orient_of p q r s ≡ dot_of e n → square_of n ≡ pos 0 → ⊥
    not_zero e n o z = true≢false (sym (equal_is (o ∙ dot_zero e n z)) ∙ h)

    pub face_length_pqr : 0 < length_of (normal_of p q r)
    face_length_pqr = length_above_0 (normal_within hp hq hr) (not_zero (difference_of s p) (normal_of p q r) orient_pqr)

    pub face_length_pqs : 0 < length_of (normal_of p q s)
    face_length_pqs = length_above_0 (normal_within hp hq hs) (not_zero (difference_of p r) (normal_of p q s) orient_pqs)

    pub face_length_prs : 0 < length_of (normal_of p r s)
    face_length_prs = length_above_0 (normal_within hp hr hs) (not_zero (difference_of q p) (normal_of p r s) orient_prs)

    pub face_length_qrs : 0 < length_of (normal_of q r s)
    face_length_qrs = length_above_0 (normal_within hq hr hs) (not_zero (difference_of q p) (normal_of q r s) orient_qrs)
