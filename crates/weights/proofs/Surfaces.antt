-- The surface outside an edge: its normal as a vector, and how large the weight of the bend can be. Assumes nothing.
use mathlib.Core.Path.{◌≡◌, ap, ◌∙◌}
use mathlib.Core.Bool.{Bool, true, false, cond}
use Prim.Native.Nat.{ℕ, ◌+◌, ◌*◌, ◌≤◌, ◌<◌}
use native.Mathlib.Nat.{le_trans}
use borrow.Author.Tests.{eq-eqb, ne_eqb}
use lib.Dec.{eqb, lit≤}
use lib.IntN.{ℤ, pos}
use Rattle.lists.specs.Lists.{both}
use Rattle.lists.proofs.Choice.{yes, no, true_not_false, both_true}
use Rattle.integers.proofs.Order.{equal_is}
use Rattle.grid.specs.Point.{OnGrid}
use Rattle.polygon.specs.declared.normal.Normal.{Normal}
use Rattle.polygon.specs.Normal.{no_normal, is_none, NormalInRange}
use Rattle.integers.specs.Bounds.{AtMost}
use Rattle.geometry.specs.declared.Vector.{Vector}
use Rattle.geometry.specs.Vectors.{dot_of, square_of}
use Rattle.geometry.specs.Bounds.{max_normal, max_bend, Within}
use Rattle.geometry.specs.Faces.{length_of, bend_between, bend_weight_of}
use Rattle.geometry.proofs.Squares.{zero_vector_lem}
use Rattle.geometry.proofs.Lengths.{length_above_0}
use Rattle.geometry.proofs.Faces.{bend_weight_bound}
use Rattle.geometry.proofs.Bends.{bend_bound}
use Rattle.terms.specs.Limits.{max_bend_factor}
use Rattle.weights.specs.Weights.{vector_of}
use Rattle.weights.specs.Edges.{edge_normal, outside_weight_of}

-- ---- its normal
at_most : {c : ℤ} → OnGrid c → AtMost max_normal c
at_most g = record { size = le_trans g.size (lit≤ tt) }

pub outside_within : {k : Normal} → NormalInRange k → Within max_normal (vector_of k)
outside_within r = record { in_x = at_most r.x; in_y = at_most r.y; in_z = at_most r.z }

-- the normal of a surface is longer than 0
pub outside_above_0 : (k : Normal) → NormalInRange k → is_none k ≡ false → 0 < length_of (vector_of k)
outside_above_0 k r h = length_above_0 (outside_within r) (λ e. true_not_false (none e) h)
  where
    none : square_of (vector_of k) ≡ pos 0 → is_none k ≡ true
    none e = let z = zero_vector_lem (vector_of k) e in both_true (equal_is z.0) (both_true (equal_is z.1) (equal_is z.2))

-- ---- which normal an edge has
none_in_range : NormalInRange no_normal
none_in_range = record { x = zero; y = zero; z = zero }
  where
    zero : OnGrid (pos 0)
    zero = record { size = lit≤ tt }

pub edge_in_range : (n x y : ℕ) {ofX ofY : Normal} → NormalInRange ofX → NormalInRange ofY → NormalInRange (edge_normal n x y ofX ofY)
unfolding edge_normal
edge_in_range n x y {ofX} {ofY} f g = by (eqb y (x + 1)) (both (eqb x 0) (eqb (y + 1) n))
  where
    by : (next closing : Bool) → NormalInRange (cond next ofX (cond closing ofY no_normal))
    by true closing = f
    by false true = g
    by false false = none_in_range

module _ (n x y : ℕ) (ofX ofY : Normal) where
  pub of_the_next : y ≡ x + 1 → edge_normal n x y ofX ofY ≡ ofX
  unfolding edge_normal
  of_the_next e = yes _ _ (eq-eqb _ _ e)

  module _ (d : y ≡ x + 1 → ⊥) where
    past : edge_normal n x y ofX ofY ≡ cond (both (eqb x 0) (eqb (y + 1) n)) ofY no_normal
    unfolding edge_normal
    past = no _ _ (ne_eqb _ _ d)

    pub not_from_0 : (x ≡ 0 → ⊥) → edge_normal n x y ofX ofY ≡ no_normal
    not_from_0 z = past ∙ no _ _ (ap (λ (b : Bool). both b (eqb (y + 1) n)) (ne_eqb _ _ z))

    from_0 : x ≡ 0 → edge_normal n x y ofX ofY ≡ cond (eqb (y + 1) n) ofY no_normal
    from_0 z = past ∙ ap (λ (b : Bool). cond (both b (eqb (y + 1) n)) ofY no_normal) (eq-eqb _ _ z)

    pub of_the_last : x ≡ 0 → y + 1 ≡ n → edge_normal n x y ofX ofY ≡ ofY
    of_the_last z e = from_0 z ∙ yes _ _ (eq-eqb _ _ e)

    pub not_to_the_last : x ≡ 0 → (y + 1 ≡ n → ⊥) → edge_normal n x y ofX ofY ≡ no_normal
    not_to_the_last z e = from_0 z ∙ no _ _ (ne_eqb _ _ e)

-- ---- the weight
module _ (factor : ℕ) (normal : Vector) (k : Normal) where
  pub outside_none : is_none k ≡ true → outside_weight_of factor normal k ≡ 0
  unfolding outside_weight_of
  outside_none h = ap (λ (b : Bool). cond b 0 (bend_weight_of factor (bend_between normal (vector_of k)))) h

  pub outside_some : is_none k ≡ false → outside_weight_of factor normal k ≡ bend_weight_of factor (bend_between normal (vector_of k))
  unfolding outside_weight_of
  outside_some h = ap (λ (b : Bool). cond b 0 (bend_weight_of factor (bend_between normal (vector_of k)))) h

  pub outside_bound : factor ≤ max_bend_factor → outside_weight_of factor normal k ≤ max_bend_factor * max_bend
  unfolding outside_weight_of
  outside_bound h = by (is_none k)
    where
      by : (b : Bool) → cond b 0 (bend_weight_of factor (bend_between normal (vector_of k))) ≤ max_bend_factor * max_bend
      by true = lit≤ tt
      by false = bend_weight_bound h (bend_bound (dot_of normal (vector_of k)) (length_of normal) (length_of (vector_of k)))
