-- An axis across a plane: where the plane's normal vanishes along it, and that every such axis gives the same circle. Assumes nothing.
use mathlib.Core.Path.{◌≡◌, refl, sym, ◌∙◌, ap, subst}
use mathlib.Core.Logic.{inl, inr, ⊎_elim}
use mathlib.Core.List.{List, [], ◌∷◌}
use mathlib.Core.Bool.{Bool, true, false, cond}
use lib.IntN.{ℤ, pos, ◌+ℤ◌, ◌*ℤ◌, zero-*ℤ}
use lib.Dec.{lit≤}
use Rattle.geometry.specs.declared.Vector.{Vector}
use Rattle.geometry.specs.declared.sphere.Pencil.{Pencil}
use Rattle.geometry.specs.declared.sphere.Sphere.{Sphere}
use Rattle.integers.specs.Bounds.{AtMost}
use Rattle.integers.specs.Order.{equal}
use Rattle.integers.proofs.Order.{equal_is, equal_yes, equal_no, true≢false}
use Rattle.integers.proofs.Ring.{var, con, ring}
use Rattle.geometry.specs.Vectors.{dot_of, cross_of, square_of, scaled_by, plus}
use Rattle.geometry.specs.Bounds.{max_difference, Within, LiftedBounds}
use Rattle.geometry.specs.Lifting.{turned, no_sphere, sphere_of}
use Rattle.geometry.proofs.Terms.{VectorE, vec, dot_e}
use Rattle.geometry.proofs.Squares.{zero_vector_lem}
use Rattle.planar.specs.Seen.{axis_x, axis_y, axis_z, Across, axis_across}
use Rattle.planar.proofs.Zero.{at_most_zero, zero_square}

-- ---- along an axis a vector has its coordinate

module _ (n : Vector) where
  abbrev parts : List ℤ
  parts = n.x ∷ n.y ∷ n.z ∷ []

  abbrev unit_e : ℤ → ℤ → ℤ → VectorE
  unit_e x y z = record { X = con x; Y = con y; Z = con z }

  pub along_x : dot_of n axis_x ≡ n.x
  along_x = ring parts (dot_e (vec 0) (unit_e (pos 1) (pos 0) (pos 0))) (var 0) tt

  pub along_y : dot_of n axis_y ≡ n.y
  along_y = ring parts (dot_e (vec 0) (unit_e (pos 0) (pos 1) (pos 0))) (var 1) tt

  pub along_z : dot_of n axis_z ≡ n.z
  along_z = ring parts (dot_e (vec 0) (unit_e (pos 0) (pos 0) (pos 1))) (var 2) tt

  -- where the coordinate is not 0, the vector does not vanish along the axis
  pub not_along : (e : Vector) {a : ℤ} → dot_of n e ≡ a → equal a (pos 0) ≡ false → dot_of n e ≡ pos 0 → square_of n ≡ pos 0
  not_along e k f h = true≢false (sym (equal_is (sym k ∙ h)) ∙ f)

  -- where the other two are 0, it vanishes along the last axis only if it is 0
  pub last_along : equal n.x (pos 0) ≡ true → equal n.y (pos 0) ≡ true → dot_of n axis_z ≡ pos 0 → square_of n ≡ pos 0
  last_along ex ey h = zero_square n (equal_yes n.x (pos 0) ex) (equal_yes n.y (pos 0) ey) (sym along_z ∙ h)

  -- one that is 0 vanishes along every axis
  pub zero_along : (e : Vector) → square_of n ≡ pos 0 → dot_of n e ≡ pos 0
  zero_along e h =
      let k = zero_vector_lem n h in
      (λ i. k.0 i *ℤ e.x +ℤ k.1 i *ℤ e.y +ℤ k.2 i *ℤ e.z) ∙ (λ i. zero-*ℤ e.x i +ℤ zero-*ℤ e.y i +ℤ zero-*ℤ e.z i)

  -- ---- the axis of the definition is one across

  pub axis_across_lem : Across n (axis_across n)
  axis_across_lem = go (equal n.x (pos 0)) (equal n.y (pos 0)) refl refl
    where
      go : (bx by : Bool) → equal n.x (pos 0) ≡ bx → equal n.y (pos 0) ≡ by → Across n (cond bx (cond by axis_z axis_y) axis_x)
      go true true ex ey = record { along = last_along ex ey; first = inr (inr (equal_yes n.x (pos 0) ex, equal_yes n.y (pos 0) ey, refl)) }
      go true false ex ey = record { along = not_along axis_y along_y ey; first = inr (inl (equal_yes n.x (pos 0) ex, refl)) }
      go false by ex ey = record { along = not_along axis_x along_x ex; first = inl refl }

  -- ---- and where the vector is not 0 the only one

  across_only : {e : Vector} → Across n e → (dot_of n e ≡ pos 0 → ⊥) → e ≡ axis_across n
  across_only {e} a h =
      ⊎_elim
      (λ (k : e ≡ axis_x).
      let f = equal_no n.x (pos 0) (λ z. h (ap (dot_of n) k ∙ along_x ∙ z)) in
      k ∙ sym (ap (λ (b : Bool). cond b (cond (equal n.y (pos 0)) axis_z axis_y) axis_x) f))
      (⊎_elim
      (λ (k : (n.x ≡ pos 0) × (e ≡ axis_y)).
      let f = equal_no n.y (pos 0) (λ z. h (ap (dot_of n) k.1 ∙ along_y ∙ z)) in
      k.1 ∙ sym (λ i. cond (equal_is k.0 i) (cond (f i) axis_z axis_y) axis_x))
      (λ (k : (n.x ≡ pos 0) × (n.y ≡ pos 0) × (e ≡ axis_z)).
      k.2 ∙ sym (λ i. cond (equal_is k.0 i) (cond (equal_is k.1 i) axis_z axis_y) axis_x)))
      a.first

-- ---- every axis across gives the same circle

pub same_circle : (k : Pencil) {e : Vector} → Across k.normal e →
    sphere_of k (record { vector = e; square = pos 0 }) ≡ sphere_of k (record { vector = axis_across k.normal; square = pos 0 })
same_circle k {e} a = go (equal (dot_of n e) (pos 0)) refl
  where
    n : Vector
    n = k.normal

    along : Vector → Sphere
    along e = turned (dot_of n e) (plus (cross_of k.weighted e) (scaled_by (pos 0) n))

    go : (b : Bool) → equal (dot_of n e) (pos 0) ≡ b →
        sphere_of k (record { vector = e; square = pos 0 }) ≡ sphere_of k (record { vector = axis_across n; square = pos 0 })
    go true h =
        let zero = zero_along n (axis_across n) (a.along (equal_yes (dot_of n e) (pos 0) h)) in
        ap (λ (b : Bool). cond b no_sphere (along e)) h ∙ sym (ap (λ (b : Bool). cond b no_sphere (along (axis_across n))) (equal_is zero))
    go false h = ap (λ (v : Vector). sphere_of k (record { vector = v; square = pos 0 })) (across_only n a (λ z. true≢false (sym (equal_is z) ∙ h)))

-- ---- bounds

pub across_bounds : {n e : Vector} → Across n e → LiftedBounds (record { vector = e; square = pos 0 })
across_bounds {n} {e} a = record { vector_in = within; square_in = record { size = lit≤ tt } }
  where
    one_in : AtMost max_difference (pos 1)
    one_in = record { size = lit≤ tt }

    by : {u : Vector} → e ≡ u → Within max_difference u → Within max_difference e
    by k h = subst (λ (v : Vector). Within max_difference v) (sym k) h

    within : Within max_difference e
    within =
        ⊎_elim
        (λ (k : e ≡ axis_x). by k (record { in_x = one_in; in_y = at_most_zero; in_z = at_most_zero }))
        (⊎_elim
        (λ (k : (n.x ≡ pos 0) × (e ≡ axis_y)). by k.1 (record { in_x = at_most_zero; in_y = one_in; in_z = at_most_zero }))
        (λ (k : (n.x ≡ pos 0) × (n.y ≡ pos 0) × (e ≡ axis_z)). by k.2 (record { in_x = at_most_zero; in_y = at_most_zero; in_z = one_in })))
        a.first
