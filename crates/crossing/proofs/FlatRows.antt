-- The rows of a flat rim weigh 0: a candidate and the one that it hangs on lie on either side of their common edge, since they do not cross, so their
-- normals point the same way. Assumes nothing.
use mathlib.Core.Path.{◌≡◌, refl, sym, ◌∙◌, ap}
use mathlib.Core.Bool.{cond}
use mathlib.Core.List.Memᴰ.{head}
use mathlib.Core.List.Memᴰ.{tail}
use mathlib.Core.List.{[], ◌∷◌, Memᴰ}
use Prim.Native.Nat.{ℕ, suc, ◌+◌, ◌*◌}
use native.Mathlib.Omega.{arith}
use borrow.Author.Tests.{eq-eqb, ne_eqb}
use lib.Dec.{eqb}
use lib.IntN.{ℤ, pos, negsuc, nat_abs, ◌+ℤ◌, ◌-ℤ◌, ◌*ℤ◌, +ℤ_idl}
use Rattle.integers.proofs.Ring.{var, con, ◌:+◌, ◌:-◌, ◌:*◌, ring}
use Rattle.lists.specs.Sums.{sum}
use Rattle.lists.proofs.Choice.{yes, no}
use Rattle.terms.specs.Entries.{triple}
use Rattle.grid.specs.declared.GridPoint.{GridPoint}
use Rattle.geometry.specs.declared.Vector.{Vector}
use Rattle.geometry.specs.Vectors.{difference_of, dot_of, cross_of, square_of, scaled_by, plus}
use Rattle.geometry.specs.Faces.{normal_of}
use Rattle.geometry.specs.Spheres.{orient_of}
use Rattle.geometry.proofs.Squares.{square_size}
use Rattle.geometry.proofs.Terms.{vec, cross_e, minus_e, of_points}
use Rattle.polygon.specs.declared.Polygon.{Polygon}
use Rattle.polygon.specs.Polygon.{vertex}
use Rattle.crossing.specs.Crossing.{corner_at, weighted_sum, Meet}
use Rattle.crossing.proofs.Forms.{Supported, meeting}
use Rattle.crossing.proofs.SameWay.{Split, split, mixed, spread}

-- ---- three weights on three vertices
module _ (a b c x y z : ℕ) (ab : a ≡ b → ⊥) (ac : a ≡ c → ⊥) (bc : b ≡ c → ⊥) where
  weigh : ℕ → ℕ
  weigh i = cond (eqb i a) x (cond (eqb i b) y z)

  at_a : weigh a ≡ x
  unfolding weigh
  at_a = yes _ _ (eq-eqb a a refl)

  at_b : weigh b ≡ y
  unfolding weigh
  at_b = no _ _ (ne_eqb b a (λ e. ab (sym e))) ∙ yes _ _ (eq-eqb b b refl)

  at_c : weigh c ≡ z
  unfolding weigh
  at_c = no _ _ (ne_eqb c a (λ e. ac (sym e))) ∙ no _ _ (ne_eqb c b (λ e. bc (sym e)))

  weigh_sum : sum weigh (triple a b c) ≡ x + (y + (z + 0))
  weigh_sum = λ i. at_a i + (at_b i + (at_c i + 0))

  weigh_point : (p : Polygon) → weighted_sum p weigh (triple a b c) ≡
      plus (scaled_by (pos x) (corner_at p a)) (plus (scaled_by (pos y) (corner_at p b)) (plus (scaled_by (pos z) (corner_at p c)) (weighted_sum p weigh [])))
  weigh_point p = λ i.
      plus (scaled_by (pos (at_a i)) (corner_at p a))
      (plus (scaled_by (pos (at_b i)) (corner_at p b)) (plus (scaled_by (pos (at_c i)) (corner_at p c)) (weighted_sum p weigh [])))

-- ---- four vertices in one plane, on the edge (a, c)
module _ (p : Polygon) (a b c z : ℕ) (flat : orient_of (vertex p a) (vertex p b) (vertex p c) (vertex p z) ≡ pos 0)
    (ab : a ≡ b → ⊥) (ac : a ≡ c → ⊥) (bc : b ≡ c → ⊥) (az : a ≡ z → ⊥) (cz : c ≡ z → ⊥) where
  abbrev u : Vector
  u = difference_of (vertex p b) (vertex p a)

  abbrev v : Vector
  v = difference_of (vertex p c) (vertex p a)

  abbrev t : Vector
  t = difference_of (vertex p z) (vertex p a)

  in_plane : dot_of u (cross_of v t) ≡ pos 0
  unfolding orient_of
  in_plane = flat

  -- where the normals point opposite ways, (a, b, c) meets (a, c, z) with weight on b
  module _ (e : ℕ) (opposite : dot_of (cross_of u v) (cross_of v t) ≡ negsuc e) where
    abbrev n : ℕ
    n = nat_abs (square_of (cross_of u v))

    g : Split (dot_of (cross_of u v) (cross_of u t))
    g = split (dot_of (cross_of u v) (cross_of u t))

    k : Split ((pos n -ℤ pos (suc e)) -ℤ (pos g.over -ℤ pos g.under))
    k = split ((pos n -ℤ pos (suc e)) -ℤ (pos g.over -ℤ pos g.under))

    level : scaled_by (pos n) t ≡ plus (plus (scaled_by (pos (suc e)) u) (scaled_by (pos g.over -ℤ pos g.under) v)) (scaled_by (pos 0) (cross_of u v))
    level =
        (λ i. scaled_by (sym (square_size (cross_of u v)) i) t) ∙ spread u v t in_plane
        ∙ (λ i. plus (plus (scaled_by ((ap (λ (q : ℤ). pos 0 -ℤ q) opposite ∙ +ℤ_idl (pos (suc e))) i) u) (scaled_by (g.is i) v))
        (scaled_by (pos 0) (cross_of u v)))

    -- the same in each coordinate
    along : (A B C Z w : ℤ) → pos n *ℤ (Z -ℤ A) ≡ pos (suc e) *ℤ (B -ℤ A) +ℤ (pos g.over -ℤ pos g.under) *ℤ (C -ℤ A) +ℤ pos 0 *ℤ w →
        pos k.over *ℤ A +ℤ (pos (suc e) *ℤ B +ℤ (pos g.over *ℤ C +ℤ pos 0)) ≡ pos k.under *ℤ A +ℤ (pos g.under *ℤ C +ℤ (pos n *ℤ Z +ℤ pos 0))
    along A B C Z w r = mixed (pos n) (pos (suc e)) (pos g.over) (pos g.under) (pos k.over) (pos k.under) A B C Z w r k.is

    sums : k.over + (suc e + (g.over + 0)) ≡ k.under + (g.under + (n + 0))
    sums =
        let q : k.over * 1 + (suc e * 1 + (g.over * 1 + 0))
        ≡ k.under * 1 + (g.under * 1 + (n * 1 + 0)) = ap nat_abs (along (pos 1) (pos 1) (pos 1) (pos 1) (pos 0)
        (ring (pos n ∷ pos (suc e) ∷ pos g.over ∷ pos g.under ∷ []) (var 0 :* (con (pos 1) :- con (pos 1)))
        (var 1 :* (con (pos 1) :- con (pos 1)) :+ (var 2 :- var 3) :* (con (pos 1) :- con (pos 1)) :+ con (pos 0) :* con (pos 0)) tt)) in
        omega arith

    inner_weights : ℕ → ℕ
    inner_weights = weigh a b c k.over (suc e) g.over ab ac bc

    outer_weights : ℕ → ℕ
    outer_weights = weigh a c z k.under g.under n ac az cz

    same_sum : sum inner_weights (triple a b c) ≡ sum outer_weights (triple a c z)
    unfolding inner_weights outer_weights
    same_sum = weigh_sum a b c k.over (suc e) g.over ab ac bc ∙ sums ∙ sym (weigh_sum a c z k.under g.under n ac az cz)

    meet : Meet p (triple a b c) (triple a c z) inner_weights outer_weights
    unfolding inner_weights outer_weights
    meet = record {
      not_all_zero = omega (arith, weigh_sum a b c k.over (suc e) g.over ab ac bc);
      equal_sums = same_sum;
      same_point =
          weigh_point a b c k.over (suc e) g.over ab ac bc p
          ∙ (λ i. record {
            x = along (corner_at p a).x (corner_at p b).x (corner_at p c).x (corner_at p z).x (cross_of u v).x (λ j. (level j).x) i;
            y = along (corner_at p a).y (corner_at p b).y (corner_at p c).y (corner_at p z).y (cross_of u v).y (λ j. (level j).y) i;
            z = along (corner_at p a).z (corner_at p b).z (corner_at p c).z (corner_at p z).z (cross_of u v).z (λ j. (level j).z) i;
          })
          ∙ sym (weigh_point a c z k.under g.under n ac az cz p);
    }

    -- so b is a corner of (a, c, z)
    crossed : Supported p (triple a b c) → Supported p (triple a c z) → Memᴰ b (triple a c z)
    unfolding inner_weights
    crossed st su =
        (meeting p (triple a b c) (triple a c z) st su inner_weights outer_weights meet).0 b (tail (head refl))
        (omega (arith, weight_b))
      where
        weight_b : inner_weights b ≡ suc e
        weight_b = at_b a b c k.over (suc e) g.over ab ac bc

-- a normal does not depend on which corner comes first
turn : (a c z : GridPoint) → normal_of z a c ≡ normal_of a c z
turn a c z =
    let l = cross_e (minus_e (vec 0) (vec 6)) (minus_e (vec 3) (vec 6)) in
    let r = cross_e (minus_e (vec 3) (vec 0)) (minus_e (vec 6) (vec 0)) in
    λ i. record { x = ring (of_points a c z a) l.X r.X tt i; y = ring (of_points a c z a) l.Y r.Y tt i; z = ring (of_points a c z a) l.Z r.Z tt i }
