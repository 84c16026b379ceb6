-- The vertices as seen from one of them, up to the one that comes next. Assumes nothing.
use mathlib.Core.Path.{◌≡◌, refl, sym, ◌∙◌, ap, subst}
use mathlib.Core.List.{List}
use Prim.Native.Nat.{ℕ, zero, suc, ◌+◌, ◌-◌, ◌<◌}
use native.Mathlib.Omega.{arith}
use lib.ListN.{length, get_or, set, take, length-set}
use lib.Seq.{get_or-set_same, get_or-set_other}
use Rattle.std.proofs.lemmas.List.{length-take-le, get_or-take, get_or_default}
use Rattle.terms.specs.Limits.{max_vertices}
use Rattle.grid.specs.declared.GridPoint.{GridPoint}
use Rattle.polygon.specs.declared.Polygon.{Polygon}
use Rattle.polygon.specs.Polygon.{ValidPolygon, vertex_at}
use Rattle.geometry.specs.declared.sphere.Lifted.{Lifted}
use Rattle.geometry.specs.Lifting.{lift_of}
use Rattle.delaunay_search.specs.Search.{Lifts, unlifted}

pub record LiftedTo (base : GridPoint) (vertices : List GridPoint) (v : ℕ) (lifted : List Lifted) : Type 0 where
  pub long : length lifted ≡ max_vertices
  pub at : (k : ℕ) → k < v → get_or lifted k unlifted ≡ lift_of base (vertex_at vertices k)

pub lifted_more : {base : GridPoint} {vertices : List GridPoint} {v : ℕ} {lifted : List Lifted} (l : Lifted) → v < max_vertices →
    l ≡ lift_of base (vertex_at vertices v) → LiftedTo base vertices v lifted → LiftedTo base vertices (v + 1) (set lifted v l)
lifted_more {base} {vertices} {v} {lifted} l h e f = record { long = length-set lifted v l ∙ f.long; at = λ k m. go k (v - k) m refl }
  where
    go : (k d : ℕ) → k < v + 1 → v - k ≡ d → get_or (set lifted v l) k unlifted ≡ lift_of base (vertex_at vertices k)
    go k zero m z =
        let w : k ≡ v = omega arith in
        subst (λ (k : ℕ). get_or (set lifted v l) k unlifted ≡ lift_of base (vertex_at vertices k)) (sym w)
        (get_or-set_same lifted v l unlifted (omega (arith, f.long)) ∙ e)
    go k (suc d) m z = get_or-set_other lifted v k l unlifted (λ w. omega arith) ∙ f.at k (omega arith)

-- the first places, which are those of the vertices
pub seen_long : {p : Polygon} {a : ℕ} {lifted : List Lifted} → ValidPolygon p → Lifts p a lifted → length (take p.n lifted) ≡ p.n
seen_long {p} {lifted = lifted} valid l = length-take-le p.n lifted (omega (arith, valid.most, l.long))

pub seen_at : (p : Polygon) (lifted : List Lifted) (v : ℕ) → v < p.n → get_or (take p.n lifted) v unlifted ≡ get_or lifted v unlifted
seen_at p lifted v h = get_or-take p.n lifted v unlifted h

-- an element as indexing reads it, with any default, in what a call promises of it
pub read : {B : Type 0} {p : Polygon} {a : ℕ} {lifted : List Lifted} (f : Lifted → B) {b : B} → ValidPolygon p → Lifts p a lifted →
    (v : ℕ) → v < p.n → (x : Lifted) → b ≡ f (get_or lifted v x) → b ≡ f (get_or lifted v unlifted)
read {lifted = lifted} f valid l v h x e = e ∙ ap f (get_or_default lifted v x unlifted (omega (arith, valid.most, l.long, h)))

-- an element of the first places, as a loop over them reads it
pub seen_read : {p : Polygon} {a : ℕ} {lifted : List Lifted} → ValidPolygon p → Lifts p a lifted →
    (v : ℕ) → v < p.n → (x : Lifted) → x ≡ get_or (take p.n lifted) v x → x ≡ get_or lifted v unlifted
seen_read {p} {lifted = lifted} valid l v h x e = read (λ (w : Lifted). w) valid l v h x (e ∙ get_or-take p.n lifted v x h)
