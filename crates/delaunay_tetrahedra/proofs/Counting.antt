-- Which fours count, and which do not. Assumes nothing.
use mathlib.Core.Path.{◌≡◌}
use mathlib.Core.Bool.{Bool, true, false}
use mathlib.Core.Logic.{⊎_elim}
use Prim.Native.Nat.{ℕ, ◌<◌}
use Rattle.polygon.specs.declared.Polygon.{Polygon}
use Rattle.geometry.specs.Spheres.{coplanar}
use Rattle.geometry.specs.Facets.{separates}
use Rattle.geometry.proofs.Facets.{no_empty_sphere}
use Rattle.lists.proofs.Choice.{Truth, truth, holds, fails}
use Rattle.polygon.specs.Polygon.{vertex}
use Rattle.delaunay_tetrahedra.specs.Tetrahedra.{inside_four, counts}
use Rattle.delaunay_search.proofs.Scanning as scanning
use Rattle.delaunay_search.proofs.Scanning.{none_inside}

module _ (p : Polygon) (a b c d : ℕ) where
  abbrev flat : Bool
  flat = coplanar (vertex p a) (vertex p b) (vertex p c) (vertex p d)

  pub not_counts_flat : flat ≡ true → counts p a b c d ≡ false
  unfolding counts
  not_counts_flat e = scanning.not_counts_bad p.n (inside_four p a b c d) flat e

  pub not_counts_inside : (v : ℕ) → v < p.n → inside_four p a b c d v ≡ true → counts p a b c d ≡ false
  unfolding counts
  not_counts_inside v h e = scanning.not_counts_inside p.n (inside_four p a b c d) flat v h e

  -- two vertices between which the triangle (a, b, c) is not locally Delaunay: one of them is inside every sphere through it
  pub not_counts_between : (s w : ℕ) → s < p.n → w < p.n → separates (vertex p a) (vertex p b) (vertex p c) (vertex p s) (vertex p w) ≡ true →
      inside_four p a b c s w ≡ true → counts p a b c d ≡ false
  not_counts_between s w hs hw e f = by (truth flat)
    where
      by : Truth flat → counts p a b c d ≡ false
      by (holds flat) = not_counts_flat flat
      by (fails solid) =
          ⊎_elim (not_counts_inside s hs) (not_counts_inside w hw)
          (no_empty_sphere (vertex p a) (vertex p b) (vertex p c) (vertex p s) (vertex p w) e f (vertex p d) solid)

  pub counts_all : flat ≡ false → none_inside p.n (inside_four p a b c d) ≡ true → counts p a b c d ≡ true
  unfolding counts
  counts_all e f = scanning.counts_all p.n (inside_four p a b c d) flat e f
