-- The rows of an outer candidate by its inners, edge by edge. Assumes nothing.
use mathlib.Core.Path.{◌≡◌, sym, ◌∙◌, ap}
use mathlib.Core.Bool.{Bool}
use mathlib.Core.List.{List, ◌++◌, append-nil, append_assoc, map, map-append}
use Prim.Native.Nat.{ℕ, ◌+◌, ◌≤◌, ◌<◌}
use lib.Dec.{eqb}
use lib.ListN.{length, length-map}
use Rattle.polygon.specs.declared.Polygon.{Polygon}
use Rattle.terms.specs.Entries.{entry_at, vertex_c, hangs}
use Rattle.lists.specs.Lists.{over, up_from, when}
use Rattle.lists.proofs.Ranges.{over_step, over_end}
use Rattle.lists.proofs.Parts.{over_lengths}
use Rattle.lists.proofs.Maps.{map_over_when}
use Rattle.hinges.specs.Hinges.{Sorted, inners_on, inners_at, inners_of, ending_in}
use Rattle.hinges.proofs.Blocks.{two_edges}
use Rattle.dihedrals.specs.Dihedrals.{row_at, rows_on, rows_of}

-- the candidates from i on that end in vertex k, with the first one taken
pub ending_step : {B : Type 0} (f : ℕ → B) (cs : List (List ℕ)) (i hi k : ℕ) (r : List B) (b : Bool) → i < hi → eqb (vertex_c (entry_at cs i)) k ≡ b →
    map f (ending_in cs i hi k) ++ r ≡ map f (when b i) ++ (map f (ending_in cs (i + 1) hi k) ++ r)
ending_step f cs i hi k r b h e =
    ap (λ l. map f l ++ r) (over_step i hi _ h ∙ ap (λ (t : Bool). when t i ++ ending_in cs (i + 1) hi k) e)
    ∙ ap (λ l. l ++ r) (map-append f (when b i) (ending_in cs (i + 1) hi k))
    ∙ append_assoc (map f (when b i)) (map f (ending_in cs (i + 1) hi k)) r

pub ending_end : {B : Type 0} (f : ℕ → B) (cs : List (List ℕ)) (i hi k : ℕ) (r : List B) → hi ≤ i → map f (ending_in cs i hi k) ++ r ≡ r
ending_end f cs i hi k r h = ap (λ l. map f l ++ r) (over_end i hi _ h)

rows_of_inners : (p : Polygon) (cs : List (List ℕ)) (o : ℕ) → rows_on p cs o ≡ map (row_at p cs o) (inners_on cs o)
rows_of_inners p cs o = sym (map_over_when (row_at p cs o) (λ i. hangs (entry_at cs i) (entry_at cs o)) 0 (length cs))

-- the rows of outer o at its edge e
abbrev pub rows_at : Polygon → List (List ℕ) → ℕ → ℕ → List (List ℕ)
rows_at p cs o e = map (row_at p cs o) (inners_at cs o e)

pub edge_rows : (p : Polygon) (cs : List (List ℕ)) → Sorted cs → (o : ℕ) → o < length cs → rows_on p cs o ≡ over 0 2 (rows_at p cs o)
unfolding up_from
edge_rows p cs s o h =
    rows_of_inners p cs o ∙ ap (map (row_at p cs o)) (two_edges cs s o h) ∙ map-append (row_at p cs o) (inners_at cs o 0) (inners_at cs o 1)
    ∙ ap (λ l. rows_at p cs o 0 ++ l) (sym (append-nil (rows_at p cs o 1)))

-- there are as many rows as hanging pairs
pub row_count : (p : Polygon) (cs : List (List ℕ)) → length (rows_of p cs) ≡ length (inners_of cs)
row_count p cs = over_lengths (rows_on p cs) (inners_on cs) 0 (length cs)
    (λ o l m. ap length (rows_of_inners p cs o) ∙ length-map (inners_on cs o) (row_at p cs o))
