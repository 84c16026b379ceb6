-- `finder::write_lists` meets its contract. Assumes nothing.
use mathlib.Core.Path.{◌≡◌, sym, ◌∙◌, ap, subst}
use mathlib.Core.List.{List}
use Prim.Native.Nat.{ℕ, ◌≤◌}
use native.Mathlib.Omega.{arith}
use lib.ListN.{length, take, length-map}
use lib.Seq.{length-take-le}
use Rattle.polygon.specs.declared.Polygon.{Polygon}
use Rattle.geometry.specs.Faces.{length_of}
use Rattle.lists.specs.Lists.{filled}
use Rattle.lists.proofs.Writing.{taken, filled_length, filled_over}
use Rattle.blocks.proofs.Starts.{starts_of_lem}
use Rattle.dihedrals.specs.Dihedrals.{face_normal, lengths_of, rows_of}
use Rattle.dihedrals.specs.Lists.{ProperCandidates}
use Rattle.dihedrals.proofs.Faces.{first_lengths}
use Rattle.weights.specs.Weights.{own_weight, weights_of}
use Rattle.finder.specs.Filling.{faces_of, Room}
use Rattle.finder.proofs.write_lists.Goals as goal

-- the triangles stand in the candidate table
module _ (polygon : Polygon) (masks : List ℕ) {candidates rows out : List (List ℕ)} {weights : List ℕ} {count : ℕ}
    (proper_set : ProperCandidates polygon (faces_of polygon masks))
    (places : Room polygon (faces_of polygon masks) candidates weights rows) (count_is : count ≡ length (faces_of polygon masks))
    (listed : out ≡ filled (faces_of polygon masks) candidates) where
  abbrev triangles : List (List ℕ)
  triangles = faces_of polygon masks

  found_are : take count out ≡ triangles
  found_are = taken triangles candidates count_is listed

  proper : ProperCandidates polygon (take count out)
  proper = subst (λ (l : List (List ℕ)). ProperCandidates polygon l) (sym found_are) proper_set

  -- the lengths stand in the weight table
  module _ {table : List ℕ} (lengths : table ≡ filled (lengths_of polygon (take count out)) weights) where
    made : table ≡ filled (lengths_of polygon triangles) weights
    made = lengths ∙ ap (λ (l : List (List ℕ)). filled (lengths_of polygon l) weights) found_are

    room : count ≤ length table
    room =
        let L = lengths_of polygon triangles in
        let n = length-map triangles (λ t. length_of (face_normal polygon t)) in
        let r = places.for_weights in
        omega (arith, count_is, ap length made, filled_length L weights (omega (arith, n, r)), r)

    lengths_are : take count table ≡ lengths_of polygon (take count out)
    lengths_are =
        ap (λ (k : ℕ). take k table) count_is ∙ first_lengths polygon triangles weights made ∙ ap (lengths_of polygon) (sym found_are)

pub slice_bounds-found-end-2 : goal.slice_bounds-found-end-2
slice_bounds-found-end-2 c = c.list-count.ensures.0
    ∙ sym (ap length (found_are c.args.rim.now.polygon c.args.set.now c.requires.0 c.requires.1 c.list-count.ensures.0 c.list-count.ensures.1))

pub block_starts-starts-requires : goal.block_starts-starts-requires
block_starts-starts-requires c =
    (proper c.args.rim.now.polygon c.args.set.now c.requires.0 c.requires.1 c.list-count.ensures.0 c.list-count.ensures.1).sorted.by_first

pub write_lengths-requires : goal.write_lengths-requires
write_lengths-requires c = (
  proper c.args.rim.now.polygon c.args.set.now c.requires.0 c.requires.1 c.list-count.ensures.0 c.list-count.ensures.1,
  omega (
    arith,
    ap length (found_are c.args.rim.now.polygon c.args.set.now c.requires.0 c.requires.1 c.list-count.ensures.0 c.list-count.ensures.1),
    c.requires.1.for_weights,
  ),
)

pub slice_bounds-write_rows-end-2 : goal.slice_bounds-write_rows-end-2
slice_bounds-write_rows-end-2 c = sym (length-take-le c.list-count.result c.write_lengths.new.out
    (room c.args.rim.now.polygon c.args.set.now c.requires.0 c.requires.1 c.list-count.ensures.0 c.list-count.ensures.1 c.write_lengths.ensures))

pub write_rows-requires : goal.write_rows-requires
write_rows-requires c =
    let v = proper c.args.rim.now.polygon c.args.set.now c.requires.0 c.requires.1 c.list-count.ensures.0 c.list-count.ensures.1 in (
      v,
      starts_of_lem (take c.list-count.result c.list-count.new.out) v.sorted.by_first c.block_starts-starts.ensures,
      lengths_are c.args.rim.now.polygon c.args.set.now c.requires.0 c.requires.1 c.list-count.ensures.0 c.list-count.ensures.1 c.write_lengths.ensures,
      omega (
        arith,
        ap (λ (l : List (List ℕ)). length (rows_of c.args.rim.now.polygon l))
            (found_are c.args.rim.now.polygon c.args.set.now c.requires.0 c.requires.1 c.list-count.ensures.0 c.list-count.ensures.1),
        c.requires.1.for_rows,
      ),
    )

pub write_weights-requires : goal.write_weights-requires
write_weights-requires c =
    let same = sym (ap length (found_are c.args.rim.now.polygon c.args.set.now c.requires.0 c.requires.1 c.list-count.ensures.0 c.list-count.ensures.1)) in (
      proper c.args.rim.now.polygon c.args.set.now c.requires.0 c.requires.1 c.list-count.ensures.0 c.list-count.ensures.1,
      omega (
        arith,
        c.list-count.ensures.0,
        same,
        room c.args.rim.now.polygon c.args.set.now c.requires.0 c.requires.1 c.list-count.ensures.0 c.list-count.ensures.1
            c.write_lengths.ensures,
      ),
      ap (λ (k : ℕ). take k c.write_lengths.new.out) (sym same ∙ sym c.list-count.ensures.0)
          ∙ lengths_are c.args.rim.now.polygon c.args.set.now c.requires.0 c.requires.1 c.list-count.ensures.0 c.list-count.ensures.1 c.write_lengths.ensures,
    )

pub returns : goal.returns
returns c =
    let p = c.args.rim.now.polygon in
    let triangles = faces_of p c.args.set.now in
    let are = found_are c.args.rim.now.polygon c.args.set.now c.requires.0 c.requires.1 c.list-count.ensures.0 c.list-count.ensures.1 in
    record {
      the_candidates = c.list-count.ensures.1;
      the_weights =
          c.write_weights.ensures
          ∙ (λ i. filled (weights_of p (are i))
          (made c.args.rim.now.polygon c.args.set.now c.requires.0 c.requires.1 c.list-count.ensures.0 c.list-count.ensures.1 c.write_lengths.ensures i))
          ∙ filled_over (weights_of p triangles) (lengths_of p triangles) c.args.weights.now
          (length-map triangles (own_weight p) ∙ sym (length-map triangles (λ t. length_of (face_normal p t))));
      the_rows = c.write_rows.ensures ∙ ap (λ (l : List (List ℕ)). filled (rows_of p l) c.args.rows.now) are;
    }
