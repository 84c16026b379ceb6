-- `dihedrals::write_rows` meets its contract, by what is left to write at each loop's head. Assumes nothing.
use mathlib.Core.Path.{◌≡◌, sym, ◌∙◌, ap}
use mathlib.Core.Bool.{Bool, true, false}
use mathlib.Core.List.{List, [], ◌∷◌, ◌++◌, map}
use Prim.Native.Nat.{ℕ, zero, suc, ◌+◌, ◌<◌}
use native.Mathlib.Omega.{arith}
use borrow.Author.Tests.{eq-eqb, ne_eqb}
use lib.Dec.{eqb}
use lib.ListN.{length, get_or, length-map}
use Rattle.polygon.specs.declared.Polygon.{Polygon}
use Rattle.geometry.specs.Faces.{length_of, bend_between, bend_weight_of}
use Rattle.terms.specs.Limits.{max_vertices}
use Rattle.terms.specs.Entries.{entry_at, vertex_c}
use Rattle.lists.specs.Lists.{over, when}
use Rattle.lists.proofs.Ranges.{over_step, over_more, over_none, over_end}
use Rattle.lists.proofs.Writing.{Writing, turn, enter, leave, place, push, moved, all}
use Rattle.blocks.specs.Blocks.{BlockStart, Starts}
use Rattle.geometry.specs.declared.Vector.{Vector}
use Rattle.blocks.proofs.Starts.{start_order, start_at}
use Rattle.hinges.specs.Hinges.{Sorted, ending_in}
use Rattle.hinges.proofs.Blocks.{edge_block}
use Rattle.dihedrals.specs.Dihedrals.{face_normal, lengths_of, row_at, rows_on, rows_of}
use Rattle.dihedrals.proofs.Faces.{length_at, face_measured}
use Rattle.dihedrals.proofs.Rows.{rows_at, edge_rows, ending_step, ending_end}
use Rattle.dihedrals.proofs.write_rows.Goals.{then-s-last, else-s-last}
use Rattle.dihedrals.proofs.write_rows.Goals as goal

edge_small : (cs : List (List ℕ)) → Sorted cs → (o e : ℕ) → o < length cs → e < 2 → get_or (entry_at cs o) e 0 < max_vertices
edge_small cs s o zero h k = omega (arith, s.a<b o h, s.b<c o h, s.c<limit o h)
edge_small cs s o (suc zero) h k = omega (arith, s.b<c o h, s.c<limit o h)
edge_small cs s o (suc (suc e)) h k = absurd (omega arith)

-- what the rows of the outer candidates after o are
abbrev rest : Polygon → List (List ℕ) → ℕ → List (List ℕ)
rest p cs o = over (o + 1) (length cs) (rows_on p cs)

-- and those of the edges after e too
abbrev others : Polygon → List (List ℕ) → ℕ → ℕ → List (List ℕ)
others p cs o e = over (e + 1) 2 (rows_at p cs o) ++ rest p cs o

lengths_there : (p : Polygon) (cs : List (List ℕ)) {lengths : List ℕ} → lengths ≡ lengths_of p cs → length lengths ≡ length cs
lengths_there p cs e = ap length e ∙ length-map cs (λ t. length_of (face_normal p t))

length_is : (p : Polygon) (cs : List (List ℕ)) {lengths : List ℕ} → lengths ≡ lengths_of p cs → (i : ℕ) → i < length cs →
    get_or lengths i 0 ≡ length_of (face_normal p (entry_at cs i))
length_is p cs e i h = ap (λ (l : List ℕ). get_or l i 0) e ∙ length_at p cs i h

-- the block of an edge begins there, and ends where that of the next vertex begins
block_from : {cs : List (List ℕ)} {starts : List ℕ} → Sorted cs → Starts cs starts → (o e first : ℕ) → o < length cs → e < 2 → first
    ≡ get_or (entry_at cs o) e 0 →
    BlockStart cs first (get_or starts first 0)
block_from {cs} s b o e first h k is = b.at first (omega (arith, is, edge_small cs s o e h k))

block_to : {cs : List (List ℕ)} {starts : List ℕ} → Sorted cs → Starts cs starts → (o e first : ℕ) → o < length cs → e < 2 → first
    ≡ get_or (entry_at cs o) e 0 →
    BlockStart cs (first + 1) (get_or starts (first + 1) 0)
block_to {cs} s b o e first h k is = b.at (first + 1) (omega (arith, is, edge_small cs s o e h k))

-- at candidate i of the block: what is left, with the candidate taken by its test
after : (p : Polygon) (cs : List (List ℕ)) (o e i hi last : ℕ) {out₀ out : List (List ℕ)} {count₀ count : ℕ} → i < hi →
    Writing (rows_of p cs) (map (row_at p cs o) (ending_in cs i hi last) ++ others p cs o e) out₀ count₀ out count →
    (b : Bool) → eqb (vertex_c (entry_at cs i)) last ≡ b →
    Writing (rows_of p cs) (map (row_at p cs o) (when b i) ++ (map (row_at p cs o) (ending_in cs (i + 1) hi last) ++ others p cs o e)) out₀ count₀ out count
after p cs o e i hi last h w b t = turn (ending_step (row_at p cs o) cs i hi last (others p cs o e) b h t) w

-- the row that is written next
next : (p : Polygon) (cs : List (List ℕ)) (o e i hi last : ℕ) {out₀ out : List (List ℕ)} {count₀ count : ℕ} → i < hi →
    Writing (rows_of p cs) (map (row_at p cs o) (ending_in cs i hi last) ++ others p cs o e) out₀ count₀ out count →
    vertex_c (entry_at cs i) ≡ last → {outer inner : Vector} (r : List ℕ) →
    outer ≡ face_normal p (entry_at cs o) → inner ≡ face_normal p (entry_at cs i) → r ≡ o ∷ i ∷ bend_weight_of p.bend_factor (bend_between inner outer) ∷ [] →
    Writing (rows_of p cs) (r ∷ (map (row_at p cs o) (ending_in cs (i + 1) hi last) ++ others p cs o e)) out₀ count₀ out count
next p cs o e i hi last h w t r eo ei er =
    let is : r ≡ row_at p cs o i = er ∙ (λ k. o ∷ i ∷ bend_weight_of p.bend_factor (bend_between (ei k) (eo k)) ∷ []) in
    turn (ap (λ (l : List ℕ). l ∷ (map (row_at p cs o) (ending_in cs (i + 1) hi last) ++ others p cs o e)) (sym is))
    (after p cs o e i hi last h w true (eq-eqb _ _ t))

pub loop-edge-init : goal.loop-edge-init
loop-edge-init c = (
  omega arith,
  enter (over_step c.loop-o.o (length c.args.candidates.now) (rows_on c.args.p c.args.candidates.now) c.loop-o-test.true
      ∙ ap (λ (l : List (List ℕ)). l ++ rest c.args.p c.args.candidates.now c.loop-o.o)
      (edge_rows c.args.p c.args.candidates.now c.requires.0.sorted c.loop-o.o c.loop-o-test.true)) c.loop-o.invariant.1,
)

pub loop-i-init : goal.loop-i-init
loop-i-init c =
    let cs = c.args.candidates.now in
    let e = c.from-first.ensures in
    let from = block_from c.requires.0.sorted c.requires.1 c.loop-o.o c.loop-edge.edge c.from-first.result c.loop-o-test.true c.loop-edge-test.true e in
    let to = block_to c.requires.0.sorted c.requires.1 c.loop-o.o c.loop-edge.edge c.from-first.result c.loop-o-test.true c.loop-edge-test.true e in (
      start_order cs from to (omega arith),
      to.within,
      enter (over_more c.loop-edge.edge 2 (rows_at c.args.p cs c.loop-o.o) (rest c.args.p cs c.loop-o.o) c.loop-edge-test.true
          ∙ ap (λ (l : List ℕ). map (row_at c.args.p cs c.loop-o.o) l ++ others c.args.p cs c.loop-o.o c.loop-edge.edge)
          (edge_block cs c.loop-o.o c.loop-edge.edge (get_or c.args.starts.now c.from-first.result 0) (get_or c.args.starts.now (c.from-first.result + 1) 0)
          (start_at cs e from) (start_at cs (ap (λ (k : ℕ). k + 1) e) to)))
          c.loop-edge.invariant.1,
    )

pub invariant_of-outer : goal.invariant_of-outer
invariant_of-outer c = record {
  measured = face_measured c.requires.0 c.loop-o.o c.loop-o-test.true c.normal.ensures
      (length_is c.args.p c.args.candidates.now c.requires.2 c.loop-o.o c.loop-o-test.true);
}

pub invariant_of-inner : goal.invariant_of-inner
invariant_of-inner c =
    let below : c.loop-i.i < length c.args.candidates.now = omega (arith, c.loop-i-test.true, c.loop-i.invariant.1) in record {
      measured = face_measured c.requires.0 c.loop-i.i below c.normal-then-s-last.ensures
          (length_is c.args.p c.args.candidates.now c.requires.2 c.loop-i.i below);
    }

pub bounds-out-count : goal.bounds-out-count
bounds-out-count c =
    place (next c.args.p c.args.candidates.now c.loop-o.o c.loop-edge.edge c.loop-i.i (get_or c.args.starts.now (c.from-first.result + 1) 0)
    (get_or (entry_at c.args.candidates.now c.loop-o.o) (c.loop-edge.edge + 1) 0)
    c.loop-i-test.true c.loop-i.invariant.2 c.if-s-last.true c.row.result c.normal.ensures c.normal-then-s-last.ensures c.row.ensures)

pub loop-i-preserved : goal.loop-i-preserved
loop-i-preserved c = (
  omega (arith, c.loop-i-test.true),
  c.loop-i.invariant.1,
  elim c.if-s-last.branch [
    | then-s-last w ↦ moved w.out-is w.count-is
        (push (next c.args.p c.args.candidates.now c.loop-o.o c.loop-edge.edge c.loop-i.i (get_or c.args.starts.now (c.from-first.result + 1) 0)
        (get_or (entry_at c.args.candidates.now c.loop-o.o) (c.loop-edge.edge + 1) 0)
        c.loop-i-test.true c.loop-i.invariant.2 w.if-s-last.true w.row.result c.normal.ensures w.normal-then-s-last.ensures w.row.ensures))
    | else-s-last w ↦ moved w.out-is w.count-is
        (after c.args.p c.args.candidates.now c.loop-o.o c.loop-edge.edge c.loop-i.i (get_or c.args.starts.now (c.from-first.result + 1) 0)
        (get_or (entry_at c.args.candidates.now c.loop-o.o) (c.loop-edge.edge + 1) 0)
        c.loop-i-test.true c.loop-i.invariant.2 false (ne_eqb _ _ w.if-s-last.false))
  ],
)

pub loop-edge-preserved : goal.loop-edge-preserved
loop-edge-preserved c = (
  omega (arith, c.loop-edge-test.true),
  leave (ending_end (row_at c.args.p c.args.candidates.now c.loop-o.o) c.args.candidates.now c.loop-i.i
      (get_or c.args.starts.now (c.from-first.result + 1) 0)
      (get_or (entry_at c.args.candidates.now c.loop-o.o) (c.loop-edge.edge + 1) 0)
      (others c.args.p c.args.candidates.now c.loop-o.o c.loop-edge.edge) c.loop-i-test.false) c.loop-edge.invariant.1 c.loop-i.invariant.2,
)

pub loop-o-preserved : goal.loop-o-preserved
loop-o-preserved c = (
  omega (arith, c.loop-o-test.true),
  leave (over_none c.loop-edge.edge 2 (rows_at c.args.p c.args.candidates.now c.loop-o.o) (rest c.args.p c.args.candidates.now c.loop-o.o)
      c.loop-edge-test.false)
      c.loop-o.invariant.1 c.loop-edge.invariant.1,
)

pub returns : goal.returns
returns c = (all (turn (over_end _ _ _ c.loop-o-test.false) c.loop-o.invariant.1)).1
