-- `weights::write_weights` meets its contract, by what is left to write. Assumes nothing.
use mathlib.Core.Path.{◌≡◌, refl, sym, ◌∙◌, ap}
use mathlib.Core.List.{List, [], ◌∷◌, map}
use Prim.Native.Nat.{ℕ, ◌+◌, ◌<◌}
use native.Mathlib.Nat.{add-zero}
use lib.ListN.{length, take, drop, get_or}
use lib.Seq.{get_or-take, get_or-drop}
use Rattle.polygon.specs.declared.Polygon.{Polygon}
use Rattle.geometry.specs.Faces.{length_of}
use Rattle.terms.specs.Entries.{entry_at}
use Rattle.lists.proofs.Writing.{Writing, turn, push, all, rest_step, rest_end}
use Rattle.dihedrals.specs.Dihedrals.{face_normal, lengths_of}
use Rattle.dihedrals.specs.Lists.{ProperCandidates}
use Rattle.dihedrals.proofs.Faces.{length_at, face_measured}
use Rattle.weights.specs.Weights.{own_weight, weights_of}
use Rattle.weights.specs.Edges.{edges_of, own_weight_of}
use Rattle.weights.proofs.RimEdges.{own_weight_along_the_rim}
use Rattle.weights.proofs.write_weights.Goals as goal

same_place : (i : ℕ) (x y : List ℕ) → drop i x ≡ drop i y → get_or x i 0 ≡ get_or y i 0
same_place i x y e =
    ap (λ (k : ℕ). get_or x k 0) (sym (add-zero i)) ∙ sym (get_or-drop i x 0 0) ∙ ap (λ (l : List ℕ). get_or l 0 0) e
    ∙ get_or-drop i y 0 0 ∙ ap (λ (k : ℕ). get_or y k 0) (add-zero i)

-- the length that stands there still
length_is : (p : Polygon) (list : List (List ℕ)) (weights table : List ℕ) (i : ℕ) → i < length list → take (length list) weights ≡ lengths_of p list →
    drop i table ≡ drop i weights → get_or table i 0 ≡ length_of (face_normal p (entry_at list i))
length_is p list weights table i below e k =
    same_place i table weights k ∙ sym (get_or-take (length list) weights i 0 below) ∙ ap (λ (l : List ℕ). get_or l i 0) e ∙ length_at p list i below

-- the weight that is written next: that by the three edges is the own weight
next : (p : Polygon) (list : List (List ℕ)) (i w : ℕ) {out₀ out : List ℕ} → ProperCandidates p list → i < length list →
    w ≡ own_weight_of p.area_factor p.bend_factor (face_normal p (entry_at list i)) (edges_of p (entry_at list i)) →
    Writing (weights_of p list) (map (own_weight p) (drop i list)) out₀ 0 out i →
    Writing (weights_of p list) (w ∷ map (own_weight p) (drop (i + 1) list)) out₀ 0 out i
next p list i w s below own written =
    let is : w ≡ own_weight p (entry_at list i) =
    own ∙ own_weight_along_the_rim p (entry_at list i) (s.sorted.a<b i below) (s.sorted.b<c i below) (s.corners i below).c<n in
    turn (rest_step (own_weight p) list i [] below ∙ ap (λ (k : ℕ). k ∷ map (own_weight p) (drop (i + 1) list)) (sym is)) written

pub own_weight-requires : goal.own_weight-requires
own_weight-requires c =
    let s = c.requires.0 in (
      s.corners c.loop-i.i c.loop-i-test.true,
      face_measured s c.loop-i.i c.loop-i-test.true refl
          (length_is c.args.rim.now.polygon c.args.candidates.now c.args.weights.now c.loop-i.weights c.loop-i.i c.loop-i-test.true
          c.requires.2 c.loop-i.invariant.kept),
    )

pub loop-i-preserved : goal.loop-i-preserved
loop-i-preserved c = push (next c.args.rim.now.polygon c.args.candidates.now c.loop-i.i c.own_weight.result c.requires.0 c.loop-i-test.true
    c.own_weight.ensures c.loop-i.invariant)

pub returns : goal.returns
returns c = (all (turn (rest_end _ _ _ c.loop-i-test.false) c.loop-i.invariant)).1
