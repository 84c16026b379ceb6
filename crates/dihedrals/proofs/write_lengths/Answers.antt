-- `dihedrals::write_lengths` meets its contract, by what is left to write. Assumes nothing.
use mathlib.Core.Path.{◌≡◌, sym, ◌∙◌, ap}
use mathlib.Core.List.{List, [], ◌∷◌, map}
use Prim.Native.Nat.{ℕ, ◌+◌, ◌<◌}
use lib.ListN.{length, drop}
use Rattle.geometry.specs.Faces.{length_of}
use Rattle.geometry.proofs.Vectors.{within_as}
use Rattle.terms.specs.Entries.{entry_at}
use Rattle.polygon.specs.declared.Polygon.{Polygon}
use Rattle.lists.proofs.Writing.{Writing, turn, push, all, rest_step, rest_end}
use Rattle.dihedrals.specs.Dihedrals.{lengths_of}
use Rattle.dihedrals.proofs.Faces.{face_within}
use Rattle.dihedrals.proofs.write_lengths.Invariants.{measure}
use Rattle.dihedrals.proofs.write_lengths.Goals as goal

-- the length that is written next
next : (p : Polygon) (cs : List (List ℕ)) (i m : ℕ) {out₀ out : List ℕ} → i < length cs → m ≡ measure p (entry_at cs i) →
    Writing (lengths_of p cs) (map (measure p) (drop i cs)) out₀ 0 out i → Writing (lengths_of p cs) (m ∷ map (measure p) (drop (i + 1) cs)) out₀ 0 out i
next p cs i m h e w = turn (rest_step (measure p) cs i [] h ∙ ap (λ (k : ℕ). k ∷ map (measure p) (drop (i + 1) cs)) (sym e)) w

pub normal_length-requires : goal.normal_length-requires
normal_length-requires c = within_as c.normal.ensures (face_within c.requires.0.valid (c.requires.0.corners c.loop-i.i c.loop-i-test.true))

pub loop-i-preserved : goal.loop-i-preserved
loop-i-preserved c = push (next c.args.p c.args.candidates.now c.loop-i.i c.normal_length.result c.loop-i-test.true
    (c.normal_length.ensures ∙ ap length_of c.normal.ensures) c.loop-i.invariant)

pub returns : goal.returns
returns c = (all (turn (rest_end _ _ _ c.loop-i-test.false) c.loop-i.invariant)).1
