use mathlib.Core.List.{List, map}
use Prim.Native.Nat.{ℕ}
use lib.ListN.{drop}
use Rattle.polygon.specs.declared.Polygon.{Polygon}
use Rattle.geometry.specs.Faces.{length_of}
use Rattle.lists.proofs.Writing.{Writing}
use Rattle.dihedrals.specs.Dihedrals.{face_normal, lengths_of}
use Rattle.dihedrals.proofs.write_lengths.Given as goal

abbrev pub measure : Polygon → List ℕ → ℕ
measure p t = length_of (face_normal p t)

abbrev pub invariant-loop-i : goal.invariant-loop-i
invariant-loop-i l = Writing (lengths_of l.fn.p l.candidates) (map (measure l.fn.p) (drop l.i l.candidates)) l.initial.out 0 l.out l.i
