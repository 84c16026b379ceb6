-- `validation::edges::add_outside` meets its contract. Assumes nothing.
use Prim.Native.Nat.{ℕ}
use mathlib.Core.Path.{ap, sym, subst, ◌∙◌}
use mathlib.Core.List.{List}
use Rattle.terms.specs.Entries.{vertex_a, vertex_b, vertex_c}
use Rattle.validation.specs.Edges.{added, Room}
use Rattle.validation.proofs.EdgeCounts.{room_kept}
use Rattle.validation.proofs.edges.add_outside.Goals as goal

pub add-requires-2 : goal.add-requires-2
add-requires-2 c =
    let s = c in (
      s.requires.1,
      s.requires.2,
      subst (λ (l : List ℕ). Room l (vertex_b s.args.t) (vertex_c s.args.t)) (sym c.add.ensures) (room_kept s.args.table.now
          (vertex_a s.args.t) (vertex_b s.args.t) (vertex_c s.args.t) s.requires.0 s.requires.1 s.requires.2 s.requires.4),
    )

pub returns : goal.returns
returns c =
    let s = c in
    c.add-2.ensures ∙ ap (λ (l : List ℕ). added l (vertex_b s.args.t) (vertex_c s.args.t)) c.add.ensures
