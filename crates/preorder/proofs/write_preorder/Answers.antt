-- The triangles are written in preorder: at each turn the stack is the list of parts that the turn's number names (`Listing`).
use Prim.Native.Nat.{ℕ, ◌+◌, ◌-◌, ◌≤◌, ◌<◌}
use mathlib.Core.Path.{◌≡◌, sym, ap, ◌∙◌, subst}
use mathlib.Core.List.{List, ◌++◌}
use native.Mathlib.Omega.{arith}
use lib.ListN.{length}
use Rattle.lists.specs.Lists.{filled}
use Rattle.triangulation.specs.Triangulations.{Problem, best_key}
use Rattle.triangulation.specs.Problems.{problem_from}
use Rattle.triangulation.specs.Recursion.{cost_of, rest_of, no_total}
use Rattle.minimum_weight.specs.declared.choice.Pick.{Pick}
use Rattle.minimum_weight.specs.Tables.{WellFormed, AllReady, pick_under}
use Rattle.preorder.specs.declared.Part.{Part}
use Rattle.preorder.specs.Preorder.{waiting, beneath, most_parts, Waits, Listing}
use Rattle.minimum_weight.proofs.Edges.{found_far}
use Rattle.preorder.proofs.Turns.{HasTriangulation, Whole, Down, first_triangle, patch_of, patch_length, down_first, found_first}
use Rattle.minimum_weight.proofs.Answer.{answer_whole}
use Rattle.preorder.proofs.Listing.{top, put, skip, start, part_waits, top_whole, top_place, rest_waits, left_place, one_turn, end}
use Rattle.preorder.proofs.write_preorder.Goals.{Joined-j-b-gt1, then-j-b-gt1, else-j-b-gt1, then-b-i-gt1, else-b-i-gt1}
use Rattle.preorder.proofs.write_preorder.Goals as goal

-- a job with a triangulation
module _ {n : ℕ} {candidates : List (List ℕ)} {weights : List ℕ} {rows : List (List ℕ)}
    (ok : WellFormed n candidates weights rows) (some : cost_of (best_key (problem_from n candidates weights rows)) < no_total) where
  abbrev job : Problem
  job = problem_from n candidates weights rows

  tiled : HasTriangulation job
  tiled = record {
    valid = ok.valid;
    bounded = ok.bounded;
    some = omega (arith, some, ap cost_of (answer_whole n _ _ _ ok));
  }

  -- the table has a place for each triangle
  room : (triangles : List ℕ) → n ≤ length triangles + 2 → length (patch_of tiled) ≤ length triangles
  room triangles h = omega (arith, patch_length tiled, h)

  -- the part that a turn takes
  module _ {before table : List ℕ} {stack : List Part} {height count : ℕ} (l : Listing job (patch_of tiled) before stack height count table)
      (k : count < n - 2) where
    abbrev taken : Part
    taken = top stack height

    -- a triangle is still to be listed
    due : count < length (patch_of tiled)
    due = omega (arith, k, patch_length tiled)

    whole : Whole job taken
    whole = top_whole tiled l due

    place : height - 1 < most_parts
    place = top_place tiled l due

    -- the triangle that it lists, and what is beneath it
    module _ (work : List ℕ) (ready : AllReady job work) (q : Pick) (f : q ≡ pick_under candidates work rows taken.outer taken.first taken.last) where
      first : q.at ≡ first_triangle job taken
      first = found_first job ok.valid ok.bounded taken q whole
          (found_far n _ _ _ ok work taken.outer taken.first taken.last (λ u m _ _. ready u m)
          (λ (e : taken.last ≡ taken.first + 1). omega (arith, whole.order)) q f)

      down : Down job taken q.at
      down = subst (Down job _) (sym first) (down_first job ok.valid ok.bounded _ whole)

module _ (c : goal.Joined-j-b-gt1) where
  abbrev chosen : ℕ
  chosen = c.best_in_block-pick.result.at

  abbrev middle : ℕ
  middle = (job c.args.instance.now.well_formed c.requires.all_ready.1).b chosen

  abbrev part : Part
  part = top c.loop-count.stack c.loop-count.height

  -- what waits once the right part is put
  right : Waits c.if-j-b-gt1.stack c.if-j-b-gt1.height
      (beneath chosen middle part.last ++ waiting c.loop-count.stack (c.loop-count.height - 1))
  right =
      let ok = c.args.instance.now.well_formed in
      let w = rest_waits (tiled ok c.requires.all_ready.1) c.loop-count.invariant
      (due ok c.requires.all_ready.1 c.loop-count.invariant c.loop-count-test.true) in
      elim c.if-j-b-gt1.branch [
        | then-j-b-gt1 z ↦ put chosen middle part.last w (place ok c.requires.all_ready.1 c.loop-count.invariant c.loop-count-test.true)
            (omega (arith, z.if-j-b-gt1.true)) z.new.ensures z.stack-is z.height-is
        | else-j-b-gt1 z ↦ skip chosen middle part.last w (omega (arith, z.if-j-b-gt1.false)) z.stack-is z.height-is
      ]

  abbrev first_of : chosen ≡ first_triangle (job c.args.instance.now.well_formed c.requires.all_ready.1) part
  first_of = first c.args.instance.now.well_formed c.requires.all_ready.1 c.loop-count.invariant c.loop-count-test.true c.args.work.now c.requires.all_ready.0
      c.best_in_block-pick.result (rw (c.blocked-blocked.ensures.0, c.rows-rows.ensures) at c.best_in_block-pick.ensures)

  -- the left part has a place above the right part
  left : 1 < middle - part.first → c.if-j-b-gt1.height < most_parts
  left h =
      let ok = c.args.instance.now.well_formed in
      left_place (tiled ok c.requires.all_ready.1) c.loop-count.invariant
      (due ok c.requires.all_ready.1 c.loop-count.invariant c.loop-count-test.true) chosen first_of h right

pub loop-count-init : goal.loop-count-init
loop-count-init c = start (tiled c.args.instance.now.well_formed c.requires.all_ready.1) c.new-whole.result c.args.triangles.now c.new-whole.ensures

pub overflow_sub-height : goal.overflow_sub-height
overflow_sub-height c =
    let ok = c.args.instance.now.well_formed in
    let s = c.requires.all_ready.1 in
    part_waits (tiled ok s) c.loop-count.invariant (due ok s c.loop-count.invariant c.loop-count-test.true)

pub offset_bounds-stack-height : goal.offset_bounds-stack-height
offset_bounds-stack-height c =
    omega (arith, place c.args.instance.now.well_formed c.requires.all_ready.1 c.loop-count.invariant c.loop-count-test.true)

pub bounds-stack-height : goal.bounds-stack-height
bounds-stack-height c = place c.args.instance.now.well_formed c.requires.all_ready.1 c.loop-count.invariant c.loop-count-test.true

pub best_in_block-pick-requires : goal.best_in_block-pick-requires
best_in_block-pick-requires c =
    let ok = c.args.instance.now.well_formed in
    let w = whole ok c.requires.all_ready.1 c.loop-count.invariant c.loop-count-test.true in
    (rw c.blocked-blocked.ensures.0 c.requires.places.0, omega (arith, w.order, w.within, ok.bounded.few))

pub offset_bounds-candidates-u : goal.offset_bounds-candidates-u
offset_bounds-candidates-u c =
    let ok = c.args.instance.now.well_formed in
    omega (
      arith,
      ok.few,
      (down ok c.requires.all_ready.1 c.loop-count.invariant c.loop-count-test.true c.args.work.now c.requires.all_ready.0
          c.best_in_block-pick.result (rw (c.blocked-blocked.ensures.0, c.rows-rows.ensures) at c.best_in_block-pick.ensures)).valid,
    )

pub bounds-candidates-u : goal.bounds-candidates-u
bounds-candidates-u c =
    (down c.args.instance.now.well_formed c.requires.all_ready.1 c.loop-count.invariant c.loop-count-test.true c.args.work.now c.requires.all_ready.0
    c.best_in_block-pick.result (rw (c.blocked-blocked.ensures.0, c.rows-rows.ensures) at c.best_in_block-pick.ensures)).valid

pub overflow_cast-triangles : goal.overflow_cast-triangles
overflow_cast-triangles c =
    let ok = c.args.instance.now.well_formed in
    omega (
      arith,
      ok.few,
      (down ok c.requires.all_ready.1 c.loop-count.invariant c.loop-count-test.true c.args.work.now c.requires.all_ready.0
          c.best_in_block-pick.result (rw (c.blocked-blocked.ensures.0, c.rows-rows.ensures) at c.best_in_block-pick.ensures)).valid,
    )

pub overflow_sub-j : goal.overflow_sub-j
overflow_sub-j c =
    let d = down c.args.instance.now.well_formed c.requires.all_ready.1 c.loop-count.invariant c.loop-count-test.true c.args.work.now c.requires.all_ready.0
    c.best_in_block-pick.result (rw (c.blocked-blocked.ensures.0, c.rows-rows.ensures) at c.best_in_block-pick.ensures) in
    omega (arith, d.left, d.right)

pub overflow_sub-b : goal.overflow_sub-b
overflow_sub-b c =
    let d = down c.args.instance.now.well_formed c.requires.all_ready.1 c.loop-count.invariant c.loop-count-test.true c.args.work.now c.requires.all_ready.0
    c.best_in_block-pick.result (rw (c.blocked-blocked.ensures.0, c.rows-rows.ensures) at c.best_in_block-pick.ensures) in
    omega (arith, d.left, d.right)

pub offset_bounds-stack-height-then-b-i-gt1 : goal.offset_bounds-stack-height-then-b-i-gt1
offset_bounds-stack-height-then-b-i-gt1 c =
    omega (arith, left (goal.at.offset_bounds-stack-height-then-b-i-gt1 c).Joined-j-b-gt1 c.if-b-i-gt1.true)

pub bounds-stack-height-then-b-i-gt1 : goal.bounds-stack-height-then-b-i-gt1
bounds-stack-height-then-b-i-gt1 c = left (goal.at.bounds-stack-height-then-b-i-gt1 c).Joined-j-b-gt1 c.if-b-i-gt1.true

pub loop-count-preserved : goal.loop-count-preserved
loop-count-preserved c =
    let j = (goal.at.loop-count-preserved c).Joined-j-b-gt1 in
    let ok = c.args.instance.now.well_formed in
    let s = c.requires.all_ready.1 in
    let u = chosen j in
    let b = middle j in
    one_turn (tiled ok s) c.loop-count.invariant (due ok s c.loop-count.invariant c.loop-count-test.true) u (first_of j)
    (room ok s c.args.triangles.now c.requires.places.1)
    (elim c.if-b-i-gt1.branch [
      | then-b-i-gt1 z ↦ put u (part j).first b (right j) (left j z.if-b-i-gt1.true) z.if-b-i-gt1.true z.new-then-b-i-gt1.ensures z.stack-is z.height-is
      | else-b-i-gt1 z ↦ skip u (part j).first b (right j) z.if-b-i-gt1.false z.stack-is z.height-is
    ])

pub returns : goal.returns
returns c =
    let ok = c.args.instance.now.well_formed in
    let t = tiled ok c.requires.all_ready.1 in
    end t c.loop-count.invariant (omega (arith, c.loop-count-test.false, patch_length t))
    ∙ ap (λ k. filled (rest_of k) c.args.triangles.now) (sym (answer_whole c.args.instance.now.job.n _ _ _ ok))
