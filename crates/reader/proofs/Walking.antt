-- One step of the walk along the chain. Assumes nothing.
use mathlib.Core.Path.{◌≡◌, refl, sym, ap, ◌∙◌, subst}
use mathlib.Core.Bool.{Bool, true, false, cond}
use mathlib.Core.List.{List}
use Prim.Native.Nat.{ℕ, zero, suc, ◌+◌, ◌≤◌, ◌<◌}
use native.Mathlib.Numerals.{add-one}
use native.Mathlib.Omega.{arith}
use borrow.Author.Tests.{le-ltb, lt-ltb, lt-leb, le-leb, eqb-true, eqb-false}
use lib.IntN.{ℤ, pos, negsuc}
use mir.Syntax.{w64}
use mir.Val.{SFits, to_z, of_z}
use mir.Facts.{to_z-of_z}
use lib.ListN.{get_or, set, replicate, length-set, length-replicate}
use lib.Seq.{get_or-set_same, get_or-set_other}
use lib.Dec.{ltb, eqb}
use Rattle.codes.specs.Refusals.{refusal}
use Rattle.lists.specs.Lists.{either}
use Rattle.lists.proofs.Choice.{yes, no}
use Rattle.polygon.specs.Normal.{normal_code}
use Rattle.polygon.specs.Polygon.{origin}
use Rattle.polygon.specs.declared.normal.Normal.{Normal}
use Rattle.terms.proofs.Numbers.{due_here, due_on}
use Rattle.grid.specs.declared.GridPoint.{GridPoint}
use Rattle.grid.specs.Point.{OnGrid}
use Rattle.grid.specs.Number.{round_eighths}
use Rattle.rim_file.specs.File.{u16_at, first_record, record_count, max_records, record_numbers, offset, kind, third_number}
use Rattle.rim_file.specs.Record.{Height, known, height_of, record_at, vertex_of, normal_in, number_of}
use Rattle.std.proofs.Common.{None, Some, Ok, Err}
use Rattle.rim_file.proofs.Vertices.{Vertexed, vertexed, refused_positive}
use Rattle.reader.specs.Chain.{link, met_before, height_before, vertex_at_position, normal_at_position, over_limit, link_code, record_code, position_code}
use Rattle.reader.specs.Steps.{Walking, Stepped, Stopped}
use Rattle.reader.specs.declared.Progress.{Progress}
use Rattle.reader.proofs.Answers.{over_least}

pub positive : (k : ℕ) → (k ≡ 0 → ⊥) → 0 < k
positive zero h = absurd (h refl)
positive (suc k) h = omega arith

abbrev progress : List Bool → Height → GridPoint → Normal → ℕ → ℕ → Progress
progress met height vertex normal n next = record { met = met; height = height; vertex = vertex; normal = normal; n = n; link = next }

-- before the first position no record is met
pub walking_start : (limit : ℕ) (s : List ℕ) (none : Normal) (first : ℕ) → first ≡ first_record s →
    Walking limit s (progress (replicate record_numbers false) None origin none 0 first)
unfolding link met_before height_before
walking_start limit s none first e = record {
  here = e;
  marks = length-replicate record_numbers false;
  marked = λ k h. unmarked record_numbers k;
  level = refl;
  on_grid = record { size = omega arith };
  within = omega arith;
}
  where
    unmarked : (m k : ℕ) → get_or (replicate m false) k false ≡ false
    unmarked zero k = refl
    unmarked (suc m) zero = refl
    unmarked (suc m) (suc k) = unmarked m k

-- a coordinate as the machine reads it back from its bits
on_grid_fits : (z : ℤ) → OnGrid z → SFits w64 z
on_grid_fits (pos k) g = record { sfits = omega (arith, g.size) }
on_grid_fits (negsuc k) g = record { sfits = omega (arith, g.size) }

held : (z : ℤ) → OnGrid z → to_z w64 (of_z w64 z) ≡ z
held z g = to_z-of_z (on_grid_fits z g)

module _ {limit : ℕ} {s : List ℕ} {w : Progress} (v : Walking limit s w) where
  -- a number is due here
  pub stopped_by : (k : ℕ) → 0 < k → position_code limit s w.n ≡ k → Stopped limit s w (refusal k)
  stopped_by k h e = record { some = h; number = sym e }

  -- a number of the link comes first
  link_stops : (k : ℕ) → 0 < k → link_code limit s w.n ≡ k → position_code limit s w.n ≡ k
  unfolding position_code
  link_stops k h e = due_here (record_code s w.n) (sym e) (λ z. omega arith)

  pub link_due : record_count s < w.link → position_code limit s w.n ≡ 3
  unfolding link_code
  link_due h = link_stops 3 (omega arith) (yes 3 _ (lt-ltb (record_count s) (link s w.n) (omega (arith, v.here))))

  module _ (known-record : w.link ≤ record_count s) (few : record_count s ≤ max_records) where
    link_fine : ltb (record_count s) (link s w.n) ≡ false
    link_fine = le-ltb (record_count s) (link s w.n) (omega (arith, v.here))

    met_here : get_or w.met w.link false ≡ met_before s w.n (link s w.n)
    met_here = v.marked w.link (omega arith) ∙ ap (λ (k : ℕ). met_before s w.n k) v.here

    pub repeated_due : get_or w.met w.link false ≡ true → position_code limit s w.n ≡ 4
    unfolding link_code
    repeated_due h = link_stops 4 (omega arith) (no 3 _ link_fine ∙ yes 4 _ (sym met_here ∙ h))

    module _ (new : get_or w.met w.link false ≡ false) where
      pub over_due : w.n ≡ limit → position_code limit s w.n ≡ over_limit limit
      unfolding link_code
      over_due h =
          link_stops (over_limit limit) (omega (arith, over_least limit))
          (no 3 _ link_fine ∙ no 4 _ (sym met_here ∙ new) ∙ yes (over_limit limit) _ (le-leb limit w.n (omega arith)))

      module _ (room : w.n < limit) (at : ℕ) (place : at ≡ offset s w.link) where
        record_code_lem : position_code limit s w.n ≡ record_code s w.n
        unfolding position_code link_code
        record_code_lem = due_on (record_code s w.n) (no 3 _ link_fine ∙ no 4 _ (sym met_here ∙ new) ∙ no (over_limit limit) _ (lt-leb limit w.n room))

        starts : at ≡ offset s (link s w.n)
        starts = place ∙ ap (λ (k : ℕ). offset s k) v.here

        vertex_here : vertex_of (record_at s at (known w.height)) (height_of w.height) ≡ vertex_at_position s w.n
        vertex_here =
            ap (λ (i : ℕ). vertex_of (record_at s i (known w.height)) (height_of w.height)) starts
            ∙ ap (λ (h : Height). vertex_of (record_at s (offset s (link s w.n)) (known h)) (height_of h)) v.level

        -- the record here is refused
        pub record_stops : (k : ℕ) → vertex_of (record_at s at (known w.height)) (height_of w.height) ≡ Err (refusal k) → Stopped limit s w (refusal k)
        record_stops k e =
            let some = refused_positive s at (known w.height) (height_of w.height) k e in
            let due : record_code s w.n ≡ k = due_here {j = number_of (vertex_at_position s w.n)} (normal_code (normal_at_position s w.n))
            (sym (ap number_of (sym vertex_here ∙ e))) (λ z. omega arith) in
            stopped_by k some (record_code_lem ∙ due)

        -- past the record here: it is marked, and its height is known
        marked_next : (k : ℕ) → k < record_numbers → get_or (set w.met w.link true) k false ≡ met_before s (suc w.n) k
        unfolding met_before
        marked_next k h = by (eqb (link s w.n) k) refl
          where
            by : (b : Bool) → eqb (link s w.n) k ≡ b → get_or (set w.met w.link true) k false ≡ either b (met_before s w.n k)
            by true e =
                let same : k ≡ w.link = sym (v.here ∙ eqb-true (link s w.n) k e) in
                ap (λ (j : ℕ). get_or (set w.met w.link true) j false) same ∙ get_or-set_same w.met w.link true false (omega (arith, v.marks))
            by false e =
                get_or-set_other w.met w.link k true false (λ d. eqb-false (link s w.n) k e (sym v.here ∙ sym d)) ∙ v.marked k h

        level_next : (p : GridPoint) → Vertexed s at w.height p → Some p.z ≡ height_before s (suc w.n)
        unfolding height_before
        level_next p d =
            sym d.height_after
            ∙ ap (λ (i : ℕ). cond (eqb (kind s i) 1) (Some (round_eighths (third_number s i))) w.height) starts
            ∙ ap (λ (h : Height).
            cond (eqb (kind s (offset s (link s w.n))) 1) (Some (round_eighths (third_number s (offset s (link s w.n))))) h) v.level

        -- the record here has a vertex, and this normal
        module _ (p : GridPoint) (has_vertex_lem : vertex_of (record_at s at (known w.height)) (height_of w.height) ≡ Ok p)
            (q : Normal) (has_normal : q ≡ normal_in s at) where
          normal_here : q ≡ normal_at_position s w.n
          normal_here = has_normal ∙ ap (λ (i : ℕ). normal_in s i) starts

          normal_code_lem : position_code limit s w.n ≡ normal_code q
          normal_code_lem =
              record_code_lem ∙ due_on {j = number_of (vertex_at_position s w.n)} (normal_code (normal_at_position s w.n))
              (ap number_of (sym vertex_here ∙ has_vertex_lem)) ∙ ap normal_code (sym normal_here)

          -- the normal is refused
          pub normal_stops : 0 < normal_code q → Stopped limit s w (refusal (normal_code q))
          normal_stops h = stopped_by (normal_code q) h normal_code_lem

          -- the walk goes on
          pub record_passes : (next : ℕ) → normal_code q ≡ 0 → next ≡ u16_at s at →
              Stepped limit s w (progress (set w.met w.link true) (Some (to_z w64 (of_z w64 p.z))) p q (w.n + 1) next)
          unfolding link
          record_passes next f d =
              let x : Vertexed s at w.height p = vertexed s at w.height p v.on_grid has_vertex_lem in
              let same = held p.z x.on_grid.z in
              record {
                none = normal_code_lem ∙ f;
                walking = record {
                  here = d ∙ ap (λ (i : ℕ). u16_at s i) starts ∙ ap (λ (i : ℕ). link s i) (sym (add-one w.n));
                  marks = length-set w.met w.link true ∙ v.marks;
                  marked = λ k h. marked_next k h ∙ ap (λ (i : ℕ). met_before s i k) (sym (add-one w.n));
                  level = ap Some same ∙ level_next p x ∙ ap (λ (i : ℕ). height_before s i) (sym (add-one w.n));
                  on_grid = subst OnGrid (sym same) x.on_grid.z;
                  within = omega arith;
                };
                next = refl;
                vertex_is = sym vertex_here ∙ has_vertex_lem;
                normal_is = normal_here;
              }
