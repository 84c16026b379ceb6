-- What the finder's answer says of a polygon and of the tables. Assumes nothing.
use mathlib.Core.Path.{◌≡◌, refl, sym, ap, ◌∙◌}
use mathlib.Core.Bool.{Bool, false}
use mathlib.Core.List.{List}
use Prim.Native.Nat.{ℕ, zero, suc, ◌-◌, ◌≤◌}
use borrow.Author.Tests.{ltb-false}
use lib.Dec.{ltb}
use lib.ListN.{length}
use Rattle.std.proofs.Common.{None, Ok, Err}
use Rattle.codes.specs.declared.Refusal.{Refusal}
use Rattle.codes.specs.Refusals.{refusal}
use Rattle.lists.specs.Lists.{either, filled}
use Rattle.lists.proofs.Choice.{true_not_false, either_left, either_neither, not_true_false}
use Rattle.lists.proofs.Bools.{either_assoc}
use Rattle.polygon.specs.declared.Polygon.{Polygon}
use Rattle.delaunay.specs.Candidates.{candidates_of}
use Rattle.finder.specs.Finding.{Found, counts, candidate_count_of, row_count_of, Finding, finding, short_tables, number_due, find_by, beside_number, find_beside_call}
use Rattle.triangulator.specs.Call.{Outcome}
use Rattle.pipeline.specs.Patching.{Tables, tables, Patching, patching, weights_in, rows_in, tables_short, patch_by, patched, polygon_number, patch_polygon}

module _ (p : Polygon) (triangles : List ℕ) (candidates : List (List ℕ)) (weights : List ℕ) (rows : List (List ℕ)) (work : List ℕ) where
  abbrev lent : Tables
  lent = tables triangles candidates weights rows work

  abbrev number : ℕ
  number = beside_number p (length triangles) (length work) candidates weights rows

  -- the finder's number is that of the call
  number_same : number ≡ polygon_number p lent
  unfolding tables_short
  number_same =
      ap (λ (b : Bool). number_due b p)
      (sym (either_assoc (ltb (length triangles) (p.n - 2)) (ltb (length work) (length (candidates_of p))) (short_tables p candidates weights rows)))

  as_outcome : Found → Outcome
  as_outcome (Ok lists) = Ok None
  as_outcome (Err k) = Err k

  -- the finder's answer as that of the call
  as_patching : Finding → Patching
  as_patching f = patching (as_outcome f.answer) (tables triangles f.candidates f.weights f.rows work)

  -- the finder refuses: so does the call
  pub find_refused : {f : Found} {k : Refusal} {c r : List (List ℕ)} {w : List ℕ} → f ≡ Err k →
      finding f c w r ≡ find_beside_call p (length triangles) (length work) candidates weights rows →
      patching (Err k) (tables triangles c w r work) ≡ patch_polygon p (tables triangles candidates weights rows work)
  unfolding patch_polygon as_outcome as_patching
  find_refused {f} {k} {c} {r} {w} d e = by number (ap (λ (g : Found). finding g c w r) (sym d) ∙ e) ∙ ap (λ (n : ℕ). patch_by n p lent) number_same
    where
      by : (n : ℕ) → finding (Err k) c w r ≡ find_by n p candidates weights rows →
          patching (Err k) (tables triangles c w r work) ≡ patch_by n p lent
      by zero e =
          let f : ◌≡◌ {A = Found} (Err k) (Ok (counts (length (candidates_of p)) (length (rows_in p)))) = ap (λ (g : Finding). g.answer) e in absurd cc
      by (suc n) e = ap as_patching e

  -- the finder finds the lists: no number is due
  pub record Lists-found (x y : ℕ) (c r : List (List ℕ)) (w : List ℕ) : Type 0 where
    pub none_due : polygon_number p (tables triangles candidates weights rows work) ≡ 0
    pub count : x ≡ length (candidates_of p)
    pub row_count : y ≡ length (rows_in p)
    pub candidates_are : c ≡ filled (candidates_of p) candidates
    pub weights_are : w ≡ filled (weights_in p) weights
    pub rows_are : r ≡ filled (rows_in p) rows

  pub find_lists : {x y : ℕ} {c r : List (List ℕ)} {w : List ℕ} →
      finding (Ok (counts x y)) c w r ≡ find_beside_call p (length triangles) (length work) candidates weights rows →
      Lists-found x y c r w
  find_lists {x} {y} {c} {r} {w} e = by number refl e
    where
      by : (n : ℕ) → number ≡ n → finding (Ok (counts x y)) c w r ≡ find_by n p candidates weights rows → Lists-found x y c r w
      by (suc n) m d =
          let f : ◌≡◌ {A = Found} (Ok (counts x y)) (Err (refusal (suc n))) = ap (λ (g : Finding). g.answer) d in absurd cc
      by zero m d =
          record {
            none_due = sym number_same ∙ m;
            count = ap (λ (g : Finding). candidate_count_of g.answer) d;
            row_count = ap (λ (g : Finding). row_count_of g.answer) d;
            candidates_are = ap (λ (g : Finding). g.candidates) d;
            weights_are = ap (λ (g : Finding). g.weights) d;
            rows_are = ap (λ (g : Finding). g.rows) d;
          }

  -- the tables of the tiler have room
  pub record Room : Type 0 where
    pub triangle_room : p.n - 2 ≤ length triangles
    pub work_room : length (candidates_of p) ≤ length work

  pub room : tables_short p (tables triangles candidates weights rows work) ≡ false → Room
  unfolding tables_short
  room e =
      let t = ltb (length triangles) (p.n - 2) in
      let k = ltb (length work) (length (candidates_of p)) in
      let rest = short_tables p candidates weights rows in
      let second : either k rest ≡ false = either_neither t (either k rest) e in
      record {
        triangle_room = ltb-false (length triangles) (p.n - 2) (not_true_false t (λ h. true_not_false (either_left t (either k rest) h) e));
        work_room = ltb-false (length work) (length (candidates_of p)) (not_true_false k (λ h. true_not_false (either_left k rest h) second));
      }

  -- no number is due: the call's answer is the patch
  pub patched_is : polygon_number p (tables triangles candidates weights rows work) ≡ 0 →
      patch_polygon p (tables triangles candidates weights rows work) ≡ patched p (tables triangles candidates weights rows work)
  unfolding patch_polygon
  patched_is e = ap (λ (n : ℕ). patch_by n p lent) e
