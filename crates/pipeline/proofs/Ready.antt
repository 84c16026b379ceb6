-- Once the lists are found, the tiler has what it needs, and its answer is that of the call. Assumes nothing.
use mathlib.Core.Path.{◌≡◌, sym, ap, ◌∙◌}
use mathlib.Core.List.{List}
use Prim.Native.Nat.{ℕ, ◌+◌, ◌≤◌}
use native.Mathlib.Omega.{arith}
use lib.ListN.{length, take}
use lib.Seq.{length-take-le}
use Rattle.jobs.specs.Job.{job_of}
use Rattle.lists.proofs.Writing.{taken, filled_room}
use Rattle.polygon.specs.declared.Polygon.{Polygon}
use Rattle.polygon.specs.Polygon.{ValidPolygon}
use Rattle.polygon.proofs.Validity.{code_valid}
use Rattle.delaunay.specs.Candidates.{candidates_of}
use Rattle.std.specs.Prelude.{Ok}
use Rattle.finder.specs.Finding.{Found, counts, finding, find_beside_call}
use Rattle.finder.proofs.Answers.{clear}
use Rattle.triangulation.specs.Triangulations.{best}
use Rattle.triangulation.specs.Problems.{problem_from}
use Rattle.minimum_weight.specs.Tables.{WellFormed}
use Rattle.triangulator.specs.Call.{Outcome, Result, result_of, settled}
use Rattle.triangulator.proofs.Accepting.{well_formed}
use Rattle.pipeline.specs.Patching.{tables, patching, weights_in, rows_in, problem_in, tables_short, patched_by, patch_polygon}
use Rattle.pipeline.proofs.Finds.{Lists-found, find_lists, room, patched_is}
use Rattle.pipeline.proofs.Accepted.{weight_count, lists_accepted}

-- what the tiler asks of the tables, the lists in their first places
pub record Ready (n x y : ℕ) (triangles : List ℕ) (candidates : List (List ℕ)) (weights : List ℕ) (rows : List (List ℕ)) (work : List ℕ) : Type 0 where
  pub candidate_places : x ≤ length candidates
  pub weight_places : x ≤ length weights
  pub row_places : y ≤ length rows
  pub work_places : x ≤ length work
  pub triangle_places : n ≤ length triangles + 2
  pub formed : WellFormed n (take x candidates) (take x weights) (take y rows)

-- the count of the first places
pub counted : (n x : ℕ) (candidates : List (List ℕ)) (weights : List ℕ) (rows : List (List ℕ)) (triangles work : List ℕ) {s : Result} → x ≤ length candidates →
    s ≡ settled (best (problem_from n (take x candidates) weights rows)) (length (take x candidates)) triangles work →
    s ≡ settled (best (problem_from n (take x candidates) weights rows)) x triangles work
counted n x candidates weights rows triangles work h e =
    e ∙ ap (λ (k : ℕ). settled (best (problem_from n (take x candidates) weights rows)) k triangles work) (length-take-le x candidates h)

module _ (p : Polygon) (triangles : List ℕ) (candidates : List (List ℕ)) (weights : List ℕ) (rows : List (List ℕ)) (work : List ℕ)
    {f : Found} {x y : ℕ} {c r : List (List ℕ)} {w : List ℕ} (found : f ≡ Ok (counts x y))
    (e : finding f c w r ≡ find_beside_call p (length triangles) (length work) candidates weights rows) where
  lists : Lists-found p triangles candidates weights rows work x y c r w
  lists = find_lists p triangles candidates weights rows work (ap (λ (g : Found). finding g c w r) (sym found) ∙ e)

  weights_counted : x ≡ length (weights_in p)
  weights_counted = lists.count ∙ sym (weight_count p)

  first_candidates : take x c ≡ candidates_of p
  first_candidates = taken (candidates_of p) candidates lists.count lists.candidates_are

  first_weights : take x w ≡ weights_in p
  first_weights = taken (weights_in p) weights weights_counted lists.weights_are

  first_rows : take y r ≡ rows_in p
  first_rows = taken (rows_in p) rows lists.row_count lists.rows_are

  pub ready : Ready p.n x y triangles c w r work
  ready =
      let clear = clear p (tables_short p (tables triangles candidates weights rows work)) lists.none_due in
      let v : ValidPolygon p = code_valid p clear.code in
      let places = room p triangles candidates weights rows work clear.no_13 in
      record {
        candidate_places = filled_room (candidates_of p) candidates lists.count lists.candidates_are;
        weight_places = filled_room (weights_in p) weights weights_counted lists.weights_are;
        row_places = filled_room (rows_in p) rows lists.row_count lists.rows_are;
        work_places = omega (arith, lists.count, places.work_room);
        triangle_places = omega (arith, places.triangle_room, v.least);
        formed = rw (first_candidates, first_weights, first_rows)
            (well_formed (job_of p.n (candidates_of p) (weights_in p) (rows_in p)) v.least v.most (lists_accepted p v));
      }

  pub patched_all : {o : Outcome} {t k : List ℕ} → result_of o t k ≡ settled (best (problem_from p.n (take x c) (take x w) (take y r))) x triangles work →
      patching o (tables t c w r k) ≡ patch_polygon p (tables triangles candidates weights rows work)
  patched_all {o} {t} {k} d =
      let answer : result_of o t k ≡ settled (best (problem_in p)) (length (candidates_of p)) triangles work =
      d ∙ (λ i. settled (best (problem_from p.n (first_candidates i) (first_weights i) (first_rows i))) (lists.count i) triangles work) in
      (λ i. patching o (tables t (lists.candidates_are i) (lists.weights_are i) (lists.rows_are i) k))
      ∙ ap (λ (s : Result). patched_by s (weights_in p) p (tables triangles candidates weights rows work)) answer
      ∙ sym (patched_is p triangles candidates weights rows work lists.none_due)
