-- Flat rims: which triples are their candidates, rims on one line, and triangles; and what the one call answers. Assumes nothing.
use mathlib.Core.Path.{◌≡◌, refl, ◌∙◌, ap}
use mathlib.Core.Bool.{Bool, false}
use mathlib.Core.List.Memᴰ
use mathlib.Core.List.{List, [], ◌∷◌, ◌++◌}
use Prim.Native.Nat.{ℕ, zero, suc, ◌+◌, ◌<◌}
use native.Mathlib.Omega.{arith}
use lib.IntN.{ℤ, pos}
use lib.ListN.{length}
use lib.Signed.{lt_z}
use Rattle.std.specs.Prelude.{Some, None, Ok}
use Rattle.codes.specs.Refusals.{number_of}
use Rattle.integers.proofs.Laws.{sub_self}
use Rattle.integers.proofs.Order.{less_by_difference}
use Rattle.lists.specs.Lists.{up_from, when, every_from}
use Rattle.lists.proofs.Choice.{true_not_false}
use Rattle.lists.proofs.Members.{no_members}
use Rattle.terms.specs.Entries.{triple}
use Rattle.polygon.specs.declared.Polygon.{Polygon}
use Rattle.polygon.specs.Polygon.{ValidPolygon, vertex}
use Rattle.planar.specs.Planes.{OnOneLine}
use Rattle.planar.specs.Circles.{collinear, distance_in_plane, strictly_inside_circle}
use Rattle.planar.proofs.Circles.{distance_q, distance_r}
use Rattle.planar.proofs.Lines.{line_threes}
use Rattle.planar.proofs.Planes.{fours_plane, plane_fours, line_plane}
use Rattle.faces.specs.Faces.{triples_of}
use Rattle.faces.proofs.Members.{triples_member}
use Rattle.delaunay.specs.Candidates.{is_candidate, candidates_of}
use Rattle.dihedrals.specs.Dihedrals.{rows_of}
use Rattle.weights.specs.Weights.{own_weight, weights_of}
use Rattle.rim_file.specs.File.{Bytes}
use Rattle.reader.specs.Order.{FilePlace, NoneDue}
use Rattle.reader.specs.Due.{FileDue}
use Rattle.triangulation.specs.Triangulations.{Answer, patch, best, best_key, key, is_triangulation, total_weight, preorder_from, count_between, count_outside}
use Rattle.triangulation.specs.Problems.{problem_from}
use Rattle.triangulation.specs.Demand3.{Triangulates}
use Rattle.triangulation.proofs.Demand3.{demand3, members, triangle_count}
use Rattle.triangulator.specs.Call.{settled, patch_with}
use Rattle.pipeline.specs.Patching.{Tables, Patching, problem_in, refused, patch_file}
use Rattle.pipeline.proofs.Values.{valid_job}
use Rattle.demands.specs.Demand1.{CallDue, by_reader, twelve, polygon_in}
use Rattle.demands.specs.Candidates.{Counts, Face, abc, abd, acd, bcd, Flat, CountsInPlane, Candidate, face}
use Rattle.demands.specs.Candidates.{three, Cospherical, Cocircular, Degenerate, by_sphere, by_circle}
use Rattle.demands.proofs.Candidates.{candidate_true, true_candidate}
use Rattle.demands.proofs.FileNumbers.{twelve_first}
use Rattle.demands.proofs.Demand1.{refused_first, given_first, accepted}

-- ---- which triples are candidates
module _ (p : Polygon) where
  no_four : Flat p → (a b c d : ℕ) → Counts p a b c d → ⊥
  no_four f a b c d k = true_not_false ((plane_fours (vertex p) p.n f).four a b c d k.a<b k.b<c k.c<d k.d<n) k.solid

  -- of a flat rim: the threes that count, and so no face of four (rule 2.4)
  pub flat_candidate : Flat p → (a b c : ℕ) → Candidate p a b c → CountsInPlane p a b c
  flat_candidate f a b c (three k) = k
  flat_candidate f x y z (face (abc a b c d k)) = absurd (no_four f a b c d k)
  flat_candidate f x y z (face (abd a b c d k)) = absurd (no_four f a b c d k)
  flat_candidate f x y z (face (acd a b c d k)) = absurd (no_four f a b c d k)
  flat_candidate f x y z (face (bcd a b c d k)) = absurd (no_four f a b c d k)

  -- of a rim that is not: the faces of the fours that count (rule 2.4)
  pub solid_candidate : (Flat p → ⊥) → (a b c : ℕ) → Candidate p a b c → Face p a b c
  solid_candidate s a b c (face f) = f
  solid_candidate s a b c (three k) = absurd (s k.flat)

  -- 12 is due on a flat rim only by a circle, and on any other only by a sphere (rule 4.12)
  pub flat_twelve : Flat p → Degenerate p → Cocircular p
  flat_twelve f (by_circle r) = r
  flat_twelve f (by_sphere r) = absurd (no_four f r.a r.b r.c r.d r.four)

  pub solid_twelve : (Flat p → ⊥) → Degenerate p → Cospherical p
  solid_twelve s (by_sphere r) = r
  solid_twelve s (by_circle r) = absurd (s r.three.flat)

-- ---- rims on one line
-- they have no candidates (rule 2.19)
pub line_none : (p : Polygon) → OnOneLine (vertex p) p.n → candidates_of p ≡ []
line_none p h = no_members (candidates_of p) (λ t m.
    let r = triples_member p.n (is_candidate p) t m in
    let k = flat_candidate p (line_plane (vertex p) p.n h) r.a r.b r.c (candidate_true p r.a r.b r.c r.holds_of) in
    true_not_false ((line_threes (vertex p) p.n h).three r.a r.b r.c r.a<b r.b<c r.c<n) k.proper)

-- and 12 is never due on them (rule 4.12)
pub line_no_12 : (p : Polygon) → OnOneLine (vertex p) p.n → Degenerate p → ⊥
line_no_12 p h d =
    let k = (flat_twelve p (line_plane (vertex p) p.n h) d).three in
    true_not_false ((line_threes (vertex p) p.n h).three _ _ _ k.a<b k.b<c k.c<n) k.proper

-- ---- triangles
not_below_same : (a b : ℤ) → a ≡ b → lt_z a b ≡ false
not_below_same a b e = less_by_difference a b ∙ ap (λ (z : ℤ). lt_z z (pos 0)) (sub_self a b e)

module _ (p : Polygon) (is3 : p.n ≡ 3) where
  -- three vertices are in one plane (rule 2.5), and 12 is never due on them (rule 4.12)
  pub three_flat : Flat p
  three_flat = fours_plane (vertex p) p.n (record { four = λ a b c d h i j k. absurd (omega arith) })

  pub three_no_12 : Degenerate p → ⊥
  three_no_12 (by_sphere r) = omega (arith, r.four.a<b, r.four.b<c, r.four.c<d, r.four.d<n)
  three_no_12 (by_circle r) = by r.fourth refl
    where
      by : (v : ℕ) → r.fourth ≡ v → ⊥
      by zero e = r.not_a (omega (arith, e, r.three.a<b, r.three.b<c, r.three.c<n))
      by (suc zero) e = r.not_b (omega (arith, e, r.three.a<b, r.three.b<c, r.three.c<n))
      by (suc (suc v)) e = r.not_c (omega (arith, e, r.fourth<n, r.three.a<b, r.three.b<c, r.three.c<n))

  module _ (proper : collinear (vertex p 0) (vertex p 1) (vertex p 2) ≡ false) where
    empty : (v : ℕ) → v < p.n → strictly_inside_circle (vertex p 0) (vertex p 1) (vertex p 2) (vertex p v) ≡ false
    empty zero h = not_below_same (distance_in_plane (vertex p 0) (vertex p 1) (vertex p 2) (vertex p 0)) _ refl
    empty (suc zero) h =
        not_below_same (distance_in_plane (vertex p 0) (vertex p 1) (vertex p 2) (vertex p 1)) _ (distance_q (vertex p 0) (vertex p 1) (vertex p 2))
    empty (suc (suc zero)) h =
        not_below_same (distance_in_plane (vertex p 0) (vertex p 1) (vertex p 2) (vertex p 2)) _ (distance_r (vertex p 0) (vertex p 1) (vertex p 2))
    empty (suc (suc (suc v))) h = absurd (omega arith)

    -- a triangle that is not on one line is its own candidate (rule 2.19)
    pub triangle_candidate : candidates_of p ≡ triple 0 1 2 ∷ []
    unfolding up_from
    triangle_candidate =
        ap (λ (n : ℕ). triples_of n (is_candidate p)) is3
        ∙ ap (λ (t : Bool). ((when t (triple 0 1 2) ++ []) ++ []) ++ [])
        (true_candidate p 0 1 2
        (three (record { flat = three_flat; a<b = omega arith; b<c = omega arith; c<n = omega arith; proper = proper; empty = empty }))).3

-- its only tiling
alone : (w : ℕ) (rows : List (List ℕ)) → best (problem_from 3 (triple 0 1 2 ∷ []) (w ∷ []) rows) ≡ patch w (0 ∷ [])
unfolding best_key key is_triangulation every_from total_weight preorder_from count_between count_outside
alone w rows = ap (λ (x : ℕ). patch x (0 ∷ [])) (sum w)
  where
    sum : (w : ℕ) → w + 0 + 0 ≡ w
    sum w = omega arith

-- ---- the one call
-- where the reader takes the file: 12 where a three of a flat rim that counts has a fourth vertex on its circle
pub circle_gets_12 : (limit : ℕ) (file : List ℕ) → Bytes file → (t : Tables) → NoneDue (FileDue limit file) → Cocircular (polygon_in limit file) →
    patch_file limit file t ≡ refused 12 t
circle_gets_12 limit file bytes t none r = refused_first limit file bytes t 12 (twelve_first limit file _ none (by_circle r))

-- and only there: 12 given on a flat rim is that of such a circle
due_12 : (limit : ℕ) (file : List ℕ) (t : Tables) (p : FilePlace) → CallDue limit file t p 12 → Degenerate (polygon_in limit file)
due_12 limit file t _ (twelve d) = d
due_12 limit file t _ (by_reader d) = elim d [ ]

pub twelve_by_circle : (limit : ℕ) (file : List ℕ) → Bytes file → (t : Tables) → number_of (patch_file limit file t).outcome ≡ 12 →
    Flat (polygon_in limit file) → Cocircular (polygon_in limit file)
twelve_by_circle limit file bytes t e f =
    let g = given_first limit file bytes t 11 e in
    flat_twelve (polygon_in limit file) f (due_12 limit file t g.place g.is_due)

module _ (limit : ℕ) (file : List ℕ) (bytes : Bytes file) (t : Tables) (none_due : NoneDue (CallDue limit file t)) where
  abbrev rim : Polygon
  rim = polygon_in limit file

  outcome_by : {a : Answer} → best (problem_in rim) ≡ a →
      (patch_file limit file t).outcome ≡ (settled a (length (candidates_of rim)) t.triangles t.work).outcome
  outcome_by e =
      ap (λ (x : Patching). x.outcome) (accepted limit file bytes t none_due).call_is
      ∙ ap (λ (a : Answer). (settled a (length (candidates_of rim)) t.triangles t.work).outcome) e

  -- a rim with all vertices on one line gets 'none'
  pub line_gets_none : OnOneLine (vertex rim) rim.n → (patch_file limit file t).outcome ≡ Ok None
  line_gets_none h =
      let v = (accepted limit file bytes t none_due).polygon_valid in
      outcome_by ((demand3 (problem_in rim) (valid_job rim v)).none_if (λ s m. no_tiling v s m))
    where
      no_tiling : ValidPolygon rim → (s : List ℕ) → Triangulates (problem_in rim) s → ⊥
      no_tiling v [] m = omega (arith, triangle_count (problem_in rim) (valid_job rim v) [] m, v.least)
      no_tiling v (k ∷ s) m =
          let n : length (candidates_of rim) ≡ 0 = ap length (line_none rim h) in
          omega (arith, members (problem_in rim) (valid_job rim v) (k ∷ s) m k (Memᴰ.head refl), n)

  -- every other triangle gets a patch: itself, at its own weight
  pub triangle_gets_patch : rim.n ≡ 3 → collinear (vertex rim 0) (vertex rim 1) (vertex rim 2) ≡ false →
      (patch_file limit file t).outcome ≡ Ok (Some (patch_with 1 (own_weight rim (triple 0 1 2))))
  triangle_gets_patch is3 proper =
      outcome_by (ap best (λ i. problem_from (is3 i) (triangle_candidate rim is3 proper i) (weights_of rim (triangle_candidate rim is3 proper i))
      (rows_of rim (triangle_candidate rim is3 proper i))) ∙ alone (own_weight rim (triple 0 1 2)) (rows_of rim (triple 0 1 2 ∷ [])))
