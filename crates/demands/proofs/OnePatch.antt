-- The file alone fixes the patch (rule 3.10): two answers to one file, over any tables that are long enough, have the same outcome, total and triangles,
-- whatever the tables held. Assumes nothing.
use mathlib.Core.Path.{◌≡◌, refl, sym, ◌∙◌, subst}
use mathlib.Core.List.Memᴰ
use mathlib.Core.List.{List, [], Memᴰ}
use mathlib.Core.Logic.{◌⊎◌, inl, inr}
use Prim.Native.Nat.{ℕ, ◌<◌}
use lib.ListN.{length, get_or, length-map}
use Rattle.std.specs.Prelude.{None, Ok, Err}
use Rattle.codes.specs.Refusals.{refusal}
use Rattle.lists.specs.Lists.{filled}
use Rattle.lists.proofs.Writing.{filled_at}
use Rattle.polygon.specs.declared.Polygon.{Polygon}
use Rattle.polygon.specs.Polygon.{ValidPolygon}
use Rattle.rim_file.specs.File.{Bytes}
use Rattle.reader.specs.Order.{FilePlace, First, NoneDue}
use Rattle.delaunay.specs.Candidates.{candidates_of}
use Rattle.weights.specs.Weights.{own_weight}
use Rattle.triangulation.specs.Triangulations.{Answer, none, patch, best}
use Rattle.triangulation.specs.Demand3.{Optimal}
use Rattle.triangulation.proofs.Demand3.{members, demand3, handed_back_lem}
use Rattle.triangulator.specs.Call.{triangles_of, settled, Outcome}
use Rattle.triangulator.proofs.Settling.{part_patch, part_empty}
use Rattle.pipeline.specs.Patching.{Tables, Patching, patching, weights_in, problem_in, patched_by, patched, patch_file, handed_back}
use Rattle.pipeline.proofs.Values.{valid_job}
use Rattle.demands.specs.Demand1.{polygon_in, CallDue, by_reader, twelve, thirteen}
use Rattle.demands.specs.OnePatch.{LongEnough, SamePatch}
use Rattle.demands.proofs.Demand1.{first_or_none, refused_first, accepted}

-- where no triangle is counted nothing is handed back, whatever the tables hold
same_empty : (o : Outcome) → triangles_of o ≡ 0 → (s t : Tables) → SamePatch (patching o s) (patching o t)
same_empty o z s t = record {
  outcome = refl;
  total = refl;
  triangles = none_of s ∙ sym (none_of t);
  vertices = λ k m. absurd (no_member k m);
  weights = λ k m. absurd (no_member k m);
}
  where
    none_of : (t : Tables) → handed_back (patching o t) ≡ []
    none_of t = part_empty o t.triangles z

    no_member : (k : ℕ) → Memᴰ k (handed_back (patching o s)) → ⊥
    no_member k m = Memᴰ.not-nil (subst (λ (l : List ℕ). Memᴰ k l) (none_of s) m)

-- a place that a list fills holds its entry in either table
filled_alike : {A : Type 0} (l s t : List A) (d : A) {k : ℕ} → k < length l → get_or (filled l s) k d ≡ get_or (filled l t) k d
filled_alike l s t d {k} h = filled_at l s k d h ∙ sym (filled_at l t k d h)

-- the answer to a polygon on which no number is due
module _ (p : Polygon) (valid : ValidPolygon p) (s t : Tables) where
  answered : Answer → Tables → Patching
  answered a lent = patched_by (settled a (length (candidates_of p)) lent.triangles lent.work) (weights_in p) p lent

  -- the triangles of a patch are candidates
  below : {total : ℕ} {l : List ℕ} → Optimal (problem_in p) total l → (k : ℕ) → Memᴰ k l → k < length (candidates_of p)
  below {total} {l} o k m =
      let b = handed_back_lem (problem_in p) (valid_job p valid) total l o in
      members (problem_in p) (valid_job p valid) b.right.set b.right.tiles k (b.once.only k m)

  same_answer : (a : Answer) → ((total : ℕ) (l : List ℕ) → a ≡ patch total l → Optimal (problem_in p) total l) → SamePatch (answered a s) (answered a t)
  unfolding answered
  same_answer none o = same_empty (Ok None) refl (answered none s).left (answered none t).left
  same_answer (patch total l) o =
      let e = part_patch l s.triangles total in
      let within : (k : ℕ) → Memᴰ k (handed_back (answered (patch total l) s)) → k < length (candidates_of p) =
      λ k m. below (o total l refl) k (subst (λ (x : List ℕ). Memᴰ k x) e m) in
      record {
        outcome = refl;
        total = refl;
        triangles = e ∙ sym (part_patch l t.triangles total);
        vertices = λ k m. filled_alike (candidates_of p) s.candidates t.candidates [] (within k m);
        weights = λ k m. filled_alike (weights_in p) s.weights t.weights 0
            (subst (λ (n : ℕ). k < n) (sym (length-map (candidates_of p) (own_weight p))) (within k m));
      }

  same_patched : SamePatch (patched p s) (patched p t)
  unfolding answered
  same_patched = same_answer (best (problem_in p)) (demand3 (problem_in p) (valid_job p valid)).patch_is

module _ (limit : ℕ) (file : List ℕ) where
  -- 13 aside, a number is due by the file alone
  due_again : {s t : Tables} {p : FilePlace} {k : ℕ} → LongEnough limit file s → CallDue limit file s p k → CallDue limit file t p k
  due_again h (by_reader d) = by_reader d
  due_again h (twelve d) = twelve d
  due_again h (thirteen d) = absurd (h d)

  first_again : {s t : Tables} {k : ℕ} → LongEnough limit file s → LongEnough limit file t → First (CallDue limit file s) k → First (CallDue limit file t) k
  first_again h g f = record { place = f.place; is_due = due_again h f.is_due; none_before = λ p j q d. f.none_before p j q (due_again g d) }

  none_again : {s t : Tables} → LongEnough limit file t → NoneDue (CallDue limit file s) → NoneDue (CallDue limit file t)
  none_again g n = record { none = λ p k d. n.none p k (due_again g d) }

  -- one file, one patch
  pub file_fixes_patch : Bytes file → (s t : Tables) → LongEnough limit file s → LongEnough limit file t →
      SamePatch (patch_file limit file s) (patch_file limit file t)
  file_fixes_patch bytes s t h g = by (first_or_none limit file bytes s)
    where
      by : ((k : ℕ) × First (CallDue limit file s) k) ⊎ NoneDue (CallDue limit file s) → SamePatch (patch_file limit file s) (patch_file limit file t)
      by (inl (k, f)) =
          rw (refused_first limit file bytes s k f, refused_first limit file bytes t k (first_again h g f))
          (same_empty (Err (refusal k)) refl s t)
      by (inr n) =
          let a = accepted limit file bytes s n in
          let b = accepted limit file bytes t (none_again g n) in
          rw (a.call_is, b.call_is) (same_patched (polygon_in limit file) a.polygon_valid s t)
