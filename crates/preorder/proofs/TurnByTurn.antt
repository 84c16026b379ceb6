-- What is promised of the loop that lists a patch holds of every job that has one (rule 3.12). Assumes nothing.
use Prim.Native.Nat.{ℕ, ◌<◌}
use mathlib.Core.Path.{◌≡◌, refl, sym, ap, ◌∙◌, subst}
use mathlib.Core.Bool.{false≢true}
use mathlib.Core.Logic.{⊎_elim}
use mathlib.Core.List.Memᴰ
use mathlib.Core.List.{List, [], ◌∷◌, Memᴰ}
use native.Mathlib.Omega.{arith}
use lib.ListN.{length, drop, length-drop}
use Rattle.triangulation.specs.Triangulations.{Problem, patch, answer_of, best_key, best}
use Rattle.triangulation.specs.Problems.{problem_from}
use Rattle.triangulation.specs.Recursion.{rest_of, cost_of, no_total}
use Rattle.preorder.specs.declared.Part.{Part}
use Rattle.minimum_weight.specs.Tables.{WellFormed}
use Rattle.preorder.specs.Preorder.{parts_after, NextListed, TurnByTurn}
use Rattle.preorder.proofs.Turns.{HasTriangulation, AllWhole, part_and, Whole, pending, patch_of, down_first, next_part, going}
use Rattle.preorder.proofs.Waiting.{no_more_wait}
use Rattle.minimum_weight.proofs.Answer.{answer_whole, answer_light}

module _ {job : Problem} (t : HasTriangulation job) where
  -- a turn takes a part as long as a triangle is to be listed
  next_listed : (k : ℕ) → k < length (patch_of t) → NextListed job (patch_of t) k
  next_listed k h = go (parts_after job (patch_of t) k) refl (going t k).whole (going t k).left
    where
      go : (l : List Part) → parts_after job (patch_of t) k ≡ l → AllWhole job l → drop k (patch_of t) ≡ pending job l → NextListed job (patch_of t) k
      go [] e v d = absurd (omega (arith, length-drop k (patch_of t), ap length d))
      go (p ∷ l) e (part_and w v) d =
          let u = (next_part t k p l w d).0 in
          let f = down_first job t.valid t.bounded p w in
          record { next = p; rest = l; comes_next = e; on_first = ap job.a u ∙ f.on_first; on_last = ap job.c u ∙ f.on_last }

  member_whole : (p : Part) (l : List Part) → AllWhole job l → Memᴰ p l → Whole job p
  member_whole p [] v m = absurd (Memᴰ.not-nil m)
  member_whole p (q ∷ l) (part_and w v) m = ⊎_elim (λ e. subst (Whole job) (sym e) w) (λ n. member_whole p l v n) (Memᴰ.cases_cons m)

  turns : TurnByTurn job (patch_of t)
  turns = record {
    one_each = next_listed;
    no_rim_edge = λ k p m. (member_whole p (parts_after job (patch_of t) k) (going t k).whole m).order;
    no_more_wait = no_more_wait t;
  }

module _ (n : ℕ) (candidates : List (List ℕ)) (weights : List ℕ) (rows : List (List ℕ)) (ok : WellFormed n candidates weights rows) where
  abbrev job_here : Problem
  job_here = problem_from n candidates weights rows

  key_is : (k : List ℕ) (total : ℕ) (l : List ℕ) → answer_of k ≡ patch total l → k ≡ total ∷ l
  key_is [] total l e = absurd (false≢true (cc))
  key_is (x ∷ m) total l e = cc

  pub turn_by_turn : (total : ℕ) (l : List ℕ) → best job_here ≡ patch total l → TurnByTurn job_here l
  turn_by_turn total l e =
      let k : best_key job_here ≡ total ∷ l = key_is (best_key job_here) total l e in
      let w = answer_whole n candidates weights rows ok in
      let s : cost_of (best_key job_here) < no_total =
      ⊎_elim (λ z. absurd (omega (arith, ap length (sym k ∙ z)))) (λ z. z) (answer_light n candidates weights rows ok) in
      let t : HasTriangulation job_here = record { valid = ok.valid; bounded = ok.bounded; some = omega (arith, s, ap cost_of w) } in
      subst (TurnByTurn job_here) (ap rest_of (sym w ∙ k)) (turns t)
