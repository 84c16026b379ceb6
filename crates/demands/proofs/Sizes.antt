-- The places that the sizing call gives (rule 5.5) are those that the one call needs: 13 is due exactly when a table has fewer. Assumes nothing.
use mathlib.Core.Path.{◌≡◌, refl, sym, ap, ◌∙◌, subst}
use mathlib.Core.Bool.{Bool, false, cond}
use mathlib.Core.List.{List}
use Prim.Native.Nat.{ℕ, zero, suc}
use native.Mathlib.Omega.{arith}
use lib.ListN.{length}
use Rattle.triangulator.specs.Call.{Outcome}
use Rattle.codes.specs.Refusals.{refusal, number_of}
use Rattle.codes.specs.Refusals as codes
use Rattle.lists.proofs.Choice.{Truth, holds, fails, truth, true_not_false}
use Rattle.terms.specs.Numbers.{first_due}
use Rattle.reader.specs.Reading.{polygon_of}
use Rattle.reader.specs.Reading as reader
use Rattle.delaunay.specs.Candidates.{candidates_of}
use Rattle.finder.specs.declared.Places.{Places}
use Rattle.std.specs.Prelude.{Ok, Err}
use Rattle.finder.specs.Finding.{number_due}
use Rattle.finder.specs.Sizes.{places_of, sizes_by}
use Rattle.finder.proofs.Answers.{due_13, due_first}
use Rattle.triangulation.specs.Triangulations.{best}
use Rattle.triangulator.specs.Demands.{Taken, a_patch, a_none}
use Rattle.triangulator.proofs.Demands.{settled_taken}
use Rattle.pipeline.specs.Patching.{Tables, Patching, refused, problem_in, tables_short, patch_by, polygon_number, file_number, patch_file}
use Rattle.pipeline.specs.Sizes.{sizes_number, sizes_file}
use Rattle.demands.specs.Demand1.{TooShort, triangles, candidates, weights, rows, work}
use Rattle.demands.proofs.Demand1.{short_true, true_short}

module _ (limit : ℕ) (file : List ℕ) (t : Tables) where
  -- the number that no table has a part in
  abbrev own : ℕ
  own = sizes_number limit file

  -- it is that of the call
  own_first : (k : ℕ) → own ≡ suc k → file_number limit file t ≡ suc k
  own_first k e = by (reader.number_due limit file) e
    where
      by : (j : ℕ) → first_due j (number_due false (polygon_of file)) ≡ suc k → first_due j (polygon_number (polygon_of file) t) ≡ suc k
      by zero e = sym (due_first (polygon_of file) (suc k) (tables_short (polygon_of file) t) (sym e) (λ z. omega (arith, z)))
      by (suc j) e = e

  then_13 : own ≡ 0 → file_number limit file t ≡ cond (tables_short (polygon_of file) t) 13 0
  then_13 e = by (reader.number_due limit file) e
    where
      by : (j : ℕ) → first_due j (number_due false (polygon_of file)) ≡ 0 →
          first_due j (polygon_number (polygon_of file) t) ≡ cond (tables_short (polygon_of file) t) 13 0
      by zero e = due_13 (polygon_of file) (tables_short (polygon_of file) t) e
      by (suc j) e = absurd (omega (arith, e))

  call_is : {n : ℕ} → file_number limit file t ≡ n → patch_file limit file t ≡ patch_by n (polygon_of file) t
  unfolding patch_file
  call_is e = ap (λ (n : ℕ). patch_by n (polygon_of file) t) e

  -- a number from the sizing call is that of the one call, whatever the tables
  pub sizes_refused : (k : ℕ) → sizes_file limit file ≡ Err (refusal k) → patch_file limit file t ≡ refused k t
  unfolding sizes_file
  sizes_refused k e = by own refl e
    where
      by : (n : ℕ) → own ≡ n → sizes_by n (polygon_of file) ≡ Err (refusal k) → patch_file limit file t ≡ refused k t
      by zero m d = absurd (let z : ◌≡◌ {A = ℕ} 0 1 = cc in omega arith)
      by (suc n) m d = let q : suc n ≡ k = ap codes.number_of d in call_is (own_first n m) ∙ ap (λ (j : ℕ). refused j t) q

  module _ {needed : Places} (e : sizes_file limit file ≡ Ok needed) where
    record Sized : Type 0 where
      none_due : own ≡ 0
      places_are : places_of (polygon_of file) ≡ needed

    sized : Sized
    unfolding sizes_file
    sized = by own refl e
      where
        by : (n : ℕ) → own ≡ n → sizes_by n (polygon_of file) ≡ Ok needed → Sized
        by zero m d = record { none_due = m; places_are = cc }
        by (suc n) m d = absurd (let z : ◌≡◌ {A = ℕ} 0 1 = cc in omega arith)

    -- a table that is shorter: 13
    pub shorter_13 : TooShort needed t → patch_file limit file t ≡ refused 13 t
    shorter_13 s =
        call_is (then_13 sized.none_due
        ∙ ap (λ (b : Bool). cond b 13 0) (true_short (polygon_of file) t (subst (λ (n : Places). TooShort n t) (sym sized.places_are) s)))

    -- no table is shorter: a patch or 'none'
    pub enough_taken : (TooShort needed t → ⊥) → Taken (patch_file limit file t).outcome
    enough_taken h = by (truth (tables_short (polygon_of file) t))
      where
        by : Truth (tables_short (polygon_of file) t) → Taken (patch_file limit file t).outcome
        by (holds s) = absurd (h (subst (λ (n : Places). TooShort n t) sized.places_are (short_true (polygon_of file) t s)))
        by (fails s) =
            subst (λ (x : Patching). Taken x.outcome) (sym (call_is (then_13 sized.none_due ∙ ap (λ (b : Bool). cond b 13 0) s)))
            (settled_taken (best (problem_in (polygon_of file))) (length (candidates_of (polygon_of file))) t.triangles t.work)

    -- so 13 is given only where one is shorter
    pub only_13 : number_of (patch_file limit file t).outcome ≡ 13 → TooShort needed t
    only_13 n = by (truth (tables_short (polygon_of file) t))
      where
        untaken : {o : Outcome} → Taken o → number_of o ≡ 13 → ⊥
        untaken a_patch q = omega (arith, q)
        untaken a_none q = omega (arith, q)

        by : Truth (tables_short (polygon_of file) t) → TooShort needed t
        by (holds s) = subst (λ (n : Places). TooShort n t) sized.places_are (short_true (polygon_of file) t s)
        by (fails s) =
            absurd (untaken (enough_taken
            (λ h. true_not_false (true_short (polygon_of file) t (subst (λ (n : Places). TooShort n t) (sym sized.places_are) h)) s)) n)

    -- tables of exactly these sizes are enough
    pub exact_taken : length t.triangles ≡ needed.triangles → length t.candidates ≡ needed.candidates → length t.weights ≡ needed.candidates →
        length t.rows ≡ needed.rows → length t.work ≡ needed.candidates → Taken (patch_file limit file t).outcome
    exact_taken a b c d f = enough_taken none
      where
        none : TooShort needed t → ⊥
        none (triangles h) = omega (arith, a)
        none (candidates h) = omega (arith, b)
        none (weights h) = omega (arith, c)
        none (rows h) = omega (arith, d)
        none (work h) = omega (arith, f)
