-- What is stated and handed back with an answer, and what is left beside it. Assumes nothing.
use Prim.Native.Nat.{ℕ}
use mathlib.Core.Path.{◌≡◌, refl, sym, ap, ◌∙◌}
use mathlib.Core.List.{List}
use native.Mathlib.Omega.{arith}
use lib.ListN.{length, take, drop, replicate, length-replicate}
use lib.Seq.{drop_at}
use Rattle.std.proofs.Common.{Some, None, Ok, Err}
use Rattle.codes.specs.Refusals.{refusal}
use Rattle.lists.specs.Lists.{filled}
use Rattle.lists.proofs.Writing.{filled_take}
use Rattle.triangulation.specs.Triangulations.{Problem, ValidProblem, Answer, none, patch, best}
use Rattle.triangulation.specs.Demand3.{Optimal, HandedBack}
use Rattle.triangulation.proofs.Demand3.{demand3, handed_back_lem}
use Rattle.triangulator.specs.Call.{Outcome, patch_with, settled, part_of}
use Rattle.triangulator.specs.Demands.{stated, Taken, a_patch, a_none, Handed, with_patch, with_none, with_refusal, RestLeft}
use Rattle.triangulator.proofs.Settling.{part_patch, part_empty}

-- the outcome and the table that an answer leaves state that answer
pub settled_states : (a : Answer) (count : ℕ) (triangles work : List ℕ) →
    stated (settled a count triangles work).outcome (settled a count triangles work).triangles ≡ a
settled_states none count triangles work = refl
settled_states (patch total l) count triangles work = ap (patch total) (filled_take l triangles (length l) refl)

pub settled_taken : (a : Answer) (count : ℕ) (triangles work : List ℕ) → Taken (settled a count triangles work).outcome
settled_taken none count triangles work = a_none
settled_taken (patch total l) count triangles work = a_patch

-- a patch and 'none' are no refusals
pub never_refused : {o : Outcome} {k : ℕ} → o ≡ Err (refusal k) → Taken o → ⊥
never_refused e a_patch = let z : ◌≡◌ {A = ℕ} 0 1 = cc in omega arith
never_refused e a_none = let z : ◌≡◌ {A = ℕ} 0 1 = cc in omega arith

-- the part handed back with that outcome and table is as promised
pub settled_handed : (job : Problem) → ValidProblem job → (count : ℕ) (triangles work : List ℕ) →
    Handed job (part_of (settled (best job) count triangles work).outcome (settled (best job) count triangles work).triangles)
    (settled (best job) count triangles work).outcome
settled_handed job good count triangles work = go (best job) (demand3 job good).patch_is
  where
    go : (a : Answer) → ((total : ℕ) (l : List ℕ) → a ≡ patch total l → Optimal job total l) → Handed job
        (part_of (settled a count triangles work).outcome (settled a count triangles work).triangles) (settled a count triangles work).outcome
    go none h = with_none (part_empty (Ok None) triangles refl)
    go (patch total l) h =
        let b = handed_back_lem job good total l (h total l refl) in
        with_patch {p = patch_with (length l) total} b.count (rw (part_patch l triangles total) b)

-- and so is what it leaves beside the patch
pub settled_rest : (a : Answer) (count : ℕ) (triangles work : List ℕ) → RestLeft count triangles work (settled a count triangles work)
settled_rest a count triangles work = by a
  where
    all : List ℕ
    all = replicate count 0

    long : length all ≡ count
    long = length-replicate {A = ℕ} count 0

    zeros_first : take count (filled all work) ≡ all
    zeros_first = filled_take all work count (sym long)

    then_kept : drop count (filled all work) ≡ drop count work
    then_kept = drop_at all (drop (length all) work) count long ∙ ap (λ (k : ℕ). drop k work) long

    by : (a : Answer) → RestLeft count triangles work (settled a count triangles work)
    by none = record { zeros = zeros_first; further_work = then_kept; further_triangles = refl }
    by (patch total l) =
        record { zeros = zeros_first; further_work = then_kept; further_triangles = drop_at l (drop (length l) triangles) (length l) refl }

pub refused_handed : (job : Problem) (number : ℕ) (triangles : List ℕ) → Handed job (part_of (Err (refusal number)) triangles) (Err (refusal number))
refused_handed job number triangles = with_refusal (part_empty (Err (refusal number)) triangles refl)

-- what is handed back with a patch
pub patch_handed : {job : Problem} {part : List ℕ} {count total : ℕ} → Handed job part (Ok (Some (patch_with count total))) → HandedBack job total part
patch_handed (with_patch c h) = h
