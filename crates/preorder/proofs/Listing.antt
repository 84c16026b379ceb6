-- The loop that lists a patch: its stack is the list of the parts that wait, and each turn is a turn of the definition. Assumes nothing.
use Prim.Native.Nat.{ℕ, zero, suc, ◌+◌, ◌-◌, ◌≤◌, ◌<◌}
use mathlib.Core.Path.{◌≡◌, refl, sym, ap, ap₂, ◌∙◌, subst}
use mathlib.Core.List.{List, [], ◌∷◌, ◌++◌, append_assoc}
use native.Mathlib.Omega.{arith}
use native.Mathlib.Nat.{le_refl}
use native.Mathlib.Numerals.{add-one}
use lib.ListN.{length, get_or, set, take, length-set, length-drop, replicate, length-replicate}
use lib.Seq.{get_or-set_same, get_or-set_other, length-take-le, take-suc, take_all}
use Rattle.lists.specs.Lists.{filled}
use Rattle.lists.proofs.Writing.{filled_length, filled_next}
use Rattle.triangulation.specs.Triangulations.{Problem}
use Rattle.preorder.specs.declared.Part.{Part}
use Rattle.preorder.specs.Preorder.{part_under, waiting, beneath, most_parts, halves, turn, parts_after, Waits, Listing}
use Rattle.preorder.proofs.Beneath.{one_beneath, none_beneath}
use Rattle.preorder.proofs.Turns.{HasTriangulation, Whole, AllWhole, part_and, pending, first_triangle, patch_of, patch_length, next_part, going}
use Rattle.preorder.proofs.Waiting.{no_more_wait, few_wait}

-- the part that is taken from a stack
abbrev pub top : List Part → ℕ → Part
top stack height = get_or stack (height - 1) (part_under 0 0 0)

-- a stack as a list of parts
waiting_length : (stack : List Part) (k : ℕ) → length (waiting stack k) ≡ k
waiting_length stack zero = refl
waiting_length stack (suc k) = ap suc (waiting_length stack k)

waiting_set : (stack : List Part) (i k : ℕ) (x : Part) → k ≤ i → waiting (set stack i x) k ≡ waiting stack k
waiting_set stack i zero x h = refl
waiting_set stack i (suc k) x h =
    ap₂ (λ (p : Part) (l : List Part). p ∷ l) (get_or-set_other stack i k x (part_under 0 0 0) (λ (e : k ≡ i). omega arith))
    (waiting_set stack i k x (omega arith))

waiting_top : (stack : List Part) (height : ℕ) → 0 < height → waiting stack height ≡ top stack height ∷ waiting stack (height - 1)
waiting_top stack height h = ap (waiting stack) (let e : height ≡ suc (height - 1) = omega arith in e)

-- the part beneath an edge is put on it, or there is none
module _ {stack new : List Part} {k m : ℕ} (u i j : ℕ) {l : List Part} (w : Waits stack k l) where
  pub put : {x : Part} → k < most_parts → 1 < j - i → x ≡ part_under u i j → new ≡ set stack k x → m ≡ k + 1 → Waits new m (beneath u i j ++ l)
  put {x} h far q s t = record {
    parts = ap₂ waiting s (t ∙ add-one k)
        ∙ ap₂ (λ (p : Part) (r : List Part). p ∷ r) (get_or-set_same stack k x (part_under 0 0 0) (omega (arith, w.places)) ∙ q)
        (waiting_set stack k k x (le_refl k) ∙ w.parts)
        ∙ ap (λ r. r ++ l) (sym (one_beneath u i j (omega arith)));
    places = ap length s ∙ length-set stack k x ∙ w.places;
  }

  pub skip : j - i ≤ 1 → new ≡ stack → m ≡ k → Waits new m (beneath u i j ++ l)
  skip near s t = record {
    parts = ap₂ waiting s t ∙ w.parts ∙ ap (λ r. r ++ l) (sym (none_beneath u i j (omega arith)));
    places = ap length s ∙ w.places;
  }

module _ {job : Problem} (t : HasTriangulation job) where
  pub start : (p : Part) (before : List ℕ) → p ≡ part_under job.size 0 (job.n - 1) → Listing job (patch_of t) before (replicate most_parts p) 1 0 before
  unfolding parts_after
  start p before e = record {
    listed = refl;
    waits = record { parts = ap (λ q. q ∷ []) e; places = length-replicate most_parts p };
    no_more_wait = omega (arith, t.valid.n3, patch_length t);
  }

  module _ {before : List ℕ} {stack : List Part} {height count : ℕ} {table : List ℕ}
      (e : Listing job (patch_of t) before stack height count table) (turn-due : count < length (patch_of t)) where
    -- a part waits: the triangles that are still to be listed are those of the parts
    pub part_waits : 0 < height
    part_waits = go height refl
      where
        go : (k : ℕ) → height ≡ k → 0 < height
        go zero z =
            absurd (omega
            (arith, length-drop count (patch_of t), ap length ((going t count).left ∙ ap (pending job) (sym e.waits.parts ∙ ap (waiting stack) z))))
        go (suc k) z = omega arith

    due_parts : parts_after job (patch_of t) count ≡ top stack height ∷ waiting stack (height - 1)
    due_parts = sym e.waits.parts ∙ waiting_top stack height part_waits

    pub top_whole : Whole job (top stack height)
    top_whole = go (subst (AllWhole job) due_parts (going t count).whole)
      where
        go : {p : Part} {l : List Part} → AllWhole job (p ∷ l) → Whole job p
        go (part_and w v) = w

    -- the next triangle is the first of the part that comes next
    next_triangle : get_or (patch_of t) count 0 ≡ first_triangle job (top stack height)
    next_triangle = (next_part t count (top stack height) (waiting stack (height - 1)) top_whole ((going t count).left ∙ ap (pending job) due_parts)).0

    -- the table has all its places still
    pub table_long : length (patch_of t) ≤ length before → length table ≡ length before
    table_long r = ap length e.listed ∙ filled_length (take count (patch_of t)) before (omega (arith, length-take-le count (patch_of t) (omega arith)))

    -- the part that the triangle comes from has its place
    pub top_place : height - 1 < most_parts
    top_place = omega (arith, part_waits, few_wait t count, ap length e.waits.parts, waiting_length stack height)

    -- the stack without that part
    pub rest_waits : Waits stack (height - 1) (waiting stack (height - 1))
    rest_waits = record { parts = refl; places = e.waits.places }

    module _ (u : ℕ) (first : u ≡ first_triangle job (top stack height)) where
      -- what waits after the turn
      next_parts : beneath u (top stack height).first (job.b u) ++ (beneath u (job.b u) (top stack height).last ++ waiting stack (height - 1))
          ≡ parts_after job (patch_of t) (count + 1)
      unfolding parts_after
      next_parts =
          sym (append_assoc (beneath u (top stack height).first (job.b u)) (beneath u (job.b u) (top stack height).last) (waiting stack (height - 1)))
          ∙ ap (λ v. halves job (top stack height) v ++ waiting stack (height - 1)) (first ∙ sym next_triangle)
          ∙ ap (λ l. turn job l (get_or (patch_of t) count 0)) (sym due_parts) ∙ ap (parts_after job (patch_of t)) (sym (add-one count))

      -- the left part has a place above the right part
      pub left_place : {new : List Part} {m : ℕ} → 1 < job.b u - (top stack height).first →
          Waits new m (beneath u (job.b u) (top stack height).last ++ waiting stack (height - 1)) → m < most_parts
      left_place {new} {m} far w =
          let l = beneath u (job.b u) (top stack height).last ++ waiting stack (height - 1) in
          omega (
            arith,
            few_wait t (count + 1),
            ap length next_parts,
            ap (λ r. length (r ++ l)) (one_beneath u (top stack height).first (job.b u) (omega arith)),
            ap length w.parts,
            waiting_length new m,
          )

      pub one_turn : {new : List Part} {m : ℕ} → length (patch_of t) ≤ length before
          → Waits new m (beneath u (top stack height).first (job.b u) ++ (beneath u (job.b u) (top stack height).last ++ waiting stack (height - 1)))
          → Listing job (patch_of t) before new m (count + 1) (set table count u)
      one_turn {new} {m} r w = record {
        listed = ap₂ (λ x v. set x count v) e.listed (first ∙ sym next_triangle)
            ∙ filled_next (take count (patch_of t)) before (get_or (patch_of t) count 0) count (sym (length-take-le count (patch_of t) (omega arith)))
            (omega arith)
            ∙ ap (λ l. filled l before) (sym (ap (λ k. take k (patch_of t)) (add-one count) ∙ take-suc (patch_of t) count 0 turn-due));
        waits = record { parts = w.parts ∙ next_parts; places = w.places };
        no_more_wait = omega (arith, no_more_wait t (count + 1), ap length (w.parts ∙ next_parts), waiting_length new m);
      }

  -- after the last turn all is listed
  pub end : {before : List ℕ} {stack : List Part} {height count : ℕ} {table : List ℕ} → Listing job (patch_of t) before stack height count table
      → length (patch_of t) ≤ count → table ≡ filled (patch_of t) before
  end {before} {count = count} e h = e.listed ∙ ap (λ x. filled x before) (take_all count (patch_of t) h)
