-- The finder's answer, test by test. Assumes nothing.
use mathlib.Core.Path.{◌≡◌, refl, sym, ◌∙◌, ap, subst}
use mathlib.Core.Bool.{Bool, true, false, cond}
use mathlib.Core.List.{List}
use Prim.Native.Nat.{ℕ, zero, suc, ◌-◌, ◌≤◌, ◌<◌}
use native.Mathlib.Omega.{arith}
use borrow.Author.Tests.{eq-eqb, ne_eqb, le-ltb, eqb-true, ltb-false}
use lib.Dec.{eqb}
use lib.ListN.{length}
use Rattle.codes.specs.declared.Refusal.{Refusal}
use Rattle.std.specs.Prelude.{Result, Ok, Err}
use Rattle.codes.specs.Refusals.{refusal, number_of, or_refused}
use Rattle.codes.proofs.Refusals.{number_answered, none_answered, refused_answered, handed_on}
use Rattle.terms.specs.Limits.{max_vertices, max_triples}
use Rattle.polygon.specs.declared.Polygon.{Polygon}
use Rattle.polygon.specs.declared.rim.Rim.{Rim}
use Rattle.polygon.specs.Polygon.{code_of, ValidPolygon}
use Rattle.polygon.proofs.Validity.{code_valid}
use Rattle.delaunay.specs.Candidates.{candidates_of, degenerate, is_candidate}
use Rattle.dihedrals.specs.Dihedrals.{rows_of}
use Rattle.dihedrals.proofs.Rows.{row_count}
use Rattle.faces.specs.Masks.{empty_set, pair_count, has}
use Rattle.faces.proofs.Sets.{triples_bound, none_in}
use Rattle.delaunay_search.specs.Search.{twelve_if, Marked}
use Rattle.delaunay.proofs.Marking.{listed_are}
use Rattle.lists.specs.Lists.{either}
use Rattle.lists.proofs.Choice.{Truth, holds, fails, truth, yes, no, true_not_false, not_true_false, either_neither, not_false_true}
use Rattle.finder.specs.declared.Places.{Places}
use Rattle.finder.specs.Sizes.{Sizes, places_of, places_in, due_places, sizes_by, sizes_of}
use Rattle.finder.specs.Finding.{Found, counts, Finding, finding, values_of, due_values, short, short_tables, short_beside}
use Rattle.finder.specs.Finding.{number_due, find_by, find_number, beside_number, find_beside_call}
use Rattle.finder.specs.Filling.{faces_of, places_for, Searched, Room, Written, fill_or13}

-- neither of two tests
neither : {a b : Bool} → a ≡ false → b ≡ false → either a b ≡ false
neither {a} {b} p q = ap (λ x. either x b) p ∙ q

first_fails : (a b : Bool) → either a b ≡ false → a ≡ false
first_fails true b e = absurd (true_not_false refl e)
first_fails false b e = refl

-- no triple is in the empty set
none_marked : (x y z : ℕ) → x < max_vertices → y < max_vertices → z < max_vertices → has empty_set x y z ≡ false
none_marked x y z hx hy hz = none_in pair_count (omega arith) (record { first = hx; second = hy; third = hz })

-- ---- the number due
-- a number that is due, and else 13
abbrev then13 : ℕ → Bool → ℕ
then13 zero too_short = cond too_short 13 0
then13 (suc k) too_short = suc k

module _ (p : Polygon) where
  -- 13 comes last
  thirteen_last : (too_short : Bool) → number_due too_short p ≡ then13 (number_due false p) too_short
  unfolding number_due
  thirteen_last too_short = go (truth (eqb (code_of p) 0)) (truth (degenerate p))
    where
      at : {k : ℕ} → number_due false p ≡ k → number_due too_short p ≡ then13 k too_short → number_due too_short p ≡ then13 (number_due false p) too_short
      at e h = h ∙ sym (ap (λ (k : ℕ). then13 k too_short) e)

      own : (k : ℕ) → code_of p ≡ k → eqb (code_of p) 0 ≡ false → code_of p ≡ then13 (code_of p) too_short
      own zero c e = absurd (true_not_false (eq-eqb (code_of p) 0 c) e)
      own (suc k) c e = c ∙ ap (λ (k : ℕ). then13 k too_short) (sym c)

      go : Truth (eqb (code_of p) 0) → Truth (degenerate p) → number_due too_short p ≡ then13 (number_due false p) too_short
      go (fails e) d = at (no _ _ e) (no _ _ e ∙ own (code_of p) refl e)
      go (holds e) (holds d) = at (yes _ _ e ∙ yes _ _ d) (yes _ _ e ∙ yes _ _ d)
      go (holds e) (fails d) = at (yes _ _ e ∙ no _ _ d) (yes _ _ e ∙ no _ _ d)

  -- where none is due
  pub record Clear (too_short : Bool) : Type 0 where
    pub code : code_of p ≡ 0
    pub no_12 : degenerate p ≡ false
    pub no_13 : too_short ≡ false

  pub clear : (too_short : Bool) → number_due too_short p ≡ 0 → Clear too_short
  unfolding number_due
  clear too_short e = go too_short (truth (eqb (code_of p) 0)) (truth (degenerate p)) e
    where
      go : (b : Bool) → Truth (eqb (code_of p) 0) → Truth (degenerate p) → number_due b p ≡ 0 → Clear b
      go b (fails d) f e = absurd (true_not_false (eq-eqb (code_of p) 0 (sym (no _ _ d) ∙ e)) d)
      go b (holds d) (holds f) e = absurd (let z = sym (yes _ _ d ∙ yes _ _ f) ∙ e in omega (arith, z))
      go true (holds d) (fails f) e = absurd (let z = sym (yes _ _ d ∙ no _ _ f) ∙ e in omega (arith, z))
      go false (holds d) (fails f) e = record { code = eqb-true (code_of p) 0 d; no_12 = f; no_13 = refl }

  pub due_first : (k : ℕ) (too_short : Bool) → k ≡ number_due false p → (k ≡ 0 → ⊥) → k ≡ number_due too_short p
  due_first zero too_short e h = absurd (h refl)
  due_first (suc k) too_short e h = sym (thirteen_last too_short ∙ ap (λ (k : ℕ). then13 k too_short) (sym e))

  pub due_13 : (too_short : Bool) → number_due false p ≡ 0 → number_due too_short p ≡ cond too_short 13 0
  due_13 too_short e = thirteen_last too_short ∙ ap (λ (k : ℕ). then13 k too_short) e

  -- ---- the search
  -- the polygon's own number
  pub code_due : (k : ℕ) {r : Refusal} {masks : List ℕ} → r ≡ refusal k → k ≡ code_of p → (k ≡ 0 → ⊥) → Searched p (Err r) masks
  unfolding number_due
  code_due zero m e h = absurd (h refl)
  code_due (suc k) m e h =
      let due : number_due false p ≡ suc k = no _ _ (ne_eqb (code_of p) 0 (λ z. h (e ∙ z))) ∙ sym e in
      record {
        is_due = ap (λ (r : Refusal). Err r) m ∙ sym (ap (λ (k : ℕ). or_refused k p) due);
        listed = λ z. absurd (let y = sym due ∙ z in omega (arith, y));
      }

  -- 12
  pub record MarkedDue (answer : Result Unit Refusal) (masks : List ℕ) : Type 0 where
    pub is_due : answer ≡ or_refused (number_due false p) tt
    pub listed : number_due false p ≡ 0 → faces_of p masks ≡ candidates_of p

  marked_due : {masks : List ℕ} {answer : Result Unit Refusal} → code_of p ≡ 0 →
      Marked (is_candidate p) (degenerate p) empty_set answer masks → MarkedDue answer masks
  unfolding number_due
  marked_due e m =
      let due : number_due false p ≡ cond (degenerate p) 12 0 = yes _ _ (eq-eqb (code_of p) 0 e) in
      record {
        is_due = m.searched.found ∙ ap (λ (k : ℕ). or_refused k tt) (sym due);
        listed = λ z. listed_are p (code_valid p e).most none_marked (not_true_false (degenerate p)
            (λ t. let y = ap (λ (b : Bool). cond b 12 0) (sym t) ∙ sym due ∙ z in absurd (omega (arith, y)))) m;
      }

  pub twelve_searched : {r : Refusal} {masks : List ℕ} → code_of p ≡ 0 →
      Marked (is_candidate p) (degenerate p) empty_set (Err r) masks → Searched p (Err r) masks
  twelve_searched e m =
      let d = marked_due e m in
      record { is_due = handed_on (number_due false p) tt p d.is_due; listed = d.listed }

  -- so a refusal of the search is 12
  pub twelve_given : {r : Refusal} {masks : List ℕ} → code_of p ≡ 0 →
      Marked (is_candidate p) (degenerate p) empty_set (Err r) masks → Searched p (Err (refusal 12)) masks
  twelve_given {r} {masks} e m = subst (λ (x : Refusal). Searched p (Err x) masks) (by (degenerate p) m.searched.found) (twelve_searched e m)
    where
      by : (d : Bool) → Err r ≡ twelve_if d → r ≡ refusal 12
      by true f = cc
      by false f = absurd cc

  pub rim_searched : {rim : Rim} {u : Unit} {masks : List ℕ} → code_of p ≡ 0 → rim.polygon ≡ p →
      Marked (is_candidate p) (degenerate p) empty_set (Ok u) masks → Searched p (Ok rim) masks
  rim_searched e same m =
      let d = marked_due e m in
      record {
        is_due = ap (λ (q : Polygon). Ok q) same ∙ sym (ap (λ (k : ℕ). or_refused k p) (none_answered (number_due false p) d.is_due).0);
        listed = d.listed;
      }

  pub none_due : {x : Polygon} → Ok x ≡ or_refused (number_due false p) p → (number_due false p ≡ 0) × (x ≡ p)
  none_due e = none_answered (number_due false p) e

  pub due_valid : number_due false p ≡ 0 → ValidPolygon p
  due_valid e = code_valid p (clear false e).code

  -- ---- the places
  pub sizes_refused : {r : Refusal} → Err r ≡ or_refused (number_due false p) p → Err r ≡ sizes_of p
  sizes_refused e = handed_on (number_due false p) p (places_of p) e

  pub sizes_known : {places : Places} {found : List (List ℕ)} → number_due false p ≡ 0 → found ≡ candidates_of p →
      places ≡ places_for p.n found → Ok places ≡ sizes_of p
  sizes_known {places} {found} e f g =
      ap (λ (x : Places). Ok x) (g ∙ ap (places_for p.n) f
      ∙ ap (λ (m : ℕ). record { triangles = p.n - 2; candidates = length (candidates_of p); rows = m }) (sym (row_count p (candidates_of p))))
      ∙ ap (λ (k : ℕ). sizes_by k p) (sym e)

-- the number and the places of a sizing call, by the number due
pub sizes_values : (p : Polygon) (k : ℕ) {r : Sizes} → r ≡ sizes_by k p → (r ≡ sizes_by k p) × ((number_of r ≡ k) × (places_in r ≡ due_places k p))
sizes_values p k e = (e, (ap number_of e ∙ number_answered k (places_of p), ap places_in e ∙ places k))
  where
    places : (k : ℕ) → places_in (sizes_by k p) ≡ due_places k p
    places zero = refl
    places (suc k) = refl

-- ---- the answer and the tables
-- the number and the counts of an answer, by the number due
found_values : (p : Polygon) (k : ℕ) (candidates : List (List ℕ)) (weights : List ℕ) (rows : List (List ℕ)) →
    values_of (find_by k p candidates weights rows).answer ≡ due_values k p
found_values p zero candidates weights rows = refl
found_values p (suc k) candidates weights rows = refl

pub values_found : (p : Polygon) (k : ℕ) (candidates : List (List ℕ)) (weights : List ℕ) (rows : List (List ℕ)) {x : Found} {c r : List (List ℕ)} {w : List ℕ} →
    finding x c w r ≡ find_by k p candidates weights rows → (finding x c w r ≡ find_by k p candidates weights rows) × (values_of x ≡ due_values k p)
values_found p k candidates weights rows e = (e, ap (λ (f : Finding). values_of f.answer) e ∙ found_values p k candidates weights rows)

module _ (p : Polygon) (trianglePlaces workPlaces : ℕ) (candidates : List (List ℕ)) (weights : List ℕ) (rows : List (List ℕ)) where
  abbrev too_short : Bool
  too_short = either (short_beside p trianglePlaces workPlaces) (short_tables p candidates weights rows)

  pub find_refused : {r : Refusal} → Err r ≡ or_refused (number_due false p) p →
      finding (Err r) candidates weights rows ≡ find_beside_call p trianglePlaces workPlaces candidates weights rows
  find_refused e = go (number_due false p) e ∙ ap (λ (k : ℕ). find_by k p candidates weights rows) (sym (thirteen_last p too_short))
    where
      go : (k : ℕ) {r : Refusal} → Err r ≡ or_refused k p →
          finding (Err r) candidates weights rows ≡ find_by (then13 k too_short) p candidates weights rows
      go zero e = absurd cc
      go (suc k) e = ap (λ (r : Refusal). finding (Err r) candidates weights rows) (refused_answered (suc k) p e).1

  pub filled_is : number_due false p ≡ 0 → fill_or13 p (candidates_of p) trianglePlaces workPlaces candidates weights rows
      ≡ find_beside_call p trianglePlaces workPlaces candidates weights rows
  unfolding fill_or13
  filled_is e = by too_short ∙ ap (λ (k : ℕ). find_by k p candidates weights rows) (sym (due_13 p too_short e))
    where
      by : (b : Bool) → cond b (finding (Err (refusal 13)) candidates weights rows) (find_by 0 p candidates weights rows)
          ≡ find_by (cond b 13 0) p candidates weights rows
      by true = refl
      by false = refl

-- ---- the lists, or 13
module _ (p : Polygon) (found : List (List ℕ)) (trianglePlaces workPlaces : ℕ) (candidates : List (List ℕ)) (weights : List ℕ) (rows : List (List ℕ)) where
  -- every table has its places
  pub record Enough : Type 0 where
    pub for_triangles : p.n - 2 ≤ trianglePlaces
    pub for_work : length found ≤ workPlaces
    pub for_lists : Room p found candidates weights rows

  abbrev tests : Bool
  tests =
      either
      (either (short trianglePlaces (p.n - 2)) (short workPlaces (length found)))
      (either (short (length candidates) (length found))
      (either (short (length weights) (length found)) (short (length rows) (length (rows_of p found)))))

  enough_passes : Enough → tests ≡ false
  enough_passes e =
      neither
      (neither (le-ltb trianglePlaces (p.n - 2) e.for_triangles) (le-ltb workPlaces (length found) e.for_work))
      (neither (le-ltb (length candidates) (length found) e.for_lists.for_candidates)
      (neither (le-ltb (length weights) (length found) e.for_lists.for_weights) (le-ltb (length rows) (length (rows_of p found)) e.for_lists.for_rows)))

  passed_enough : tests ≡ false → Enough
  passed_enough e =
      let beside = first_fails _ _ e in
      let lists = either_neither _ _ e in
      let more = either_neither _ _ lists in
      record {
        for_triangles = ltb-false trianglePlaces (p.n - 2) (first_fails _ _ beside);
        for_work = ltb-false workPlaces (length found) (either_neither _ _ beside);
        for_lists = record {
          for_candidates = ltb-false (length candidates) (length found) (first_fails _ _ lists);
          for_weights = ltb-false (length weights) (length found) (first_fails _ _ more);
          for_rows = ltb-false (length rows) (length (rows_of p found)) (either_neither _ _ more);
        };
      }

  pub fill_13 : (Enough → ⊥) → finding (Err (refusal 13)) candidates weights rows
      ≡ fill_or13 p found trianglePlaces workPlaces candidates weights rows
  unfolding fill_or13
  fill_13 h = sym (yes _ _ (not_false_true tests (λ e. h (passed_enough e))))

  pub fill_lists : {x y : ℕ} {c r : List (List ℕ)} {w : List ℕ} → Enough → x ≡ length found → y ≡ length (rows_of p found) →
      Written p found candidates weights rows c w r →
      finding (Ok (counts x y)) c w r ≡ fill_or13 p found trianglePlaces workPlaces candidates weights rows
  unfolding fill_or13
  fill_lists e ex ey w =
      (λ i. finding (Ok (counts (ex i) (ey i))) (w.the_candidates i) (w.the_weights i) (w.the_rows i)) ∙ sym (no _ _ (enough_passes e))

-- two tables of enough places beside the finder's change nothing
pub beside_enough : (p : Polygon) (candidates : List (List ℕ)) (weights : List ℕ) (rows : List (List ℕ)) →
    beside_number p p.n max_triples candidates weights rows ≡ find_number p candidates weights rows
unfolding number_due
beside_enough p candidates weights rows = go (truth (eqb (code_of p) 0))
  where
    go : Truth (eqb (code_of p) 0) → beside_number p p.n max_triples candidates weights rows ≡ find_number p candidates weights rows
    go (fails e) = no _ _ e ∙ sym (no _ _ e)
    go (holds e) =
        let v = code_valid p (eqb-true (code_of p) 0 e) in
        let enough : short_beside p p.n max_triples ≡ false = no _ _ (le-ltb p.n (p.n - 2) (omega arith))
        ∙ le-ltb max_triples (length (candidates_of p)) (triples_bound p.n (is_candidate p) v.most) in
        ap (λ (t : Bool). number_due (either t (short_tables p candidates weights rows)) p) enough
