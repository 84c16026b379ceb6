-- One position of the chain: the number that is given on its link or on its record is due there, and no smaller one is. Assumes nothing.
use mathlib.Core.Path.{◌≡◌, refl, sym, ap, ◌∙◌, subst}
use mathlib.Core.Bool.{Bool, true, false, cond}
use mathlib.Core.List.{List}
use mathlib.Core.Logic.{⊎_elim}
use Prim.Native.Nat.{ℕ, zero, suc, ◌≤◌, ◌<◌}
use native.Mathlib.Omega.{arith}
use borrow.Author.Tests.{ltb-true, ltb-false, leb-true, leb-false, eqb-true, eqb-false, eq-eqb, ne_eqb, lt-ltb, le-leb}
use lib.Dec.{ltb, leb, eqb}
use Rattle.lists.proofs.Choice.{yes, no, true_not_false, either_left, either_right, either_cases, below_or_same}
use Rattle.terms.specs.Limits.{max_vertices}
use Rattle.polygon.specs.Normal.{normal_in_range, normal_code}
use Rattle.terms.specs.Numbers.{first_due}
use Rattle.terms.proofs.Numbers.{due_here, due_on, due_neither}
use Rattle.rim_file.specs.File.{record_count}
use Rattle.rim_file.specs.Record.{number_of}
use Rattle.rim_file.proofs.Layouts.{record_within}
use Rattle.rim_file.proofs.Lengths.{Whole}
use Rattle.rim_file.proofs.Floats.{UpTo}
use Rattle.reader.specs.Chain.{met_before, vertex_at_position, normal_at_position, over_limit, link_code, record_code, position_code}
use Rattle.reader.specs.Chain as chain
use Rattle.reader.specs.Order.{link_to, at_record}
use Rattle.reader.specs.Due.{InFile, HasRecords, FileDue, link_over, met_again, too_many, above_limit, kind_unknown}
use Rattle.reader.specs.Due.{no_height, not_finite, tail_not_zero, out_of_range, normal_out_of_range}
use Rattle.reader.proofs.Answers.{over_least}
use Rattle.reader.proofs.Normals.{normal_given, normal_due}
use Rattle.reader.proofs.RecordNumbers.{record_most, kind_given, height_given, tail_given, finite_given, range_given, record_due}

-- ---- records met before
-- a record at an earlier position is marked as met
met_marked : (s : List ℕ) (i j k : ℕ) → i < j → chain.link s i ≡ k → met_before s j k ≡ true
unfolding met_before
met_marked s i zero k h e = absurd (omega arith)
met_marked s i (suc j) k h e =
    ⊎_elim (λ l. either_right (eqb (chain.link s j) k) (met_before s j k) (met_marked s i j k l e))
    (λ d. either_left (eqb (chain.link s j) k) (met_before s j k) (eq-eqb (chain.link s j) k (ap (λ (m : ℕ). chain.link s m) (sym d) ∙ e)))
    (below_or_same i j (omega arith))

-- where a record is marked as met, it stands at an earlier position
record Met (s : List ℕ) (j k : ℕ) : Type 0 where
  at : ℕ
  before : at < j
  same : chain.link s at ≡ k

met_found : (s : List ℕ) (j k : ℕ) → met_before s j k ≡ true → Met s j k
unfolding met_before
met_found s zero k e = absurd (true_not_false e refl)
met_found s (suc j) k e =
    ⊎_elim (λ p. record { at = j; before = omega arith; same = eqb-true (chain.link s j) k p })
    (λ r. let m = met_found s j k r in record { at = m.at; before = omega (arith, m.before); same = m.same })
    (either_cases (eqb (chain.link s j) k) (met_before s j k) e)

-- ---- no number of a record, and none of its normal
quiet : (b : Bool) → ◌≡◌ {A = ℕ} (cond b 0 18) 0 → b ≡ true
quiet true e = refl
quiet false e = absurd (omega (arith, e))

-- ---- a number that is due at a position: the one that is given there is at most that
module _ (limit : ℕ) (s : List ℕ) (i : ℕ) where
  link_is : {k : ℕ} (c : ℕ) → link_code limit s i ≡ c → 0 < c → c ≤ k → UpTo k (link_code limit s i)
  link_is c e h l = record { some = omega arith; most = omega arith }

  over_given : record_count s < chain.link s i → UpTo 3 (link_code limit s i)
  unfolding link_code
  over_given h = link_is 3 (yes 3 _ (lt-ltb (record_count s) (chain.link s i) h)) (omega arith) (omega arith)

  met_given : met_before s i (chain.link s i) ≡ true → UpTo 4 (link_code limit s i)
  unfolding link_code
  met_given m = by (ltb (record_count s) (chain.link s i)) refl
    where
      by : (x : Bool) → ltb (record_count s) (chain.link s i) ≡ x → UpTo 4 (link_code limit s i)
      by true p = link_is 3 (yes 3 _ p) (omega arith) (omega arith)
      by false p = link_is 4 (no 3 _ p ∙ yes 4 _ m) (omega arith) (omega arith)

  many_given : limit ≤ i → UpTo (over_limit limit) (link_code limit s i)
  unfolding link_code
  many_given h = by (ltb (record_count s) (chain.link s i)) (met_before s i (chain.link s i)) refl refl
    where
      by : (x y : Bool) → ltb (record_count s) (chain.link s i) ≡ x → met_before s i (chain.link s i) ≡ y → UpTo (over_limit limit) (link_code limit s i)
      by true y p q = link_is 3 (yes 3 _ p) (omega arith) (omega (arith, over_least limit))
      by false true p q = link_is 4 (no 3 _ p ∙ yes 4 _ q) (omega arith) (omega (arith, over_least limit))
      by false false p q =
          link_is (over_limit limit) (no 3 _ p ∙ no 4 _ q ∙ yes (over_limit limit) _ (le-leb limit i h)) (omega (arith, over_least limit)) (omega arith)

module _ (s : List ℕ) (i : ℕ) where
  -- the record's number before its normal's
  record_first : (k : ℕ) → UpTo k (number_of (vertex_at_position s i)) → UpTo k (record_code s i)
  record_first k u =
      let e : record_code s i ≡ number_of (vertex_at_position s i) = due_here (normal_code (normal_at_position s i)) refl (λ z. omega (arith, u.some)) in
      record { some = omega (arith, u.some); most = omega (arith, u.most) }

  normal_first : normal_in_range (normal_at_position s i) ≡ false → UpTo 18 (record_code s i)
  normal_first f = by (number_of (vertex_at_position s i)) refl
    where
      by : (c : ℕ) → number_of (vertex_at_position s i) ≡ c → UpTo 18 (record_code s i)
      by zero e = let d : record_code s i ≡ 18 = due_on (normal_code (normal_at_position s i)) e
          ∙ no 0 18 f in record { some = omega arith; most = omega arith }
      by (suc c) e = record_first 18 (record { some = omega arith; most = omega (arith, record_most s i) })

module _ (limit : ℕ) (s : List ℕ) where
  pub link_given : (i k : ℕ) → FileDue limit s (link_to i) k → UpTo k (link_code limit s i)
  link_given _ _ (link_over i has h) = over_given limit s i h
  link_given _ _ (met_again j i h has e) = met_given limit s i (met_marked s j i (chain.link s i) h e)
  link_given _ _ (too_many has m) =
      subst (λ (k : ℕ). UpTo k (link_code limit s limit)) (yes 5 20 (eq-eqb limit max_vertices m)) (many_given limit s limit (omega arith))
  link_given _ _ (above_limit has m) =
      subst (λ (k : ℕ). UpTo k (link_code limit s limit)) (no 5 20 (ne_eqb limit max_vertices (λ e. omega arith))) (many_given limit s limit (omega arith))

  pub record_given : (i k : ℕ) → FileDue limit s (at_record i) k → UpTo k (record_code s i)
  record_given _ _ (kind_unknown i has a b) = record_first s i 6 (let e = kind_given s i a b in record { some = omega arith; most = omega arith })
  record_given _ _ (no_height i has k none) = record_first s i 7 (let e = height_given s i k none in record { some = omega arith; most = omega arith })
  record_given _ _ (not_finite i v has m f) = record_first s i 8 (finite_given s i v m f)
  record_given _ _ (tail_not_zero i has k t) = record_first s i 8 (tail_given s i k t)
  record_given _ _ (out_of_range i v has m f) = record_first s i 9 (range_given s i v m f)
  record_given _ _ (normal_out_of_range i c has m f) = normal_first s i (normal_given s i c m f)

  -- so where no number is given at a position, none is due on its link and none on its record
  pub link_quiet : (i k : ℕ) → position_code limit s i ≡ 0 → FileDue limit s (link_to i) k → ⊥
  unfolding position_code
  link_quiet i k e d = omega (arith, (link_given i k d).some, (due_neither (link_code limit s i) (record_code s i) e).0)

  pub record_quiet : (i k : ℕ) → position_code limit s i ≡ 0 → FileDue limit s (at_record i) k → ⊥
  unfolding position_code
  record_quiet i k e d = omega (arith, (record_given i k d).some, (due_neither (link_code limit s i) (record_code s i) e).1)

-- ---- a number is due only at a position that a link leads to
pub record Reached (s : List ℕ) (i : ℕ) : Type 0 where
  pub has : HasRecords s i
  pub goes_on : 0 < chain.link s i

pub shorter : {s : List ℕ} {m : ℕ} (n : ℕ) → n ≤ m → HasRecords s m → HasRecords s n
shorter n h has =
    record { has_header = has.has_header; in_file = λ i l. has.in_file i (omega arith); different = λ i j l k. has.different i j l (omega arith) }

pub record_reached : {s : List ℕ} (i : ℕ) → HasRecords s (suc i) → Reached s i
record_reached i has = record { has = shorter i (omega arith) has; goes_on = (has.in_file i (omega arith)).numbered }

module _ {limit : ℕ} (s : List ℕ) where
  pub link_due_reached : (i k : ℕ) → FileDue limit s (link_to i) k → Reached s i
  link_due_reached _ _ (link_over i has h) = record { has = has; goes_on = omega arith }
  link_due_reached _ _ (met_again j i h has e) = record { has = has; goes_on = omega (arith, (has.in_file j h).numbered) }
  link_due_reached _ _ (too_many has m) = record_reached limit has
  link_due_reached _ _ (above_limit has m) = record_reached limit has

  pub record_due_reached : (i k : ℕ) → FileDue limit s (at_record i) k → Reached s i
  record_due_reached _ _ (kind_unknown i has a b) = record_reached i has
  record_due_reached _ _ (no_height i has k none) = record_reached i has
  record_due_reached _ _ (not_finite i v has m f) = record_reached i has
  record_due_reached _ _ (tail_not_zero i has k t) = record_reached i has
  record_due_reached _ _ (out_of_range i v has m f) = record_reached i has
  record_due_reached _ _ (normal_out_of_range i c has m f) = record_reached i has

-- ---- the number that is given is due
module _ (limit : ℕ) (s : List ℕ) (whole : Whole s) (i : ℕ) (r : Reached s i) where
  -- the record that the link leads to
  next_has : chain.link s i ≤ record_count s → met_before s i (chain.link s i) ≡ false → HasRecords s (suc i)
  next_has l new = record {
    has_header = whole.header;
    in_file = λ j h.
        ⊎_elim (λ b. r.has.in_file j b) (λ e. subst (λ (m : ℕ). InFile s (chain.link s m)) (sym e) here) (below_or_same j i (omega arith));
    different = λ j k h b e.
        ⊎_elim (λ l. r.has.different j k h l e)
        (λ d. true_not_false (met_marked s j i (chain.link s i) (omega arith) (e ∙ ap (λ (m : ℕ). chain.link s m) d)) new)
        (below_or_same k i (omega arith));
  }
    where
      here : InFile s (chain.link s i)
      here = record { numbered = r.goes_on; counted = l; bytes = record_within s (chain.link s i) r.goes_on l whole.records }

  -- the record is one too many: 5 or 20
  many_due : limit ≤ max_vertices → i ≡ limit → HasRecords s (suc i) → FileDue limit s (link_to i) (over_limit limit)
  many_due small e has = by (eqb limit max_vertices) refl
    where
      all : HasRecords s (suc limit)
      all = subst (λ (m : ℕ). HasRecords s (suc m)) e has

      by : (b : Bool) → eqb limit max_vertices ≡ b → FileDue limit s (link_to i) (cond b 5 20)
      by true p = subst (λ (m : ℕ). FileDue limit s (link_to m) 5) (sym e) (too_many all (eqb-true limit max_vertices p))
      by false p = subst (λ (m : ℕ). FileDue limit s (link_to m) 20) (sym e) (above_limit all (omega (arith, small, eqb-false limit max_vertices p)))

  -- position i is at most the last that may be
  pub given_link : (c : ℕ) → limit ≤ max_vertices → i ≤ limit → link_code limit s i ≡ suc c → FileDue limit s (link_to i) (suc c)
  unfolding link_code
  given_link c small within e = by (ltb (record_count s) (chain.link s i)) (met_before s i (chain.link s i)) (leb limit i) refl refl refl
    where
      given : {k : ℕ} → link_code limit s i ≡ k → FileDue limit s (link_to i) k → FileDue limit s (link_to i) (suc c)
      given f d = subst (λ (k : ℕ). FileDue limit s (link_to i) k) (sym f ∙ e) d

      by : (x y z : Bool) → ltb (record_count s) (chain.link s i) ≡ x → met_before s i (chain.link s i) ≡ y → leb limit i ≡ z →
          FileDue limit s (link_to i) (suc c)
      by true y z p q t = given (yes 3 _ p) (link_over i r.has (ltb-true (record_count s) (chain.link s i) p))
      by false true z p q t = let m = met_found s i (chain.link s i) q in given (no 3 _ p ∙ yes 4 _ q) (met_again m.at i m.before r.has m.same)
      by false false true p q t =
          let last : i ≡ limit = omega (arith, leb-true limit i t) in
          given (no 3 _ p ∙ no 4 _ q ∙ yes (over_limit limit) _ t) (many_due small last (next_has (ltb-false (record_count s) (chain.link s i) p) q))
      by false false false p q t = absurd (omega (arith, sym (no 3 _ p ∙ no 4 _ q ∙ no (over_limit limit) _ t) ∙ e))

  -- where no number is given on the link, the chain has the record, within the limit
  pub record Linked : Type 0 where
    pub next : HasRecords s (suc i)
    pub within : i < limit

  pub linked : link_code limit s i ≡ 0 → Linked
  unfolding link_code
  linked e = by (ltb (record_count s) (chain.link s i)) (met_before s i (chain.link s i)) (leb limit i) refl refl refl
    where
      by : (x y z : Bool) → ltb (record_count s) (chain.link s i) ≡ x → met_before s i (chain.link s i) ≡ y → leb limit i ≡ z → Linked
      by true y z p q t = absurd (omega (arith, sym (yes 3 _ p) ∙ e))
      by false true z p q t = absurd (omega (arith, sym (no 3 _ p ∙ yes 4 _ q) ∙ e))
      by false false true p q t = absurd (omega (arith, over_least limit, sym (no 3 _ p ∙ no 4 _ q ∙ yes (over_limit limit) _ t) ∙ e))
      by false false false p q t = record { next = next_has (ltb-false (record_count s) (chain.link s i) p) q; within = leb-false limit i t }

  -- the number of the record, or of its normal
  pub given_record : (c : ℕ) → link_code limit s i ≡ 0 → record_code s i ≡ suc c → FileDue limit s (at_record i) (suc c)
  given_record c l e = number (number_of (vertex_at_position s i)) refl e
    where
      has : HasRecords s (suc i)
      has = (linked l).next

      number : (j : ℕ) → number_of (vertex_at_position s i) ≡ j → first_due j (normal_code (normal_at_position s i)) ≡ suc c
          → FileDue limit s (at_record i) (suc c)
      number (suc j) d e = record_due s i limit has c (d ∙ e)
      number zero d e = by (normal_in_range (normal_at_position s i)) refl
        where
          by : (b : Bool) → normal_in_range (normal_at_position s i) ≡ b → FileDue limit s (at_record i) (suc c)
          by true r = absurd (omega (arith, sym (yes 0 18 r) ∙ e))
          by false r = subst (λ (k : ℕ). FileDue limit s (at_record i) k) (sym (no 0 18 r) ∙ e) (normal_due s i limit has r)

  -- where no number is given at the position, the record has besides a vertex and a normal in range
  pub record Passing : Type 0 where
    pub on : Linked
    pub no_number : number_of (vertex_at_position s i) ≡ 0
    pub ranged : normal_in_range (normal_at_position s i) ≡ true

  pub passing : position_code limit s i ≡ 0 → Passing
  unfolding position_code
  passing e =
      let n = due_neither (link_code limit s i) (record_code s i) e in
      let m = due_neither (number_of (vertex_at_position s i)) (normal_code (normal_at_position s i)) n.1 in
      record { on = linked n.0; no_number = m.0; ranged = quiet (normal_in_range (normal_at_position s i)) m.1 }
