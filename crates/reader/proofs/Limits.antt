-- What a limit does (rules 4.5, 4.20). A file whose chain has no more records than the smaller of two limits is read alike with both. A rim that is read
-- with the larger one and has more vertices than the smaller gets 20 there. 5 is given with the largest limit alone and 20 with every other, each where the
-- chain has one record more than the limit. Assumes nothing.
use mathlib.Core.Path.{◌≡◌, refl, sym, ap, ◌∙◌, subst}
use mathlib.Core.Bool.{true}
use mathlib.Core.List.{List}
use mathlib.Core.Logic.{◌⊎◌, inl, inr, ⊎_elim}
use Prim.Native.Nat.{ℕ, suc, ◌≤◌, ◌<◌}
use native.Mathlib.Omega.{arith}
use borrow.Author.Tests.{eq-eqb, ne_eqb, le-leb}
use Rattle.lists.proofs.Choice.{yes, no, true_not_false, both_true}
use Rattle.terms.specs.Limits.{min_vertices, max_vertices, count_fits}
use Rattle.reader.specs.Chain.{over_limit, vertex_count}
use Rattle.reader.specs.Order.{FilePlace, link_to, request_link, header_link, link_link, record_link, Precedes, by_place, by_number, First, NoneDue}
use Rattle.reader.specs.Due.{HasRecords, ChainAtMost, FileDue, limit_wrong, wrong_length, area_factor}
use Rattle.reader.specs.Due.{link_over, met_again, too_many, above_limit, kind_unknown, no_height, not_finite}
use Rattle.reader.specs.Due.{tail_not_zero, out_of_range, normal_out_of_range, too_few, vertex_repeated}
use Rattle.std.specs.Prelude.{IsOk}
use Rattle.codes.specs.Refusals.{number_of, or_refused}
use Rattle.reader.specs.Reading.{number_due, polygon_of, reading_of, polygon_in}
use Rattle.reader.proofs.Order.{verdict_first, verdict_zero}
use Rattle.reader.proofs.Positions.{shorter}
use Rattle.reader.proofs.FirstNumber.{read_end}
use Rattle.reader.proofs.Demand1.{complete_read, verdict, first_or_none, read_only_when, given_first}
use Rattle.reader.proofs.Accepted.{complete_polygon, within_limit}

-- ---- the numbers due with two limits
-- the number of a record past the limit is due
record Over (limit : ℕ) (s : List ℕ) (p : FilePlace) (k : ℕ) : Type 0 where
  has : HasRecords s (suc limit)
  at : p ≡ link_to limit
  number : k ≡ over_limit limit

-- any other number is due with whichever limit
due_or_over : {a b : ℕ} {s : List ℕ} → count_fits a ≡ true → {p : FilePlace} {k : ℕ} → FileDue a s p k → FileDue b s p k ⊎ Over a s p k
due_or_over f (limit_wrong h) = absurd (true_not_false f h)
due_or_over f (wrong_length h) = inl (wrong_length h)
due_or_over f (area_factor l h) = inl (area_factor l h)
due_or_over f (link_over i has h) = inl (link_over i has h)
due_or_over f (met_again i j h has e) = inl (met_again i j h has e)
due_or_over {a} f (too_many has m) = inr (record { has = has; at = refl; number = sym (yes 5 20 (eq-eqb a max_vertices m)) })
due_or_over {a} f (above_limit has m) = inr (record { has = has; at = refl; number = sym (no 5 20 (ne_eqb a max_vertices (λ e. omega arith))) })
due_or_over f (kind_unknown i has x y) = inl (kind_unknown i has x y)
due_or_over f (no_height i has k none) = inl (no_height i has k none)
due_or_over f (not_finite i v has m h) = inl (not_finite i v has m h)
due_or_over f (tail_not_zero i has k t) = inl (tail_not_zero i has k t)
due_or_over f (out_of_range i v has m h) = inl (out_of_range i v has m h)
due_or_over f (normal_out_of_range i c has m h) = inl (normal_out_of_range i c has m h)
due_or_over f (too_few i has z h) = inl (too_few i has z h)
due_or_over f (vertex_repeated i j p h has x y) = inl (vertex_repeated i j p h has x y)

limit_fits : {limit : ℕ} → min_vertices ≤ limit → limit ≤ max_vertices → count_fits limit ≡ true
limit_fits {limit} h l = both_true (le-leb min_vertices limit h) (le-leb limit max_vertices l)

module _ {small large : ℕ} (least : min_vertices ≤ small) (below : small ≤ large) (most : large ≤ max_vertices) (s : List ℕ) where
  -- ---- one reading where the chain is within the smaller limit
  module _ (few : ChainAtMost s small) where
    onward : {p : FilePlace} {k : ℕ} → FileDue small s p k → FileDue large s p k
    onward d = ⊎_elim (λ e. e) (λ o. absurd (few o.has)) (due_or_over (limit_fits least (omega arith)) d)

    back : {p : FilePlace} {k : ℕ} → FileDue large s p k → FileDue small s p k
    back d = ⊎_elim (λ e. e) (λ o. absurd (few (shorter (suc small) (omega arith) o.has))) (due_or_over (limit_fits (omega arith) most) d)

    pub number_alike : number_due small s ≡ number_due large s
    number_alike = by (first_or_none small s)
      where
        by : ((k : ℕ) × First (FileDue small s) k) ⊎ NoneDue (FileDue small s) → number_due small s ≡ number_due large s
        by (inl (k, f)) =
            verdict_first (verdict small s) f
            ∙ sym (verdict_first (verdict large s)
            (record { place = f.place; is_due = onward f.is_due; none_before = λ p j h d. f.none_before p j h (back d) }))
        by (inr n) = verdict_zero (verdict small s) n ∙ sym (verdict_zero (verdict large s) (record { none = λ p k d. n.none p k (back d) }))

    pub reading_alike : reading_of small s ≡ reading_of large s
    reading_alike = ap (λ (k : ℕ). or_refused k (polygon_of s)) number_alike

  -- ---- 20 where a rim that the larger limit takes has more vertices
  module _ (complete : IsOk (reading_of large s)) (more : small < (polygon_in (reading_of large s)).n) where
    smaller : small < max_vertices
    smaller = omega (arith, within_limit large s complete)

    many : HasRecords s (suc small)
    many = shorter (suc small) (subst (λ p. small < p.n) (complete_polygon large s complete) more) (read_end large s (complete_read large s complete)).has

    first_20 : First (FileDue small s) 20
    first_20 = record { place = link_to small; is_due = above_limit many smaller; none_before = before }
      where
        twenty : over_limit small ≡ 20
        twenty = no 5 20 (ne_eqb small max_vertices (λ e. omega (arith, smaller)))

        not_later : (p : FilePlace) (j : ℕ) → p ≡ link_to small → 20 ≤ j → Precedes p j (link_to small) 20 → ⊥
        not_later _ j e h (by_place request_link) = let z : ◌≡◌ {A = ℕ} 0 1 = cc in omega arith
        not_later _ j e h (by_place header_link) = let z : ◌≡◌ {A = ℕ} 0 1 = cc in omega arith
        not_later _ j e h (by_place (link_link {h = i} l)) = let z : i ≡ small = cc in omega arith
        not_later _ j e h (by_place (record_link l)) = let z : ◌≡◌ {A = ℕ} 0 1 = cc in omega arith
        not_later _ j e h (by_number l) = omega arith

        before : (p : FilePlace) (j : ℕ) → Precedes p j (link_to small) 20 → FileDue small s p j → ⊥
        before p j h d =
            ⊎_elim (λ e. (read_only_when large s complete).none p j e)
            (λ o. not_later p j o.at (omega (arith, o.number ∙ twenty)) h)
            (due_or_over (limit_fits least (omega arith)) d)

    pub number_over : number_due small s ≡ 20
    number_over = verdict_first (verdict small s) first_20

-- a rim that is read has no more records than vertices
pub read_at_most : (limit : ℕ) (s : List ℕ) → IsOk (reading_of limit s) → {m : ℕ} → (polygon_in (reading_of limit s)).n ≤ m → ChainAtMost s m
read_at_most limit s complete {m} h has =
    let end = read_end limit s (complete_read limit s complete) in
    let l : vertex_count s ≤ m = subst (λ p. p.n ≤ m) (complete_polygon limit s complete) h in
    omega (arith, (has.in_file (vertex_count s) (omega arith)).numbered, end.ended)

-- ---- 5 and 20
module _ (limit : ℕ) (s : List ℕ) where
  pub due_5 : {p : FilePlace} → FileDue limit s p 5 → HasRecords s (suc limit) × (limit ≡ max_vertices)
  due_5 (too_many has m) = (has, m)

  pub due_20 : {p : FilePlace} → FileDue limit s p 20 → HasRecords s (suc limit) × (limit < max_vertices)
  due_20 (above_limit has m) = (has, m)

  -- 5 is given with the largest limit alone, to a chain that has a record more
  pub gives_5 : number_of (reading_of limit s) ≡ 5 → HasRecords s (suc limit) × (limit ≡ max_vertices)
  gives_5 e = due_5 (given_first limit s 4 e).is_due

  -- 20 is given with every smaller limit, to a chain that has a record more
  pub gives_20 : number_of (reading_of limit s) ≡ 20 → HasRecords s (suc limit) × (limit < max_vertices)
  gives_20 e = due_20 (given_first limit s 19 e).is_due
