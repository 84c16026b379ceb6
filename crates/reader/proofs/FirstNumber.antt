-- The number that the reader's tests give is the first that is due; where they give none, none is. Assumes nothing.
use mathlib.Core.Path.{◌≡◌, refl, sym, ◌∙◌, subst}
use mathlib.Core.Bool.{Bool, true, false, cond}
use mathlib.Core.List.{List}
use Prim.Native.Nat.{ℕ, zero, suc, ◌≤◌, ◌<◌}
use native.Mathlib.Omega.{arith}
use borrow.Author.Tests.{ltb-true, ltb-false}
use lib.Dec.{ltb}
use mathlib.Core.Logic.{◌⊎◌, inl, inr}
use Rattle.lists.proofs.Choice.{true_not_false, below_or_same}
use Rattle.grid.specs.declared.GridPoint.{GridPoint}
use Rattle.terms.specs.Limits.{max_vertices, count_fits}
use Rattle.polygon.specs.Polygon.{repeated_vertex}
use Rattle.terms.specs.Numbers.{first_due}
use Rattle.rim_file.specs.File.{area_factor_of, length_wrong}
use Rattle.rim_file.specs.Record.{point_of}
use Rattle.rim_file.proofs.Lengths.{whole}
use Rattle.reader.specs.Chain.{link, vertex_at_position, link_code, record_code, position_code, chain_code, vertex_count, vertices_of}
use Rattle.reader.specs.Order.{FilePlace, request, header, link_to, at_record, rim, request_header, request_link, request_record}
use Rattle.reader.specs.Order.{request_rim, header_link, header_record, header_rim, link_link, link_record, record_link}
use Rattle.reader.specs.Order.{record_record, link_rim, record_rim, Precedes, by_place, by_number, First, NoneDue}
use Rattle.reader.specs.Due.{HasVertex, FileDue, limit_wrong, wrong_length, area_factor, too_few, vertex_repeated}
use Rattle.reader.specs.Reading.{file_code, number_due}
use Rattle.reader.proofs.Positions.{shorter, link_given, link_quiet, record_given, record_quiet, record_reached}
use Rattle.reader.proofs.Ends.{Stops, on_link, on_record, Ends, stops, ends, before_end, no_link, no_record, no_number}
use Rattle.reader.proofs.Answers.{limit_most}
use Rattle.reader.proofs.RimVertices.{vertex_is, has_vertex_lem, repeated, not_repeated}

module _ (limit : ℕ) (s : List ℕ) where
  -- ---- 14, 1 and 2
  first_14 : count_fits limit ≡ false → First (FileDue limit s) 14
  first_14 wrong = record { place = request; is_due = limit_wrong wrong; none_before = before }
    where
      number : (j : ℕ) → j < 14 → FileDue limit s request j → ⊥
      number _ l (limit_wrong h) = omega arith

      before : (p : FilePlace) (j : ℕ) → Precedes p j request 14 → FileDue limit s p j → ⊥
      before _ j (by_number l) d = number j l d
      before p j (by_place x10) d = elim x10 [ ]

  module _ (fits : count_fits limit ≡ true) where
    no_request : (k : ℕ) → FileDue limit s request k → ⊥
    no_request _ (limit_wrong h) = true_not_false fits h

    first_1 : length_wrong s ≡ true → First (FileDue limit s) 1
    first_1 wrong = record { place = header; is_due = wrong_length wrong; none_before = before }
      where
        number : (j : ℕ) → FileDue limit s header j → 0 < j
        number _ (wrong_length h) = omega arith
        number _ (area_factor l h) = omega arith

        before : (p : FilePlace) (j : ℕ) → Precedes p j header 1 → FileDue limit s p j → ⊥
        before _ j (by_place request_header) d = no_request j d
        before _ j (by_number l) d = omega (arith, number j d)

    module _ (right : length_wrong s ≡ false) where
      first_2 : 16 < area_factor_of s → First (FileDue limit s) 2
      first_2 over = record { place = header; is_due = area_factor (whole s right).header over; none_before = before }
        where
          one : (j : ℕ) → j < 2 → FileDue limit s header j → ⊥
          one _ l (wrong_length h) = true_not_false h right
          one _ l (area_factor g h) = omega arith

          before : (p : FilePlace) (j : ℕ) → Precedes p j header 2 → FileDue limit s p j → ⊥
          before _ j (by_place request_header) d = no_request j d
          before _ j (by_number l) d = one j l d

      module _ (area : area_factor_of s ≤ 16) where
        no_header : (k : ℕ) → FileDue limit s header k → ⊥
        no_header _ (wrong_length h) = true_not_false h right
        no_header _ (area_factor l h) = omega arith

        -- ---- 3 to 9, 18 and 20
        module _ (i : ℕ) (quiet : (j : ℕ) → j < i → position_code limit s j ≡ 0) where
          link_first : (c : ℕ) → link_code limit s i ≡ c → FileDue limit s (link_to i) c → First (FileDue limit s) c
          link_first c e due = record { place = link_to i; is_due = due; none_before = before }
            where
              before : (p : FilePlace) (j : ℕ) → Precedes p j (link_to i) c → FileDue limit s p j → ⊥
              before _ j (by_place request_link) d = no_request j d
              before _ j (by_place header_link) d = no_header j d
              before _ j (by_place (link_link {h} l)) d = link_quiet limit s h j (quiet h l) d
              before _ j (by_place (record_link {h} l)) d = record_quiet limit s h j (quiet h l) d
              before _ j (by_number l) d = omega (arith, (link_given limit s i j d).most)

          record_first : (c : ℕ) → link_code limit s i ≡ 0 → record_code s i ≡ c → FileDue limit s (at_record i) c → First (FileDue limit s) c
          record_first c fine e due = record { place = at_record i; is_due = due; none_before = before }
            where
              before_link : (h j : ℕ) → (h < i) ⊎ (h ≡ i) → FileDue limit s (link_to h) j → ⊥
              before_link h j (inl l) d = link_quiet limit s h j (quiet h l) d
              before_link h j (inr q) d = omega (arith, fine, (link_given limit s i j (subst (λ (m : ℕ). FileDue limit s (link_to m) j) q d)).some)

              before : (p : FilePlace) (j : ℕ) → Precedes p j (at_record i) c → FileDue limit s p j → ⊥
              before _ j (by_place request_record) d = no_request j d
              before _ j (by_place header_record) d = no_header j d
              before _ j (by_place (link_record {h} l)) d = before_link h j (below_or_same h i l) d
              before _ j (by_place (record_record {h} l)) d = record_quiet limit s h j (quiet h l) d
              before _ j (by_number l) d = omega (arith, (record_given limit s i j d).most)

        first_chain : (c : ℕ) → Stops limit s c → First (FileDue limit s) c
        first_chain c (on_link i e due quiet) = link_first i quiet c e due
        first_chain c (on_record i fine e due quiet) = record_first i quiet c fine e due

        -- ---- 10 and 11
        module _ (n : ℕ) (end : Ends limit s n) where
          first_rim : (k : ℕ) → FileDue limit s rim k → ((j : ℕ) → j < k → FileDue limit s rim j → ⊥) → First (FileDue limit s) k
          first_rim k d none = record { place = rim; is_due = d; none_before = before }
            where
              before : (p : FilePlace) (j : ℕ) → Precedes p j rim k → FileDue limit s p j → ⊥
              before _ j (by_place request_rim) e = no_request j e
              before _ j (by_place header_rim) e = no_header j e
              before _ j (by_place (link_rim {i})) e = no_link limit s n end i j e
              before _ j (by_place (record_rim {i})) e = no_record limit s n end i j e
              before _ j (by_number l) e = none j l e

          first_10 : n < 3 → First (FileDue limit s) 10
          first_10 few = first_rim 10 (too_few n end.has end.ended few) none
            where
              none : (j : ℕ) → j < 10 → FileDue limit s rim j → ⊥
              none _ l (too_few i has z h) = omega arith
              none _ l (vertex_repeated i j p h has a b) = omega arith

          -- the chain does not end before position 3
          module _ (enough : 3 ≤ n) where
            no_10 : (i : ℕ) → link s i ≡ 0 → i < 3 → ⊥
            no_10 i z h = omega (arith, (end.has.in_file i (omega arith)).numbered)

            first_11 : repeated_vertex (vertices_of s n) n ≡ true → First (FileDue limit s) 11
            first_11 same = first_rim 11 due none
              where
                due : FileDue limit s rim 11
                due =
                    let r = repeated s n same in
                    let below : r.i < r.j = r.before in
                    let within : r.j < n = r.within in
                    let fine = no_number limit s n end (whole s right) in
                    vertex_repeated r.i r.j (point_of (vertex_at_position s r.i)) below (shorter (suc r.j) within end.has)
                    (has_vertex_lem s r.i (λ m h. fine m (omega arith)))
                    (subst (λ (p : GridPoint). HasVertex s r.j p) (sym r.equal) (has_vertex_lem s r.j (λ m h. fine m (omega arith))))

                none : (j : ℕ) → j < 11 → FileDue limit s rim j → ⊥
                none _ l (too_few i has z h) = no_10 i z h
                none _ l (vertex_repeated i j p h has a b) = omega arith

            none_due : repeated_vertex (vertices_of s n) n ≡ false → NoneDue (FileDue limit s)
            none_due distinct = record { none = none }
              where
                no_rim : (k : ℕ) → FileDue limit s rim k → ⊥
                no_rim _ (too_few i has z h) = no_10 i z h
                no_rim _ (vertex_repeated i j p h has a b) =
                    not_repeated s n i j distinct h (before_end limit s n end j (record_reached j has)) (vertex_is s i p a ∙ sym (vertex_is s j p b))

                none : (p : FilePlace) (k : ℕ) → FileDue limit s p k → ⊥
                none request k d = no_request k d
                none header k d = no_header k d
                none (link_to i) k d = no_link limit s n end i k d
                none (at_record i) k d = no_record limit s n end i k d
                none rim k d = no_rim k d

  -- ---- the number of the tests, one after the other
  -- what the tests say of a file that is read
  pub record Read : Type 0 where
    pub fits : count_fits limit ≡ true
    pub right : length_wrong s ≡ false
    pub area : area_factor_of s ≤ 16
    pub chain_fine : chain_code limit s ≡ 0
    pub enough : 3 ≤ vertex_count s
    pub distinct : repeated_vertex (vertices_of s (vertex_count s)) (vertex_count s) ≡ false

  data Given : ℕ → Type 0 where
    first : {k : ℕ} → First (FileDue limit s) (suc k) → Given (suc k)
    read : Read → Given 0

  given_file : count_fits limit ≡ true → Given (file_code limit s)
  unfolding file_code
  given_file f =
      by (length_wrong s) (ltb 16 (area_factor_of s)) (chain_code limit s) (ltb (vertex_count s) 3)
      (repeated_vertex (vertices_of s (vertex_count s)) (vertex_count s)) refl refl refl refl refl
    where
      most : limit ≤ max_vertices
      most = limit_most limit f

      by : (a b : Bool) (k : ℕ) (d r : Bool) → length_wrong s ≡ a → ltb 16 (area_factor_of s) ≡ b → chain_code limit s ≡ k → ltb (vertex_count s) 3 ≡ d →
          repeated_vertex (vertices_of s (vertex_count s)) (vertex_count s) ≡ r → Given (cond a 1 (cond b 2 (first_due k (cond d 10 (cond r 11 0)))))
      by true b k d r p q t u v = first (first_1 f p)
      by false true k d r p q t u v = first (first_2 f p (ltb-true 16 (area_factor_of s) q))
      by false false (suc k) d r p q t u v = first (first_chain f p (ltb-false 16 (area_factor_of s) q) (suc k) (stops limit most s (whole s p) k t))
      by false false zero true r p q t u v =
          first (first_10 f p (ltb-false 16 (area_factor_of s) q) (vertex_count s) (ends limit most s (whole s p) t) (ltb-true (vertex_count s) 3 u))
      by false false zero false true p q t u v =
          first (first_11 f p (ltb-false 16 (area_factor_of s) q) (vertex_count s) (ends limit most s (whole s p) t) (ltb-false (vertex_count s) 3 u) v)
      by false false zero false false p q t u v =
          read (record { fits = f; right = p; area = ltb-false 16 (area_factor_of s) q; chain_fine = t; enough = ltb-false (vertex_count s) 3 u; distinct = v })

  given : Given (number_due limit s)
  unfolding number_due
  given = by (count_fits limit) refl
    where
      by : (b : Bool) → count_fits limit ≡ b → Given (cond b (file_code limit s) 14)
      by true e = given_file e
      by false e = first (first_14 e)

  pub number_first : (k : ℕ) → number_due limit s ≡ suc k → First (FileDue limit s) (suc k)
  number_first k e = by (number_due limit s) given e
    where
      by : (j : ℕ) → Given j → j ≡ suc k → First (FileDue limit s) (suc k)
      by _ (first f) d = subst (λ (c : ℕ). First (FileDue limit s) c) d f
      by _ (read r) d = absurd (omega (arith, d))

  pub no_number_read : number_due limit s ≡ 0 → Read
  no_number_read e = by (number_due limit s) given e
    where
      by : (j : ℕ) → Given j → j ≡ 0 → Read
      by _ (first f) d = absurd (omega (arith, d))
      by _ (read r) d = r

  pub read_end : Read → Ends limit s (vertex_count s)
  read_end r = ends limit (limit_most limit r.fits) s (whole s r.right) r.chain_fine

  pub read_none : Read → NoneDue (FileDue limit s)
  read_none r = none_due r.fits r.right r.area (vertex_count s) (read_end r) r.enough r.distinct
