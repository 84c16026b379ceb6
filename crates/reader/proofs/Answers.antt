-- The reader's answer from its tests, in their order. Assumes nothing.
use mathlib.Core.Path.{◌≡◌, refl, sym, ap, ◌∙◌}
use mathlib.Core.Bool.{Bool, true, false, cond}
use mathlib.Core.List.{List}
use Prim.Native.Nat.{ℕ, zero, suc, ◌+◌, ◌≤◌, ◌<◌}
use native.Mathlib.Omega.{arith}
use borrow.Author.Tests.{le-ltb, lt-ltb, le-leb, eqb-true, eqb-false, leb-true, leb-false}
use lib.Dec.{ltb, leb, eqb}
use Rattle.std.specs.Prelude.{Result, Ok, Err}
use Rattle.codes.specs.declared.Refusal.{Refusal}
use Rattle.codes.specs.Refusals.{refusal, number_of, or_refused}
use Rattle.codes.proofs.Refusals.{number_answered, due_refused, none_answered, refused_answered}
use Rattle.lists.proofs.Choice.{yes, no, both_right}
use Rattle.terms.specs.Limits.{max_vertices, count_fits}
use Rattle.polygon.specs.Polygon.{repeated_vertex}
use Rattle.terms.specs.Numbers.{first_due}
use Rattle.terms.proofs.Numbers.{due_neither}
use Rattle.rim_file.specs.File.{area_factor_of, bend_factor_of, record_count, length_wrong}
use Rattle.reader.specs.Chain.{met_before, over_limit, link_code, record_code, position_code}
use Rattle.reader.specs.Chain.{code_from, end_from, chain_code, vertex_count, vertices_of}
use Rattle.reader.specs.Chain as chain
use Rattle.reader.specs.Steps.{chain_of}
use Rattle.reader.specs.Reading.{Reading, file_code, number_due, polygon_of, reading_of}
use Rattle.reader.specs.declared.Chain.{Chain}

-- ---- a chain in which no number is due has at most as many vertices as the limit
-- the number of a record that is one too many is 5 or more
pub over_least : (limit : ℕ) → 5 ≤ over_limit limit
over_least limit = by (eqb limit max_vertices)
  where
    by : (b : Bool) → 5 ≤ cond b 5 20
    by true = omega arith
    by false = omega arith

module _ (limit : ℕ) (s : List ℕ) where
  -- one step of the code, from position i
  pub code_step : (i k : ℕ) →
      code_from limit s i (suc k) ≡ cond (eqb (chain.link s i) 0) 0
      (cond (eqb (position_code limit s i) 0) (code_from limit s (suc i) k) (position_code limit s i))
  unfolding code_from
  code_step i k = refl

  -- the link to a position past the limit is refused with 3, 4, or 5 or 20
  pub past_limit : (i : ℕ) → limit ≤ i → position_code limit s i ≡ 0 → ⊥
  unfolding position_code link_code
  past_limit i h e =
      by (ltb (record_count s) (chain.link s i)) (met_before s i (chain.link s i)) refl refl (due_neither (link_code limit s i) (record_code s i) e).0
    where
      many : leb limit i ≡ true
      many = le-leb limit i h

      by : (a b : Bool) → ltb (record_count s) (chain.link s i) ≡ a → met_before s i (chain.link s i) ≡ b → link_code limit s i ≡ 0 → ⊥
      by true b p q z = omega (arith, over_least limit, simp (p, q, many) at z)
      by false true p q z = omega (arith, over_least limit, simp (p, q, many) at z)
      by false false p q z = omega (arith, over_least limit, simp (p, q, many) at z)

  -- what no number from position i on says of one position
  pub record Passed (i k : ℕ) : Type 0 where
    pub position : position_code limit s i ≡ 0
    pub rest : code_from limit s (suc i) k ≡ 0

  pub passed : (i k : ℕ) → code_from limit s i (suc k) ≡ 0 → eqb (chain.link s i) 0 ≡ false → Passed i k
  passed i k e z = by (eqb (position_code limit s i) 0) refl
    where
      left : cond (eqb (position_code limit s i) 0) (code_from limit s (suc i) k) (position_code limit s i) ≡ 0
      left = sym (no 0 _ z) ∙ sym (code_step i k) ∙ e

      by : (b : Bool) → eqb (position_code limit s i) 0 ≡ b → Passed i k
      by true p = record { position = eqb-true (position_code limit s i) 0 p; rest = sym (yes _ _ p) ∙ left }
      by false p = absurd (eqb-false (position_code limit s i) 0 p (sym (no _ _ p) ∙ left))

-- and of the end
pub end_step : (s : List ℕ) (i k : ℕ) → end_from s i (suc k) ≡ cond (eqb (chain.link s i) 0) i (end_from s (suc i) k)
unfolding end_from
end_step s i k = refl

module _ (limit : ℕ) (small : limit ≤ max_vertices) (s : List ℕ) where
  end_within : (i k : ℕ) → i + k ≡ suc max_vertices → i ≤ limit → code_from limit s i k ≡ 0 → end_from s i k ≤ limit
  end_within i zero t h e = absurd (omega arith)
  end_within i (suc k) t h e = by (eqb (chain.link s i) 0) refl (λ p l. end_within (suc i) k (omega arith) l p.rest)
    where
      by : (b : Bool) → eqb (chain.link s i) 0 ≡ b → (Passed limit s i k → suc i ≤ limit → end_from s (suc i) k ≤ limit) → end_from s i (suc k) ≤ limit
      by true z go = omega (arith, end_step s i k ∙ yes i _ z)
      by false z go = on (leb limit i) refl
        where
          here : Passed limit s i k
          here = passed limit s i k e z

          on : (b : Bool) → leb limit i ≡ b → end_from s i (suc k) ≤ limit
          on true l = absurd (past_limit limit s i (leb-true limit i l) here.position)
          on false l = omega (arith, end_step s i k ∙ no i _ z, go here (leb-false limit i l))

  pub count_within : chain_code limit s ≡ 0 → vertex_count s ≤ limit
  count_within e = end_within 0 (suc max_vertices) refl (omega arith) e

-- ---- the chain as it was followed, on which no number is due
module _ (limit : ℕ) (s : List ℕ) {r : Chain} (e : Ok r ≡ or_refused (chain_code limit s) (chain_of s)) where
  pub followed_none : chain_code limit s ≡ 0
  followed_none = (none_answered (chain_code limit s) e).0

  pub followed : r ≡ chain_of s
  followed = (none_answered (chain_code limit s) e).1

  pub followed_within : limit ≤ max_vertices → r.n ≤ max_vertices
  followed_within small = omega (arith, ap (λ (x : Chain). x.n) followed, count_within limit small s followed_none)

  pub repeated_as_found : {b : Bool} → b ≡ repeated_vertex r.vertices r.n → repeated_vertex (vertices_of s (vertex_count s)) (vertex_count s) ≡ b
  repeated_as_found f = sym (f ∙ ap (λ (x : Chain). repeated_vertex x.vertices x.n) followed)

-- ---- the answer
-- a limit from 3 to 64
pub limit_most : (limit : ℕ) → count_fits limit ≡ true → limit ≤ max_vertices
limit_most limit f = leb-true limit max_vertices (both_right (leb 3 limit) (leb limit max_vertices) f)

module _ (limit : ℕ) (s : List ℕ) where
  -- a number that is due is the answer
  pub answer_refused : (k : ℕ) → 0 < k → number_due limit s ≡ k → ◌≡◌ {A = Reading} (Err (refusal k)) (reading_of limit s)
  answer_refused k h e = due_refused k (polygon_of s) h ∙ ap (λ (j : ℕ). or_refused j (polygon_of s)) (sym e)

  pub limit_due : count_fits limit ≡ false → number_due limit s ≡ 14
  unfolding number_due
  limit_due f = no _ 14 f

  module _ (fits : count_fits limit ≡ true) where
    pub file_then : number_due limit s ≡ file_code limit s
    unfolding number_due
    file_then = yes _ 14 fits

    pub length_due : length_wrong s ≡ true → number_due limit s ≡ 1
    unfolding file_code
    length_due h = file_then ∙ yes 1 _ h

    module _ (right : length_wrong s ≡ false) where
      pub area_due : 16 < area_factor_of s → number_due limit s ≡ 2
      unfolding file_code
      area_due h = file_then ∙ no 1 _ right ∙ yes 2 _ (lt-ltb 16 (area_factor_of s) h)

      module _ (area : area_factor_of s ≤ 16) where
        rest : ℕ
        rest = cond (ltb (vertex_count s) 3) 10 (cond (repeated_vertex (vertices_of s (vertex_count s)) (vertex_count s)) 11 0)

        chain_then : number_due limit s ≡ first_due (chain_code limit s) rest
        unfolding file_code rest
        chain_then = file_then ∙ no 1 _ right ∙ no 2 _ (le-ltb 16 (area_factor_of s) area)

        pub chain_due : (k : ℕ) → 0 < k → chain_code limit s ≡ k → number_due limit s ≡ k
        chain_due zero h e = absurd (omega arith)
        chain_due (suc k) h e = chain_then ∙ ap (λ (j : ℕ). first_due j rest) e

        pub chain_refused : {r : Refusal} → ◌≡◌ {A = Result Chain Refusal} (Err r) (or_refused (chain_code limit s) (chain_of s)) →
            ◌≡◌ {A = Reading} (Err r) (reading_of limit s)
        chain_refused e =
            let p = refused_answered (chain_code limit s) (chain_of s) e in
            rw p.1 (answer_refused (chain_code limit s) p.0 (chain_due (chain_code limit s) p.0 refl))

        module _ (none : chain_code limit s ≡ 0) where
          chain_passed : number_due limit s ≡ rest
          chain_passed = chain_then ∙ ap (λ (j : ℕ). first_due j rest) none

          pub few_due : vertex_count s < 3 → number_due limit s ≡ 10
          unfolding rest
          few_due h = chain_passed ∙ yes 10 _ (lt-ltb (vertex_count s) 3 h)

          module _ (enough : 3 ≤ vertex_count s) where
            pub repeated_due : repeated_vertex (vertices_of s (vertex_count s)) (vertex_count s) ≡ true → number_due limit s ≡ 11
            unfolding rest
            repeated_due h = chain_passed ∙ no 10 _ (le-ltb (vertex_count s) 3 enough) ∙ yes 11 _ h

            pub none_due : repeated_vertex (vertices_of s (vertex_count s)) (vertex_count s) ≡ false → number_due limit s ≡ 0
            unfolding rest
            none_due h = chain_passed ∙ no 10 _ (le-ltb (vertex_count s) 3 enough) ∙ no 11 _ h

-- no number is due: the answer is the polygon
pub answer_complete : (limit : ℕ) (s : List ℕ) {area bend : ℕ} {r : Chain} → number_due limit s ≡ 0 → r ≡ chain_of s → area ≡ area_factor_of s →
    bend ≡ bend_factor_of s →
    ◌≡◌ {A = Reading}
    (Ok (record { n = r.n; area_factor = area; bend_factor = bend; vertices = r.vertices; normals = r.normals })) (reading_of limit s)
answer_complete limit s e c a b =
    (λ i. Ok (record { n = (c i).n; area_factor = a i; bend_factor = b i; vertices = (c i).vertices; normals = (c i).normals }))
    ∙ ap (λ (j : ℕ). or_refused j (polygon_of s)) (sym e)

-- the whole promise from the answer
pub promised : (limit : ℕ) (s : List ℕ) {r : Reading} → r ≡ reading_of limit s → (r ≡ reading_of limit s) × (number_of r ≡ number_due limit s)
promised limit s e = (e, ap number_of e ∙ number_answered (number_due limit s) (polygon_of s))
