-- No two candidates of a rim cross, flat or not: each is part of vertices with a ball of their own, the sphere of four that count or, round the centre of
-- the circle, that of three that count, and where 12 is not due no other vertex is on it. Assumes nothing.
use mathlib.Core.Path.{◌≡◌, sym, ◌∙◌, ap, subst}
use mathlib.Core.Bool.{true}
use mathlib.Core.List.Memᴰ.{head}
use mathlib.Core.List.Memᴰ.{tail}
use mathlib.Core.List.{List, [], ◌∷◌, Memᴰ}
use mathlib.Core.Logic.{⊎_elim}
use Prim.Native.Nat.{ℕ, ◌<◌}
use native.Mathlib.Omega.{arith}
use lib.IntN.{ℤ, pos}
use Rattle.integers.proofs.Order.{equal_is}
use Rattle.lists.proofs.Choice.{true_not_false}
use Rattle.terms.specs.Entries.{triple}
use Rattle.geometry.specs.Vectors.{square_of}
use Rattle.geometry.specs.Faces.{normal_of}
use Rattle.geometry.specs.Spheres.{orient_of, centre_of, distance_of, on_sphere}
use Rattle.geometry.proofs.Centres.{corner_q, corner_r, corner_s}
use Rattle.planar.specs.Circles.{circumcentre_of, distance_in_plane, on_circle}
use Rattle.planar.proofs.Circles.{distance_q, distance_r}
use Rattle.polygon.specs.declared.Polygon.{Polygon}
use Rattle.polygon.specs.Polygon.{vertex}
use Rattle.demands.specs.Candidates.{Counts, abc, abd, acd, bcd, CountsInPlane, Candidate, face, three, Degenerate, by_sphere, by_circle}
use Rattle.demands.specs.Demand2.{Demand2}
use Rattle.crossing.specs.Crossing.{IsCandidate, candidate, CandidatesApart}
use Rattle.crossing.proofs.Corners.{member_or_not, three_cases, four_cases, distinct_three}
use Rattle.crossing.proofs.Forms.{Clear, Supported, uncrossed}
use Rattle.crossing.proofs.Planes.{four_independent, three_independent}
use Rattle.crossing.proofs.Balls.{Ball, ball_clear, ball_round}

module _ (p : Polygon) (no_12 : Degenerate p → ⊥) where
  -- ---- four vertices that count
  module _ (a b c d : ℕ) (k : Counts p a b c d) where
    abbrev four : List ℕ
    four = a ∷ b ∷ c ∷ d ∷ []

    -- where 12 is not due, no fifth vertex is on their sphere
    no_fifth : (v : ℕ) → v < p.n → on_sphere (vertex p a) (vertex p b) (vertex p c) (vertex p d) (vertex p v) ≡ true → Memᴰ v four
    no_fifth v h on = ⊎_elim (λ m. m) (λ n. absurd (no_12 (by_sphere (record {
      a = a;
      b = b;
      c = c;
      d = d;
      four = k;
      fifth = v;
      fifth<n = h;
      not_a = λ e. n (head e);
      not_b = λ e. n (tail (head e));
      not_c = λ e. n (tail (tail (head e)));
      not_d = λ e. n (tail (tail (tail (head e))));
      on = on;
    })))) (member_or_not v four)

    below_four : (i : ℕ) → Memᴰ i four → i < p.n
    below_four i m =
        let ab = k.a<b in
        let bc = k.b<c in
        let cd = k.c<d in
        let dn = k.d<n in
        four_cases m (λ e. omega arith) (λ e. omega arith) (λ e. omega arith) (λ e. omega arith)

    solid : orient_of (vertex p a) (vertex p b) (vertex p c) (vertex p d) ≡ pos 0 → ⊥
    solid e = true_not_false (equal_is e) k.solid

    sphere : Ball p four
    unfolding distance_of
    sphere =
        ball_round p four a (orient_of (vertex p a) (vertex p b) (vertex p c) (vertex p d)) (centre_of (vertex p a) (vertex p b) (vertex p c) (vertex p d))
        solid on k.empty no_fifth
      where
        from : ℕ → ℤ
        from i = distance_of (vertex p a) (vertex p b) (vertex p c) (vertex p d) (vertex p i)

        on : (i : ℕ) → Memᴰ i four → from i ≡ from a
        on i m =
            four_cases m (ap from)
            (λ e. ap from e ∙ corner_q (vertex p a) (vertex p b) (vertex p c) (vertex p d))
            (λ e. ap from e ∙ corner_r (vertex p a) (vertex p b) (vertex p c) (vertex p d))
            (λ e. ap from e ∙ corner_s (vertex p a) (vertex p b) (vertex p c) (vertex p d))

    four_clear : Clear p four
    four_clear = ball_clear p four sphere below_four (four_independent p a b c d solid)

    -- three of them
    part_supported : (x y z : ℕ) → x < y → y < z → ((i : ℕ) → Memᴰ i (triple x y z) → Memᴰ i four) → Supported p (triple x y z)
    part_supported x y z l m part = record { zeros = four; clear = four_clear; part = part; distinct = distinct_three l m }

  -- ---- three vertices of a flat rim that count
  module _ (a b c : ℕ) (k : CountsInPlane p a b c) where
    -- where 12 is not due, no fourth vertex is on their circle
    no_fourth : (v : ℕ) → v < p.n → on_circle (vertex p a) (vertex p b) (vertex p c) (vertex p v) ≡ true → Memᴰ v (triple a b c)
    no_fourth v h on = ⊎_elim (λ m. m) (λ n. absurd (no_12 (by_circle (record {
      a = a;
      b = b;
      c = c;
      three = k;
      fourth = v;
      fourth<n = h;
      not_a = λ e. n (head e);
      not_b = λ e. n (tail (head e));
      not_c = λ e. n (tail (tail (head e)));
      on = on;
    })))) (member_or_not v (triple a b c))

    below_three : (i : ℕ) → Memᴰ i (triple a b c) → i < p.n
    below_three i m =
        let ab = k.a<b in
        let bc = k.b<c in
        let cn = k.c<n in
        three_cases m (λ e. omega arith) (λ e. omega arith) (λ e. omega arith)

    wide : square_of (normal_of (vertex p a) (vertex p b) (vertex p c)) ≡ pos 0 → ⊥
    wide e = true_not_false (equal_is e) k.proper

    circle : Ball p (triple a b c)
    unfolding distance_in_plane
    circle =
        ball_round p (triple a b c) a (square_of (normal_of (vertex p a) (vertex p b) (vertex p c))) (circumcentre_of (vertex p a) (vertex p b) (vertex p c))
        wide on k.empty no_fourth
      where
        from : ℕ → ℤ
        from i = distance_in_plane (vertex p a) (vertex p b) (vertex p c) (vertex p i)

        on : (i : ℕ) → Memᴰ i (triple a b c) → from i ≡ from a
        on i m =
            three_cases m (ap from)
            (λ e. ap from e ∙ distance_q (vertex p a) (vertex p b) (vertex p c))
            (λ e. ap from e ∙ distance_r (vertex p a) (vertex p b) (vertex p c))

    three_supported : Supported p (triple a b c)
    three_supported = record {
      zeros = triple a b c;
      clear = ball_clear p (triple a b c) circle below_three (three_independent p a b c wide);
      part = λ i m. m;
      distinct = distinct_three k.a<b k.b<c;
    }

  -- ---- candidates
  candidate_supported : (x y z : ℕ) → Candidate p x y z → Supported p (triple x y z)
  candidate_supported x y z (three k) = three_supported x y z k
  candidate_supported x y z (face (abc a b c d k)) =
      part_supported a b c d k a b c k.a<b k.b<c (λ i m. three_cases m head (λ e. tail (head e)) (λ e. tail (tail (head e))))
  candidate_supported x y z (face (abd a b c d k)) =
      part_supported a b c d k a b d k.a<b (omega (arith, k.b<c, k.c<d))
      (λ i m. three_cases m head (λ e. tail (head e)) (λ e. tail (tail (tail (head e)))))
  candidate_supported x y z (face (acd a b c d k)) =
      part_supported a b c d k a c d (omega (arith, k.a<b, k.b<c)) k.c<d
      (λ i m. three_cases m head (λ e. tail (tail (head e))) (λ e. tail (tail (tail (head e)))))
  candidate_supported x y z (face (bcd a b c d k)) =
      part_supported a b c d k b c d k.b<c k.c<d
      (λ i m. three_cases m (λ e. tail (head e)) (λ e. tail (tail (head e))) (λ e. tail (tail (tail (head e)))))

  pub supported : (t : List ℕ) → IsCandidate p t → Supported p t
  supported t (candidate a b c k) = candidate_supported a b c k

  -- what stands in a list of which demand 2 holds
  pub listed_supported : {candidates rows : List (List ℕ)} {weights : List ℕ} → Demand2 p candidates weights rows →
      (t : List ℕ) → Memᴰ t candidates → Supported p t
  listed_supported d t m = let f = d.only_listed t m in subst (λ (s : List ℕ). Supported p s) (sym f.3) (candidate_supported f.0 f.1 f.2 f.4)

-- where 12 is not due, no two candidates cross
pub candidates_apart : (p : Polygon) → CandidatesApart p
candidates_apart p no_12 = uncrossed p (IsCandidate p) (supported p no_12)
