-- Triangles, edges and vertices that cross nowhere, by weighted sums of their corners (rule 2.20). Definitions only.
use Rattle.std.specs.Prelude.{◌≡◌, ℕ, ◌<◌, pos}
use mathlib.Core.List.{List, [], ◌∷◌, Memᴰ}
use Rattle.lists.specs.Sums.{sum}
use Rattle.terms.specs.Entries.{triple}
use Rattle.geometry.specs.declared.Vector.{Vector}
use Rattle.geometry.specs.Vectors.{zero_vector, plus, scaled_by}
use Rattle.polygon.specs.declared.Polygon.{Polygon}
use Rattle.polygon.specs.Polygon.{vertex}
use Rattle.demands.specs.Candidates.{Candidate, Degenerate}

-- where vertex i stands (rule 1.8)
abbrev pub corner_at : Polygon → ℕ → Vector
corner_at p i = record { x = (vertex p i).x; y = (vertex p i).y; z = (vertex p i).z }

-- the weighted sum of corners: each vertex of t times its weight, a whole number that is not negative (rule 2.20)
abbrev pub weighted_sum : Polygon → (ℕ → ℕ) → List ℕ → Vector
weighted_sum p v [] = zero_vector
weighted_sum p v (i ∷ t) = plus (scaled_by (pos (v i)) (corner_at p i)) (weighted_sum p v t)

-- the weights v on the corners of t and w on those of u are not all zero, have equal sums, and give the same point (rule 2.20)
pub record Meet (p : Polygon) (t u : List ℕ) (v w : ℕ → ℕ) : Type 0 where
  pub not_all_zero : 0 < sum v t
  pub equal_sums : sum v t ≡ sum w u
  pub same_point : weighted_sum p v t ≡ weighted_sum p w u

-- every corner of t with a weight above zero belongs to u (rule 2.20)
abbrev pub Belong : (ℕ → ℕ) → List ℕ → List ℕ → Type 0
Belong v t u = (i : ℕ) → Memᴰ i t → 0 < v i → Memᴰ i u

-- no two of these cross (rule 2.20): where the weighted sums of their corners are the same point, every corner with a weight above zero belongs to both,
-- and has the same weight in both
pub record NoCrossing (p : Polygon) (These : List ℕ → Type 0) : Type 0 where
  pub belong : (t u : List ℕ) → These t → These u → (v w : ℕ → ℕ) → Meet p t u v w → Belong v t u × Belong w u t
  pub same_weights : (t u : List ℕ) → These t → These u → (v w : ℕ → ℕ) → Meet p t u v w → (i : ℕ) → Memᴰ i t → Memᴰ i u → v i ≡ w i

-- t is a candidate, of a flat rim or of any other (rule 2.4)
pub data IsCandidate (p : Polygon) : List ℕ → Type 0 where
  candidate : (a b c : ℕ) → Candidate p a b c → IsCandidate p (triple a b c)

-- no two candidates cross on a rim on which 12 is not due (rules 2.20, 4.12)
abbrev pub CandidatesApart : Polygon → Type 0
CandidatesApart p = (Degenerate p → ⊥) → NoCrossing p (IsCandidate p)
