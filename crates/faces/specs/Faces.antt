-- Triples and fours of vertices, and the faces of a four. Definitions only.
use Rattle.std.specs.Prelude.{Bool, List, ℕ, ◌+◌, eqb}
use Rattle.terms.specs.Entries.{triple}
use Rattle.lists.specs.Lists.{over, when, both, either, some}

abbrev pub same_triple : ℕ → ℕ → ℕ → ℕ → ℕ → ℕ → Bool
same_triple a b c x y z = both (eqb a x) (both (eqb b y) (eqb c z))

-- vertex v is one of the three (rule 4.12)
abbrev pub is_one_of : ℕ → ℕ → ℕ → ℕ → Bool
is_one_of a b c v = either (eqb v a) (either (eqb v b) (eqb v c))

-- (x, y, z) is a face of the four (a, b, c, d) (rule 2.4)
unfoldable pub is_face : ℕ → ℕ → ℕ → ℕ → ℕ → ℕ → ℕ → Bool
is_face a b c d x y z = either (same_triple a b c x y z) (either (same_triple a b d x y z) (either (same_triple a c d x y z) (same_triple b c d x y z)))

-- the triples a < b < c of n vertices for which P holds, in the order of rule 2.4
abbrev pub triples_of : ℕ → (ℕ → ℕ → ℕ → Bool) → List (List ℕ)
triples_of n P = over 0 n (λ a. over (a + 1) n (λ b. over (b + 1) n (λ c. when (P a b c) (triple a b c))))

-- P holds of some three a < b < c of n vertices (rule 2.19)
abbrev pub some_three : ℕ → (ℕ → ℕ → ℕ → Bool) → Bool
some_three n P = some 0 n (λ a. some (a + 1) n (λ b. some (b + 1) n (λ c. P a b c)))

-- P holds of some four a < b < c < d of n vertices (rule 2.3)
abbrev pub some_four : ℕ → (ℕ → ℕ → ℕ → ℕ → Bool) → Bool
some_four n P = some 0 n (λ a. some (a + 1) n (λ b. some (b + 1) n (λ c. some (c + 1) n (λ d. P a b c d))))
