-- A set of triples as a table: for each pair (a, b) a mask, whose bit c says that (a, b, c) is in the set. What functions say to each other; nobody
-- has to believe it.
use Rattle.std.specs.Prelude.{◌≡◌, Bool, List, ℕ, ◌+◌, ◌*◌, ◌/◌, ◌%◌, ◌^◌, ◌<◌, eqb, get_or, set, replicate}
use Rattle.std.specs.Int.Bits.{bit_or}
use Rattle.terms.specs.Limits.{max_vertices}
use Rattle.lists.specs.Lists.{either}

-- a mask for each pair of vertices
abbrev pub pair_count : ℕ
pair_count = max_vertices * max_vertices

-- the place of a pair's mask
abbrev pub pair_at : ℕ → ℕ → ℕ
pair_at a b = a * max_vertices + b

-- a mask with bit c set
abbrev pub with_vertex : ℕ → ℕ → ℕ
with_vertex mask c = bit_or mask (2 ^ c)

-- bit c of a mask
abbrev pub has_vertex : ℕ → ℕ → Bool
has_vertex mask c = eqb (mask / 2 ^ c % 2) 1

-- the triple is in the set
unfoldable pub has : List ℕ → ℕ → ℕ → ℕ → Bool
has masks a b c = has_vertex (get_or masks (pair_at a b) 0) c

-- the set without triples
abbrev pub empty_set : List ℕ
empty_set = replicate pair_count 0

-- a triple put in
abbrev pub with_triple : List ℕ → ℕ → ℕ → ℕ → List ℕ
with_triple masks a b c = set masks (pair_at a b) (with_vertex (get_or masks (pair_at a b) 0) c)

-- the faces of (a, b, c, d) put in
abbrev pub with_faces : List ℕ → ℕ → ℕ → ℕ → ℕ → List ℕ
with_faces masks a b c d = with_triple (with_triple (with_triple (with_triple masks b c d) a c d) a b d) a b c

-- the triples for which a test holds put in, and no other
pub record Joined (before : List ℕ) (test : ℕ → ℕ → ℕ → Bool) (after : List ℕ) : Type 0 where
  pub at : (x y z : ℕ) → x < max_vertices → y < max_vertices → z < max_vertices → has after x y z ≡ either (has before x y z) (test x y z)
