-- The rows of a table counted from the front. Assumes nothing.
use Rattle.std.proofs.Common.{◌≡◌, refl, sym, ap, List, [], ℕ, ◌≤◌, Bool, length, arith, cond, not, true, false, Some, None, Option, unwrap_or, MatchOption, ◌<◌}
use Rattle.std.proofs.lemmas.List.Recursion.{is_position_or_len}
use Rattle.std.proofs.lemmas.List.Sums.{position_or_len_is, prefix_len-le-length}
use Rattle.std.specs.List.{position_or_len, AllWithin, HoldsAt}
use lib.Dec.{eqb}
use Rattle.terms.specs.Entries.{outer, inner}
use Rattle.patch_lines.specs.Places.{row_count_of}

-- a row that names one candidate twice
abbrev pub same_ends : List ℕ → Bool
same_ends r = eqb (outer r) (inner r)

pub count_is : (rows : List (List ℕ)) → row_count_of rows ≡ position_or_len same_ends rows
count_is = is_position_or_len row_count_of same_ends refl (λ r rows. ap (cond (same_ends r) 0) (omega arith))

pub count_within : (rows : List (List ℕ)) → position_or_len same_ends rows ≤ length rows
count_within rows = prefix_len-le-length (λ r. not (same_ends r)) rows

-- the first place found, or the length
pub first_or_length : (p : List ℕ → Bool) (rows : List (List ℕ)) (r : Option ℕ) →
    MatchOption r (AllWithin (λ x. p x ≡ false) rows 0 (length rows))
    (λ i. (i < length rows) × HoldsAt (λ x. p x ≡ true) rows i × AllWithin (λ x. p x ≡ false) rows 0 i)
    → unwrap_or r (length rows) ≡ position_or_len p rows
first_or_length p rows None h = sym (position_or_len_is p rows (length rows) [] (omega arith) (λ k l. h k [] (omega arith) l) (λ l. absurd (omega arith)))
first_or_length p rows (Some i) h =
    sym (position_or_len_is p rows i [] (omega arith) (λ k l. h.2 k [] (omega arith) l) (λ l. h.1 []))
