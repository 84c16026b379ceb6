-- What the test of a file's length says. Assumes nothing.
use mathlib.Core.Path.{◌≡◌}
use mathlib.Core.Bool.{true, false, not}
use mathlib.Core.List.{List}
use Prim.Native.Nat.{ℕ, ◌+◌, ◌*◌, ◌≤◌, ◌<◌}
use native.Mathlib.Omega.{arith}
use borrow.Author.Tests.{ltb-false, lt-ltb, le-ltb, eqb-true, not-false}
use lib.ListN.{length}
use lib.Dec.{ltb, eqb}
use Rattle.lists.specs.Lists.{either}
use Rattle.lists.proofs.Choice.{true_not_false, either_left, either_right, either_neither, not_true_false}
use Rattle.rim_file.proofs.Layouts.{bounds, record_within}
use Rattle.rim_file.specs.File.{header_size, record_size1, offset, header_start, record_size_of, record_count, max_records, length_wrong}

-- the file has its header and all its records
pub record Whole (s : List ℕ) : Type 0 where
  pub header : header_start s + header_size ≤ length s
  pub few : record_count s ≤ max_records
  pub records : length s ≡ header_start s + header_size + record_size_of s * record_count s

pub whole : (s : List ℕ) → length_wrong s ≡ false → Whole s
unfolding length_wrong
whole s e =
    let short = ltb (length s) (header_start s + header_size) in
    let many = ltb max_records (record_count s) in
    let other = not (eqb (length s) (header_start s + header_size + record_size_of s * record_count s)) in
    let rest : either many other ≡ false = either_neither short (either many other) e in
    let a : short ≡ false = not_true_false short (λ t. true_not_false (either_left short (either many other) t) e) in
    let b : many ≡ false = not_true_false many (λ t. true_not_false (either_left many other t) rest) in
    let c : other ≡ false = either_neither many other rest in
    record {
      header = ltb-false (length s) (header_start s + header_size) a;
      few = ltb-false max_records (record_count s) b;
      records = eqb-true (length s) (header_start s + header_size + record_size_of s * record_count s)
          (not-false (eqb (length s) (header_start s + header_size + record_size_of s * record_count s)) c);
    }

-- the test, by what is found one after the other
module _ (s : List ℕ) where
  pub too_short : length s < header_start s + header_size → length_wrong s ≡ true
  unfolding length_wrong
  too_short h = either_left _ _ (lt-ltb (length s) (header_start s + header_size) h)

  module _ (long : header_start s + header_size ≤ length s) where
    pub too_many : max_records < record_count s → length_wrong s ≡ true
    unfolding length_wrong
    too_many h = either_right (ltb (length s) (header_start s + header_size)) _ (either_left _ _ (lt-ltb max_records (record_count s) h))

    pub by_records : record_count s ≤ max_records → length_wrong s ≡ not (eqb (length s) (header_start s + header_size + record_size_of s * record_count s))
    unfolding length_wrong
    by_records h = rw (le-ltb (length s) (header_start s + header_size) long, le-ltb max_records (record_count s) h)

-- the record where a link leads is in the file, to its last byte
pub record Held (s : List ℕ) (at : ℕ) : Type 0 where
  pub whole : at + record_size_of s ≤ length s
  pub start : at + record_size1 ≤ length s

pub held : (s : List ℕ) → length_wrong s ≡ false → {k n at : ℕ} → (k ≡ 0 → ⊥) → n ≡ record_count s → k ≤ n → at ≡ offset s k → Held s at
held s e {k} {n} {at} z c l a =
    let w = record_within s k (omega (arith, z)) (omega (arith, c, l)) (whole s e).records in
    record { whole = omega (arith, w, a); start = omega (arith, w, a, (bounds s).least) }
