-- The places of a file: of two one comes first, so there is at most one first number. Assumes nothing.
use mathlib.Core.Path.{◌≡◌, refl, ap}
use Prim.Native.Nat.{ℕ}
use native.Mathlib.Omega.{arith}
use Rattle.lists.proofs.Choice.{Compared, less, same, more, compared}
use Rattle.terms.proofs.Order.{Ordered, earlier, later, one_place}
use Rattle.terms.proofs.Order as order
pub use Rattle.terms.proofs.Order.{first_due_lem, none_due, none_first, verdict_either, verdict_given, verdict_zero, verdict_none}
use Rattle.reader.specs.Order.{FilePlace, request, header, link_to, at_record, rim, FileBefore, request_header}
use Rattle.reader.specs.Order.{request_link, request_record, request_rim, header_link, header_record, header_rim}
use Rattle.reader.specs.Order.{link_link, link_record, record_link, record_record, link_rim, record_rim, First}

link_and_link : {h i : ℕ} → Compared h i → Ordered FileBefore (link_to h) (link_to i)
link_and_link (less l) = earlier (link_link l)
link_and_link (same e) = one_place (ap link_to e)
link_and_link (more l) = later (link_link l)

link_and_record : {h i : ℕ} → Compared h i → Ordered FileBefore (link_to h) (at_record i)
link_and_record {h} {i} (less l) = earlier (link_record {h = h} {i = i} (omega arith))
link_and_record {h} {i} (same e) = earlier (link_record {h = h} {i = i} (omega arith))
link_and_record (more l) = later (record_link l)

record_and_link : {h i : ℕ} → Compared h i → Ordered FileBefore (at_record h) (link_to i)
record_and_link (less l) = earlier (record_link l)
record_and_link {h} {i} (same e) = later (link_record {h = i} {i = h} (omega arith))
record_and_link {h} {i} (more l) = later (link_record {h = i} {i = h} (omega arith))

record_and_record : {h i : ℕ} → Compared h i → Ordered FileBefore (at_record h) (at_record i)
record_and_record (less l) = earlier (record_record l)
record_and_record (same e) = one_place (ap at_record e)
record_and_record (more l) = later (record_record l)

ordered : (p q : FilePlace) → Ordered FileBefore p q
ordered request request = one_place refl
ordered request header = earlier request_header
ordered request (link_to i) = earlier request_link
ordered request (at_record i) = earlier request_record
ordered request rim = earlier request_rim
ordered header request = later request_header
ordered header header = one_place refl
ordered header (link_to i) = earlier header_link
ordered header (at_record i) = earlier header_record
ordered header rim = earlier header_rim
ordered (link_to h) request = later request_link
ordered (link_to h) header = later header_link
ordered (link_to h) (link_to i) = link_and_link (compared h i)
ordered (link_to h) (at_record i) = link_and_record (compared h i)
ordered (link_to h) rim = earlier link_rim
ordered (at_record h) request = later request_record
ordered (at_record h) header = later header_record
ordered (at_record h) (link_to i) = record_and_link (compared h i)
ordered (at_record h) (at_record i) = record_and_record (compared h i)
ordered (at_record h) rim = earlier record_rim
ordered rim request = later request_rim
ordered rim header = later header_rim
ordered rim (link_to i) = later link_rim
ordered rim (at_record i) = later record_rim
ordered rim rim = one_place refl

abbrev pub Verdict : (FilePlace → ℕ → Type 0) → ℕ → Type 0
Verdict = order.Verdict FileBefore

module _ {due : FilePlace → ℕ → Type 0} where
  pub first_unique : {j k : ℕ} → First due j → First due k → j ≡ k
  first_unique a b = order.first_unique ordered a b

  pub verdict_first : {n k : ℕ} → Verdict due n → First due k → n ≡ k
  verdict_first v f = order.verdict_first ordered v f
