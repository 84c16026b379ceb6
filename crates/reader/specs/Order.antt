-- Where a number can be due on a rim file, which of two comes first, and what the first number due is. Definitions only.
use Rattle.std.specs.Prelude.{ℕ, ◌≤◌, ◌<◌}
use Rattle.terms.specs.Order as order
pub use Rattle.terms.specs.Order.{by_place, by_number, NoneDue}

-- a number is due on the limit that the caller asks for, on the header, on the link that leads to a position of the chain, on the record there, or on the
-- rim as a whole (rule 4.31)
pub data FilePlace : Type 0 where
  request : FilePlace
  header : FilePlace
  link_to : ℕ → FilePlace
  at_record : ℕ → FilePlace
  rim : FilePlace

-- one place comes before another (rule 4.31): the limit, the header, at each position in turn the link and then the record, the rim
pub data FileBefore : FilePlace → FilePlace → Type 0 where
  request_header : FileBefore request header
  request_link : {i : ℕ} → FileBefore request (link_to i)
  request_record : {i : ℕ} → FileBefore request (at_record i)
  request_rim : FileBefore request rim
  header_link : {i : ℕ} → FileBefore header (link_to i)
  header_record : {i : ℕ} → FileBefore header (at_record i)
  header_rim : FileBefore header rim
  link_link : {h i : ℕ} → h < i → FileBefore (link_to h) (link_to i)
  link_record : {h i : ℕ} → h ≤ i → FileBefore (link_to h) (at_record i)
  record_link : {h i : ℕ} → h < i → FileBefore (at_record h) (link_to i)
  record_record : {h i : ℕ} → h < i → FileBefore (at_record h) (at_record i)
  link_rim : {i : ℕ} → FileBefore (link_to i) rim
  record_rim : {i : ℕ} → FileBefore (at_record i) rim

-- number j at one place comes before number k at another, and k is the first of the numbers that are due (rule 4.31)
abbrev pub Precedes : FilePlace → ℕ → FilePlace → ℕ → Type 0
Precedes = order.Precedes FileBefore

abbrev pub First : (FilePlace → ℕ → Type 0) → ℕ → Type 0
First = order.First FileBefore
