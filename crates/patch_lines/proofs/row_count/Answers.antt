-- `patch_lines::row_count` meets its contract. Assumes nothing.
use Rattle.std.proofs.Common.{◌≡◌, sym, ◌∙◌, true, false, arith, rules}
use Rattle.std.proofs.lemmas.Iterator.{IsFirst-from_position, YieldsList-from_slice}
use borrow.Author.Tests.{tests}
use Rattle.patch_lines.proofs.Counting.{same_ends, count_is, count_within, first_or_length}
use Rattle.std.specs.List.{position_or_len}
use Rattle.patch_lines.proofs.row_count.Goals as goal

pub returns : goal.returns
returns c =
    let rows = c.args.rows.now in
    let first = IsFirst-from_position _ _ c.position.result (λ r. same_ends r ≡ true) (λ r. same_ends r ≡ false) c.position.ensures.ran
    (YieldsList-from_slice rows cc) (λ x q k. search (rules, tests)) (λ x q k. search (rules, tests)) in
    let e : c.unwrap_or.result ≡ position_or_len same_ends rows = c.unwrap_or.ensures ∙ first_or_length same_ends rows c.position.result first in
    (e ∙ sym (count_is rows), omega (arith, e, count_within rows))
