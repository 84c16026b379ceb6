-- `reader::read_within` meets its contract. Assumes nothing.
use mathlib.Core.Path.{sym, ap, ◌∙◌}
use native.Mathlib.Omega.{arith}
use Rattle.std.proofs.lemmas.Result.{err_from_is_err_and}
use Rattle.rim_file.proofs.Lengths.{whole}
use Rattle.reader.specs.declared.Chain.{Chain}
use Rattle.reader.proofs.Answers.{answer_refused, answer_complete, length_due, area_due, chain_refused, few_due}
use Rattle.reader.proofs.Answers.{repeated_due, none_due, followed, followed_none, followed_within, repeated_as_found, limit_most}
use Rattle.reader.proofs.read_within.Goals as goal

pub returns-then-length_wrong : goal.returns-then-length_wrong
returns-then-length_wrong c = answer_refused _ _ 1 (omega arith) (length_due _ _ c.requires (sym c.length_wrong.ensures ∙ c.if-length_wrong.true))

pub area_factor-area_factor-requires : goal.area_factor-area_factor-requires
area_factor-area_factor-requires c = (whole _ (sym c.length_wrong.ensures ∙ c.if-length_wrong.false)).header

pub returns-then-area_factor-gt-MAX_AREA_FACTOR : goal.returns-then-area_factor-gt-MAX_AREA_FACTOR
returns-then-area_factor-gt-MAX_AREA_FACTOR c =
    answer_refused _ _ 2 (omega arith)
    (area_due _ _ c.requires (sym c.length_wrong.ensures ∙ c.if-length_wrong.false)
    (omega (arith, c.area_factor-area_factor.ensures, c.if-area_factor-gt-MAX_AREA_FACTOR.true)))

pub returns-in_err-n : goal.returns-in_err-n
returns-in_err-n c =
    let p = err_from_is_err_and c.from_residual.result c.from_residual.ensures.1 in
    rw (p.1, p.2)
    (chain_refused _ _ c.requires (sym c.length_wrong.ensures ∙ c.if-length_wrong.false)
    (omega (arith, c.area_factor-area_factor.ensures, c.if-area_factor-gt-MAX_AREA_FACTOR.false)) c.in_err-n.ensures)

pub returns-then-n-lt-MIN_VERTICES : goal.returns-then-n-lt-MIN_VERTICES
returns-then-n-lt-MIN_VERTICES c =
    answer_refused _ _ 10 (omega arith)
    (few_due _ _ c.requires (sym c.length_wrong.ensures ∙ c.if-length_wrong.false)
    (omega (arith, c.area_factor-area_factor.ensures, c.if-area_factor-gt-MAX_AREA_FACTOR.false))
    (followed_none _ _ c.in_ok-n.ensures)
    (omega (arith, ap (λ (x : Chain). x.n) (followed _ _ c.in_ok-n.ensures), c.if-n-lt-MIN_VERTICES.true)))

pub has_repeated_vertex-requires : goal.has_repeated_vertex-requires
has_repeated_vertex-requires c = followed_within _ _ c.in_ok-n.ensures (limit_most _ c.requires)

pub returns-then-has_repeated_vertex : goal.returns-then-has_repeated_vertex
returns-then-has_repeated_vertex c =
    answer_refused _ _ 11 (omega arith)
    (repeated_due _ _ c.requires (sym c.length_wrong.ensures ∙ c.if-length_wrong.false)
    (omega (arith, c.area_factor-area_factor.ensures, c.if-area_factor-gt-MAX_AREA_FACTOR.false))
    (followed_none _ _ c.in_ok-n.ensures)
    (omega (arith, ap (λ (x : Chain). x.n) (followed _ _ c.in_ok-n.ensures), c.if-n-lt-MIN_VERTICES.false))
    (repeated_as_found _ _ c.in_ok-n.ensures c.has_repeated_vertex.ensures ∙ c.if-has_repeated_vertex.true))

pub bend_factor-requires : goal.bend_factor-requires
bend_factor-requires c = (whole _ (sym c.length_wrong.ensures ∙ c.if-length_wrong.false)).header

pub returns : goal.returns
returns c =
    answer_complete _ _
    (none_due _ _ c.requires (sym c.length_wrong.ensures ∙ c.if-length_wrong.false)
    (omega (arith, c.area_factor-area_factor.ensures, c.if-area_factor-gt-MAX_AREA_FACTOR.false))
    (followed_none _ _ c.in_ok-n.ensures)
    (omega (arith, ap (λ (x : Chain). x.n) (followed _ _ c.in_ok-n.ensures), c.if-n-lt-MIN_VERTICES.false))
    (repeated_as_found _ _ c.in_ok-n.ensures c.has_repeated_vertex.ensures ∙ c.if-has_repeated_vertex.false))
    (followed _ _ c.in_ok-n.ensures) c.area_factor-area_factor.ensures c.bend_factor.ensures
