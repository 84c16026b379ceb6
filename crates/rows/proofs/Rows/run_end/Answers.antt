-- `rows::Rows::run_end` meets its contract. Assumes nothing.
use Rattle.std.proofs.Common.{rules, ap, drop, ◌-◌, length-drop, take_all, ◌∙◌, ◌+◌, ◌≤◌, arith, length}
use Rattle.std.specs.List.{prefix_len}
use Rattle.rows.specs.Search.{row_is_before}
use Rattle.rows.proofs.Bisection.{cut_of}
use Rattle.rows.proofs.Runs.{run_count}
use Rattle.rows.proofs.Rows.run_end.Goals as goal

pub offset_bounds-self-start : goal.offset_bounds-self-start
offset_bounds-self-start c =
    let h : c.args.start ≤ length c.args.self.now.rows.now = omega (arith, (cut_of _ _ _ c.args.self.now.ascend c.requires.0).within) in search rules

pub slice_bounds-run_length-count : goal.slice_bounds-run_length-count
slice_bounds-run_length-count c = (cut_of _ _ _ c.args.self.now.ascend c.requires.0).within

pub slice_bounds-run_length-start : goal.slice_bounds-run_length-start
slice_bounds-run_length-start c =
    let h : c.args.start ≤ length c.args.self.now.rows.now = omega (arith, (cut_of _ _ _ c.args.self.now.ascend c.requires.0).within) in search rules

pub returns : goal.returns
returns c =
    let start = c.args.start in
    let l = c.args.self.now.rows.now in
    let all : length (drop start l) ≤ length l - start = omega (arith, length-drop start l) in
    ap (λ n. start + n) (c.run_length.ensures.value ∙ ap (prefix_len (λ r. row_is_before r (c.args.outer + 1) 0)) (take_all _ _ all))
    ∙ run_count l _ _ c.args.self.now.ascend c.requires.0
