-- `rows::Rows::lower_bound` meets its contract. Assumes nothing.
use Rattle.std.proofs.Common.{rules, of_calls, []}
use Rattle.std.proofs.lemmas.List.Sorted.{IsPartitionPoint-from_clause}
use Rattle.lists.proofs.Points.{partitioned, point_count}
use Rattle.rows.specs.Search.{row_is_before}
use Rattle.rows.proofs.Bisection.{before_trans}
use Rattle.rows.proofs.Rows.lower_bound.Goals as goal

pub returns : goal.returns
returns c =
    let o = c.args.outer in
    let i = c.args.inner in
    let l = c.args.self.now.rows.now in
    point_count (λ r. row_is_before r o i) l [] c.partition_point.ensures.bound
    (IsPartitionPoint-from_clause (λ r. row_is_before r o i) _ _ c.partition_point.ensures.partitioned
    (partitioned (λ r. row_is_before r o i) l [] (before_trans o i l c.args.self.now.ascend)) (λ a r f k. search (rules, of_calls)))
