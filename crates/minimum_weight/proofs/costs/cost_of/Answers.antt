-- `minimum_weight::costs::cost_of` meets its contract. Assumes nothing.
use native.Mathlib.Omega.{arith}
use Rattle.minimum_weight.proofs.Edges.{found_cost, root_cost}
use Rattle.minimum_weight.proofs.Runs.{found_in_run}
use Rattle.minimum_weight.proofs.costs.cost_of.Goals as goal

pub best_under-left-requires : goal.best_under-left-requires
best_under-left-requires c =
    let s = c in
    let ok = s.args.instance.now.well_formed in
    let v = ok.valid in
    let h = s.requires.well_formed.1 in (
      rw c.blocked-blocked.ensures.0 s.requires.well_formed.0,
      v.ab s.args.t h,
      omega (arith, v.bc s.args.t h, v.cn s.args.t h, ok.bounded.few),
    )

pub best_under-right-requires : goal.best_under-right-requires
best_under-right-requires c =
    let s = c in
    let ok = s.args.instance.now.well_formed in
    let v = ok.valid in
    let h = s.requires.well_formed.1 in
    (rw c.blocked-blocked.ensures.0 s.requires.well_formed.0, v.bc s.args.t h, omega (arith, v.cn s.args.t h, ok.bounded.few))

pub join_cost-requires : goal.join_cost-requires
join_cost-requires c =
    let s = c in
    let ok = s.args.instance.now.well_formed in
    let v = ok.valid in
    let h = s.requires.well_formed.1 in (
      found_cost _ v ok.bounded s.args.t _ _ _ (v.ab s.args.t h) (omega (arith, v.bc s.args.t h, v.cn s.args.t h))
          (found_in_run s.args.instance.now.job.n _ _ _ ok s.args.work.now s.args.t _ _ s.requires.well_formed.2 s.requires.ready_beneath.0
          c.best_under-left.result (rw c.blocked-blocked.ensures.0 at c.best_under-left.ensures)),
      found_cost _ v ok.bounded s.args.t _ _ _ (v.bc s.args.t h) (v.cn s.args.t h) (found_in_run s.args.instance.now.job.n _ _ _ ok
          s.args.work.now s.args.t _ _ s.requires.well_formed.2 s.requires.ready_beneath.1 c.best_under-right.result
          (rw c.blocked-blocked.ensures.0 at c.best_under-right.ensures)),
    )

pub returns : goal.returns
returns c =
    let s = c in
    let ok = s.args.instance.now.well_formed in
    let v = ok.valid in
    let h = s.requires.well_formed.1 in
    root_cost _ v ok.bounded s.args.t _ _ _ h (found_in_run s.args.instance.now.job.n _ _ _ ok s.args.work.now s.args.t _ _
    s.requires.well_formed.2 s.requires.ready_beneath.0 c.best_under-left.result (rw c.blocked-blocked.ensures.0 at c.best_under-left.ensures)).cost
    (found_in_run s.args.instance.now.job.n _ _ _ ok s.args.work.now s.args.t _ _ s.requires.well_formed.2 s.requires.ready_beneath.1
    c.best_under-right.result (rw c.blocked-blocked.ensures.0 at c.best_under-right.ensures)).cost c.join_cost.ensures
