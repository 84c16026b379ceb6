-- `triangulator::solver::solve` meets its contract, step by step. Assumes nothing.
use Rattle.std.proofs.Common.{None}
use mathlib.Core.Path.{◌≡◌, sym, ap, ◌∙◌}
use mathlib.Core.Logic.{inl, inr}
use native.Mathlib.Omega.{arith}
use Rattle.jobs.specs.Job.{job_in}
use Rattle.triangulation.specs.Triangulations.{best_key}
use Rattle.triangulation.specs.Problems.{problem_of}
use Rattle.blocks.proofs.Starts.{starts_of_lem}
use Rattle.minimum_weight.proofs.Answer.{without_key, with_key, key_light}
use Rattle.minimum_weight.proofs.Filling.{filled_long, filled_ready, cleared}
use Rattle.triangulator.specs.Steps.{lists}
use Rattle.triangulator.proofs.Settling.{listed, not_listed}
use Rattle.triangulator.proofs.solver.solve.Goals.{in-Some+then-is_listed, in_default, in_default-via-in-None-1, in_default-via-in-Some+else-is_listed}
use Rattle.triangulator.proofs.solver.solve.Goals as goal

pub invariant_of-instance : goal.invariant_of-instance
invariant_of-instance c =
    let ok = c.requires.0 in record {
      well_formed = ok;
      blocks = starts_of_lem _ ok.ascending.by_first c.block_starts-starts.ensures;
    }

pub write_preorder-requires : goal.write_preorder-requires
write_preorder-requires c =
    let e = c.least_total-least.ensures in record {
      places = (omega (arith, c.requires.1, filled_long _ _ c.requires.1 e.work), c.requires.2);
      all_ready = (filled_ready _ _ c.requires.1 e.work, key_light _ _ _ _ c.requires.0 (sym c.in-Some.is ∙ e.total));
    }

pub returns : goal.returns
returns c =
    let s = c.args in
    let e = c.least_total-least.ensures in
    let key = best_key (problem_of (job_in s.job.now)) in record {
      total = elim c.match-least.branch [
        | in-Some+then-is_listed w ↦ w.least-is ∙ sym w.in-Some.is ∙ e.total
        | in_default w ↦ w.least-is ∙ elim w.in_default.branch [
          | in_default-via-in-None-1 x ↦ x.least-is ∙ e.total
          | in_default-via-in-Some+else-is_listed x ↦ x.least-is ∙ sym x.in-Some.is ∙ e.total
        ]
      ];
      triangles = elim c.match-least.branch [
        | in-Some+then-is_listed w ↦
            w.triangles-is ∙ w.write_preorder.ensures ∙ listed s.agreed key s.triangles.now
            (ap (lists s.agreed) (sym (with_key key (sym w.in-Some.is ∙ e.total))) ∙ sym w.is_listed.ensures ∙ w.if-is_listed.true)
        | in_default w ↦
            w.triangles-is ∙ not_listed s.agreed key s.triangles.now (elim w.in_default.branch [
              | in_default-via-in-None-1 x ↦ inl (let none : None ≡ c.least_total-least.result = cc in without_key key (none ∙ e.total))
              | in_default-via-in-Some+else-is_listed x ↦
                  inr (ap (lists s.agreed) (sym (with_key key (sym x.in-Some.is ∙ e.total))) ∙ sym x.is_listed.ensures ∙ x.if-is_listed.false)
            ])
      ];
      work = cleared _ s.work.now e.work c.clear.ensures;
    }
