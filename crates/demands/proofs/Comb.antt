-- On the patch of a direct job as many parts wait at once as the stack has places: no shorter one would do (rule 3.12). Assumes nothing.
use Prim.Native.Nat.{◌-◌}
use mathlib.Core.Path.{◌≡◌, refl, ap, ◌∙◌}
use mathlib.Core.List.{[], ◌∷◌}
use lib.ListN.{length}
use Rattle.lists.specs.Lists.{every_from}
use Rattle.terms.specs.Limits.{max_vertices}
use Rattle.triangulation.specs.Triangulations.{patch, answer_of, best}
use Rattle.triangulation.specs.Recursion.{best_under}
use Rattle.preorder.specs.Preorder.{parts_after, most_parts}
use Rattle.minimum_weight.proofs.Answer.{answer_whole}
use Rattle.terms.specs.Entries.{before}
use Rattle.jobs.specs.Job.{job_of, job_code, lists_code, candidate_fits, ascends}
use Rattle.jobs.specs.Due.{Accepted}
use Rattle.jobs.proofs.Acceptance.{zero_accepted}
use Rattle.triangulator.proofs.Accepting.{accepted_well_formed}
use Rattle.demands.specs.Comb.{comb, ones, comb_job, comb_walk}

none_due : job_code (job_of max_vertices comb ones []) 62 62 ≡ 0
unfolding job_code lists_code every_from candidate_fits before ascends comb ones
none_due = refl

pub comb_accepted : Accepted (job_of max_vertices comb ones []) 62 62
comb_accepted = zero_accepted (job_of max_vertices comb ones []) 62 62 none_due

key : best_under comb_job max_vertices (length comb) 0 (max_vertices - 1) ≡ 62 ∷ comb_walk
unfolding best_under comb ones comb_walk
key = refl

pub comb_patch : best comb_job ≡ patch 62 comb_walk
comb_patch = ap answer_of (answer_whole max_vertices comb ones [] (accepted_well_formed (job_of max_vertices comb ones []) 62 62 none_due).0 ∙ key)

pub comb_waits : length (parts_after comb_job comb_walk 30) ≡ most_parts
unfolding parts_after comb ones comb_walk
comb_waits = refl
