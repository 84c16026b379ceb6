-- `patch_program::run` meets its contract. Assumes nothing.
use mathlib.Core.Path.{ap}
use Rattle.patch_program.specs.declared.Printout.{Printout}
use Rattle.patch_program.specs.Printing.{printout_of}
use Rattle.patch_program.proofs.run.Goals as goal

pub returns : goal.returns
unfolding printout_of
returns g c = ap (λ (x : Printout). x.outcome) c.printout_of-printout.ensures
