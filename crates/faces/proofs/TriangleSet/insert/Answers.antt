-- `faces::TriangleSet::insert` meets its contract. Assumes nothing.
use Rattle.faces.proofs.Sets.{triple_joined}
use Rattle.faces.proofs.TriangleSet.insert.Goals as goal

pub returns-clause-triangles : goal.returns-clause-triangles
returns-clause-triangles c = rw (← c.self.view_is) (triple_joined c.args.c c.self.told c.requires.0 c.requires.1 cc)
