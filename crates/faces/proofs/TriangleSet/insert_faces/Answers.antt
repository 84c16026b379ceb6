-- `faces::TriangleSet::insert_faces` meets its contract. Assumes nothing.
use Rattle.faces.proofs.Sets.{faces_joined}
use Rattle.faces.proofs.TriangleSet.insert_faces.Goals as goal

pub returns-clause-triangles : goal.returns-clause-triangles
returns-clause-triangles c =
    faces_joined c.args.a c.args.b c.args.c c.args.d c.insert.ensures.triangles c.insert-2.ensures.triangles
    c.insert-3.ensures.triangles c.insert-4.ensures.triangles
