-- `rim_file::file::RimFile::normal_at` meets its contract. Assumes nothing.
use mathlib.Core.Path.{sym, ◌∙◌}
use native.Mathlib.Omega.{arith}
use mir.Syntax.{w16}
use mir.Facts.{to_z-of_z}
use Rattle.polygon.specs.Normal.{normal}
use Rattle.rim_file.proofs.Layouts.{is_one, is_two, size_2}
use Rattle.rim_file.proofs.Normals.{normal_1, normal_2}
use Rattle.rim_file.proofs.file.RimFile.normal_at.Goals as goal

pub i16_at-requires : goal.i16_at-requires
i16_at-requires c = omega (arith, size_2 c.args.self.now.bytes.now (is_two c.args.self.now.bytes.now c.args.self.now.edition_is c.in-Two.is))

pub i16_at-requires-in-Two : goal.i16_at-requires-in-Two
i16_at-requires-in-Two c = omega (arith, size_2 c.args.self.now.bytes.now (is_two c.args.self.now.bytes.now c.args.self.now.edition_is c.in-Two.is))

pub i16_at-requires-in-Two-2 : goal.i16_at-requires-in-Two-2
i16_at-requires-in-Two-2 c = omega (arith, size_2 c.args.self.now.bytes.now (is_two c.args.self.now.bytes.now c.args.self.now.edition_is c.in-Two.is))

pub returns-in-One : goal.returns-in-One
returns-in-One c =
    c.none.ensures ∙ sym (normal_1 c.args.self.now.bytes.now c.args.at (is_one c.args.self.now.bytes.now c.args.self.now.edition_is c.in-One.is))

pub returns-in-Two : goal.returns-in-Two
returns-in-Two c =
    let s = c.args.self.now.bytes.now in
    let x = to_z-of_z {w = w16} (record { sfits = c.i16_at.type_inv }) ∙ c.i16_at.ensures in
    let y = to_z-of_z {w = w16} (record { sfits = c.i16_at-in-Two.type_inv }) ∙ c.i16_at-in-Two.ensures in
    let z = to_z-of_z {w = w16} (record { sfits = c.i16_at-in-Two-2.type_inv }) ∙ c.i16_at-in-Two-2.ensures in
    (λ i. normal (x i) (y i) (z i)) ∙ sym (normal_2 s c.args.at (is_two s c.args.self.now.edition_is c.in-Two.is))
