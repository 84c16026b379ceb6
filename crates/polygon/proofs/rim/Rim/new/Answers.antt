-- `polygon::rim::Rim::new` meets its contract. Assumes nothing.
use mathlib.Core.Path.{◌≡◌, sym, ◌∙◌}
use Rattle.std.specs.Prelude.{Result, Ok}
use Rattle.std.proofs.Common.{rules}
use Rattle.codes.specs.declared.Refusal.{Refusal}
use Rattle.codes.specs.Refusals.{or_refused}
use Rattle.codes.proofs.Refusals.{none_answered}
use Rattle.polygon.specs.declared.Polygon.{Polygon}
use Rattle.polygon.specs.Polygon.{code_of, ValidPolygon}
use Rattle.polygon.proofs.Validity.{code_valid}
use Rattle.polygon.proofs.rim.Rim.new.Goals as goal

-- what the check takes is valid
taken_valid : {A : Type 0} (p : Polygon) (r : Result A Refusal) (x a : A) → r ≡ Ok x → r ≡ or_refused (code_of p) a → ValidPolygon p
taken_valid p r x a taken e = code_valid p (none_answered (code_of p) (sym taken ∙ e)).0

pub invariant_of-result : goal.invariant_of-result
invariant_of-result c = record { valid = search (rules, taken_valid) }
