-- What the functions of the two searches say to each other; nobody has to believe it.
use Rattle.std.specs.Prelude.{◌≡◌, Bool, true, false, cond, List, ℕ, zero, suc, ◌<◌, pos, length, get_or, Result}
use Rattle.terms.specs.Limits.{max_vertices}
use Rattle.codes.specs.declared.Refusal.{Refusal}
use Rattle.codes.specs.Refusals.{or_refused}
use Rattle.polygon.specs.declared.Polygon.{Polygon}
use Rattle.polygon.specs.Polygon.{vertex}
use Rattle.geometry.specs.declared.sphere.Lifted.{Lifted}
use Rattle.geometry.specs.declared.sphere.Position.{Position}
use Rattle.geometry.specs.declared.sphere.Position.TheVariants.{Inside, On, Outside}
use Rattle.geometry.specs.Lifting.{lift_of}
use Rattle.faces.specs.Masks.{empty_set, Joined}

abbrev pub is_on : Position → Bool
is_on Inside = false
is_on On = true
is_on Outside = false

abbrev pub unlifted : Lifted
unlifted = record { vector = record { x = pos 0; y = pos 0; z = pos 0 }; square = pos 0 }

-- the vertices as seen from vertex a
pub record Lifts (p : Polygon) (a : ℕ) (lifted : List Lifted) : Type 0 where
  pub long : length lifted ≡ max_vertices
  pub at : (v : ℕ) → v < p.n → get_or lifted v unlifted ≡ lift_of (vertex p a) (vertex p v)

-- the vertex to look at in turn i of a scan: the one that dropped the last four or three, then all in their order
abbrev pub scanned_at : ℕ → ℕ → ℕ
scanned_at last zero = last
scanned_at last (suc i) = i

-- what a search answers: the refusal 12 where it is due (rule 4.12)
abbrev pub twelve_if : Bool → Result (Unit {0}) Refusal
twelve_if due = or_refused (cond due 12 0) tt

-- the triples for which a test holds were put into the set; where something was found that makes 12 due, some of them
pub record Put (test : ℕ → ℕ → ℕ → Bool) (twelve : Bool) (before : List ℕ) (answer : Result (Unit {0}) Refusal) (after : List ℕ) : Type 0 where
  pub found : answer ≡ twelve_if twelve
  pub put : twelve ≡ false → Joined before test after

-- the same, and where 12 is due, the set is empty
pub record Marked (test : ℕ → ℕ → ℕ → Bool) (twelve : Bool) (before : List ℕ) (answer : Result (Unit {0}) Refusal) (after : List ℕ) : Type 0 where
  pub searched : Put test twelve before answer after
  pub empty : twelve ≡ true → after ≡ empty_set
