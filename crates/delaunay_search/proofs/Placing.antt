-- What the position of a vertex tells: whether it is strictly inside, and whether it is on the border. Assumes nothing.
use mathlib.Core.Path.{◌≡◌, refl, sym, ◌∙◌, ap}
use mathlib.Core.Bool.{Bool, true, false, not, cond}
use denote.Enum.Bare.{sameb}
use Rattle.geometry.specs.declared.sphere.Position.{Position}
use Rattle.geometry.specs.declared.sphere.Position.TheVariants.{Inside, On, Outside}
use Rattle.geometry.specs.Facets.{is_inside}
use Rattle.geometry.specs.contracts.sphere.Position.{the_type}
use Rattle.lists.specs.Lists.{both}
use Rattle.lists.proofs.Choice.{true_not_false, not_true_false}
use Rattle.delaunay_search.specs.Search.{is_on}

pub record Placed (place : Position) (inside on : Bool) : Type 0 where
  pub when_inside : place ≡ Inside → inside ≡ true
  pub when_clear : (place ≡ Inside → ⊥) → inside ≡ false
  pub when_on : inside ≡ false → is_on place ≡ on

pub placed : (place : Position) (i o : Bool) → place ≡ cond i Inside (cond o On Outside) → Placed place i o
placed place i o e = record {
  when_inside = λ h. sym (inside_is i o) ∙ ap is_inside (sym e ∙ h);
  when_clear = λ h. not_true_false i (λ t. h (e ∙ ap (λ (b : Bool). cond b Inside (cond o On Outside)) t));
  when_on = λ h. ap is_on (e ∙ ap (λ (b : Bool). cond b Inside (cond o On Outside)) h) ∙ on_is o;
}
  where
    inside_is : (i o : Bool) → is_inside (cond i Inside (cond o On Outside)) ≡ i
    inside_is true o = refl
    inside_is false true = refl
    inside_is false false = refl

    on_is : (o : Bool) → is_on (cond o On Outside) ≡ o
    on_is true = refl
    on_is false = refl

-- whether one that is not inside is another on the border, and no corner
pub other_is : (corner : Bool) {place : Position} {i o found : Bool} → Placed place i o → (i ≡ true → ⊥) → found ≡ both (not corner) (is_on place) →
    both (not corner) o ≡ found
other_is corner {i = i} p clear g = sym (g ∙ ap (λ (t : Bool). both (not corner) t) (p.when_on (not_true_false i clear)))

-- what `==` says of a position
pub is_inside_lem : (place : Position) → sameb the_type place Inside ≡ true → place ≡ Inside
is_inside_lem Inside e = refl
is_inside_lem On e = absurd (true_not_false e refl)
is_inside_lem Outside e = absurd (true_not_false e refl)

pub not_inside_lem : (place : Position) → sameb the_type place Inside ≡ false → place ≡ Inside → ⊥
not_inside_lem place e h = true_not_false (ap (λ (q : Position). sameb the_type q Inside) h) e
