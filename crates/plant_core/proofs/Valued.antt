-- When a fire is refused for its values.
use Rattle.std.proofs.Common.{◌≡◌, ◌%◌, ℕ, ℤ, refl, sym, ◌∙◌, ap, subst, List, [], ◌∷◌, length, Bool, true, false, Option, None, Some, Err}
use Rattle.std.specs.Prelude.{not, slice_get}
use Rattle.std.specs.Option.{option_map_or}
use Rattle.std.proofs.lemmas.Option.{none-some, same_Some}
use Rattle.plant_model.specs.Choice.{ChoiceDefinition}
use Rattle.plant_model.specs.Firing.{firing_by, has_its_inputs}
use Rattle.plant_model.specs.Plant.{PlantDefinition}
use Rattle.plant_core.specs.Events.{fire_refusal, firing_refusal, first_refusal, is_disk, refused_where, takes_others}
use Rattle.plant_core.specs.View.{View, sure_in}
use Rattle.plant_core.specs.declared.events.FiredAs.{FiredAs}
use Rattle.plant_core.specs.declared.refused.Refused.{Refused}
use Rattle.plant_core.specs.declared.refused.Refused.TheVariants.{Values}

-- a first refusal, and then that of the values
none-of-both : (first : Option Refused) (comes : Bool) → first_refusal (first ∷ refused_where (not comes) Values ∷ []) ≡ None → comes ≡ true
none-of-both (Some refused) comes none = absurd (none-some refused (sym none))
none-of-both None true none = refl
none-of-both None false none = absurd (none-some Values (sym none))

-- neither of them says that the device failed, if the first does not
pub one-of-both : (first : Option Refused) (others : Bool) (refused : Refused) → (first ≡ Some refused → is_disk {X = FiredAs} (Err refused) ≡ false) → first_refusal (first ∷ refused_where others Values ∷ []) ≡ Some refused → is_disk {X = FiredAs} (Err refused) ≡ false
one-of-both (Some told) others refused none is = none is
one-of-both None true refused none is = subst (λ r. is_disk {X = FiredAs} (Err r) ≡ false) (same_Some Values refused is) refl
one-of-both None false refused none is = absurd (none-some refused is)

-- where a fire was not refused its values may come in at the choice at the place of its pick
pub values-come : (plant : PlantDefinition) (v : View) (pick : ℕ) (values : List ℤ) (c : ChoiceDefinition) → firing_refusal plant v pick values ≡ None → slice_get (sure_in plant v) (pick % length (sure_in plant v)) ≡ Some c → has_its_inputs plant (firing_by c values) ≡ true
values-come plant v pick values c none there =
    let others : takes_others plant v pick values ≡ not (has_its_inputs plant (firing_by c values)) =
    ap (λ o. option_map_or (λ d. not (has_its_inputs plant (firing_by d values))) o false) there in
    none-of-both (fire_refusal plant v) (has_its_inputs plant (firing_by c values))
    (ap (λ b. first_refusal (fire_refusal plant v ∷ refused_where b Values ∷ [])) (sym others) ∙ none)
