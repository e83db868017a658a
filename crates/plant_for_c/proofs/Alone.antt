-- A fire to which no value comes in.
use Rattle.std.proofs.Common.{◌≡◌, subst, ℕ, ℤ, List, [], Result}
use Rattle.plant_model.specs.Plant.{PlantDefinition}
use Rattle.plant_core.specs.Events.{IsFire}
use Rattle.plant_core.specs.View.{View}
use Rattle.plant_core.specs.declared.events.FiredAs.{FiredAs}
use Rattle.plant_core.specs.declared.refused.Refused.{Refused}

pub fired-alone : (plant : PlantDefinition) (v w : View) (place : ℕ) (values : List ℤ) (answer : Result FiredAs Refused) → values ≡ [] → IsFire plant v place values answer w → IsFire plant v place [] answer w
fired-alone plant v w place values answer none fired = subst (λ (given : List ℤ). IsFire plant v place given answer w) none fired
