-- What is known of a choice that was fired, once the plant is in the state after it.
use Rattle.std.specs.Prelude.{◌≡◌, List}
use Rattle.petri_atom.specs.Local.{Local}
use Rattle.plant_model.specs.Chosen.{choice_of}
use Rattle.plant_model.specs.Delivery.{IsDelivered}
use Rattle.plant_model.specs.Fitting.{IsOf}
use Rattle.plant_model.specs.Plant.{PlantDefinition}
use Rattle.plant_model.specs.Step.{next, transfer}
use Rattle.run_text.specs.Alone.{alone}
use Rattle.run_text.specs.declared.fired.Firing.{Firing}

-- the plant was in the one state, the choice was fired, and now it is in the other; the rows have what was delivered
pub record HasFired (plant : PlantDefinition) (before : List Local) (firing : Firing) (now : List Local) : Type 0 where
  pub of_plant : IsOf plant before
  pub after : now ≡ next plant before (alone (choice_of firing.choice.now))
  pub rows : IsDelivered firing.choice.now.moves (transfer plant before (alone (choice_of firing.choice.now))) firing.delivered.now
