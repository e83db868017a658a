-- What the sure choices are, by their parts.
use Rattle.std.specs.Prelude.{◌≡◌, ℕ, true, false, List, map, Option}
use Rattle.petri_atom.specs.Local.{Local}
use Rattle.priority_filter.specs.Order.{IsBelow}
use Rattle.plant_model.specs.Plant.{PlantDefinition}
use Rattle.plant_model.specs.Choice.{ChoiceDefinition, is_possible, named, plant_interactions}
use Rattle.plant_model.specs.Laws.{IsTaking}
use Rattle.step_core.specs.Parts.{may_count_in, shown_in}
use Rattle.step_core.specs.Sure.{is_whole, may_come}

-- each interaction above the one with a number, in the order of the rules that count or may, is ruled out
abbrev pub IsSurelyOnTop : PlantDefinition → List (Option Local) → ℕ → Type 0
IsSurelyOnTop plant parts number =
    (above : ℕ) → IsBelow (may_count_in plant parts) (map named (plant_interactions plant)) number above →
    may_come plant.atoms plant.wires parts (plant_interactions plant) above ≡ false

-- what a sure choice is: it takes up an interaction whose participants are all present and that is possible, and above which each is
-- ruled out
pub record IsSureChoiceOf (plant : PlantDefinition) (parts : List (Option Local)) (c : ChoiceDefinition) : Type 0 where
  pub number : ℕ
  pub takes : IsTaking plant (shown_in parts) number c
  pub whole : is_whole parts takes.interaction ≡ true
  pub possible : is_possible plant.atoms plant.wires (shown_in parts) takes.interaction ≡ true
  pub on_top : IsSurelyOnTop plant parts number
