-- What is fired where no value comes in.
use Rattle.std.specs.Prelude.{◌≡◌, ℕ, List, [], ◌∷◌}
use Rattle.petri_atom.specs.Local.{Local}
use Rattle.plant_model.specs.Plant.{PlantDefinition}
use Rattle.plant_model.specs.Choice.{ChoiceDefinition, IsAllowed}
use Rattle.plant_model.specs.Firing.{FiringDefinition, firing_by, inputs_at}
use Rattle.plant_model.specs.Step.{next}

-- the firing of a choice to which no value comes in
abbrev pub alone : ChoiceDefinition → FiringDefinition
alone c = firing_by c []

-- no connector of the plant has an input
abbrev pub HasNoInputs : PlantDefinition → Type 0
HasNoInputs plant = (n : ℕ) → inputs_at plant n ≡ []

-- the choices are allowed in turn, from a state on: each in the state to which those before it lead
abbrev pub AreAllowedInTurn : PlantDefinition → List Local → List ChoiceDefinition → Type 0
AreAllowedInTurn plant states [] = Unit {0}
AreAllowedInTurn plant states (c ∷ cs) = IsAllowed plant states c × AreAllowedInTurn plant (next plant states (alone c)) cs
