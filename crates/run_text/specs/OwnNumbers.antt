-- The numbers of a connector's choices.
use Rattle.std.specs.Prelude.{◌≡◌, ℕ, ◌-◌, ◌≤◌, ◌==◌, if◌then◌else◌, List, [], ◌∷◌, length}
use Rattle.std.specs.List.{range_with_len}
use Rattle.petri_atom.specs.Local.{Local}
use Rattle.plant_model.specs.Plant.{PlantDefinition}
use Rattle.plant_model.specs.Choice.{ChoiceDefinition, choices}
use Rattle.text_io.specs.Numbered.{numbered}
use Rattle.run_text.specs.declared.own_numbers.OwnNumbers.{OwnNumbers}

-- the number of a choice, if it is of the connector
abbrev pub own_number : ℕ → ℕ → ChoiceDefinition → List ℕ
own_number connector number c = if c.connector == connector then number ∷ [] else []

-- the numbers of a connector's choices in the list of a state's choices
abbrev pub numbers_of : PlantDefinition → List Local → ℕ → List ℕ
numbers_of plant states connector = numbered (own_number connector) 0 (choices plant states)

-- the numbers of a connector's choices are those from the first on, up to the end
pub record AreOwn (plant : PlantDefinition) (states : List Local) (connector : ℕ) (own : OwnNumbers) : Type 0 where
  pub numbers : numbers_of plant states connector ≡ range_with_len own.first (own.end - own.first)
  pub there : own.end ≤ length (choices plant states)
