-- Why nothing is fired any more in a state.
use Rattle.std.specs.Prelude.{Bool, List, length, nat_lt}
use Rattle.petri_atom.specs.Local.{Local}
use Rattle.plant_model.specs.Plant.{PlantDefinition}
use Rattle.plant_model.specs.Choice.{choices}

-- A state from which nothing is fired any more is so by the weights of a random pick if it has a choice: the weights leave none then. Else it has none.
abbrev pub is_by_weights : PlantDefinition → List Local → Bool
is_by_weights plant states = nat_lt 0 (length (choices plant states))
