use Rattle.std.specs.Prelude.{ℕ, List, map}
use Rattle.plant_model.specs.Choice.{Interaction}
use Rattle.plant_model.specs.Interaction.{interaction_of}
use Rattle.plant_model.specs.Plant.{PlantDefinition}
use Rattle.plant_model.specs.Made.{plant_by}
use Rattle.plant_model.specs.declared.system.System.{System}

-- a system as its plant was written
abbrev pub plant_of : System → PlantDefinition
plant_of s = plant_by s.atoms.items s.wires.items s.order.rules

-- the digest of the text that it was read from
abbrev pub digest_of : System → List ℕ
digest_of s = s.digest

-- its interactions, as they are kept
abbrev pub interactions_in : System → List Interaction
interactions_in s = map interaction_of s.interactions.items
