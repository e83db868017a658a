use Rattle.plant_model.specs.Choice as choice
use Rattle.plant_model.specs.declared.interaction.Interaction.{Interaction}

-- an interaction as it is kept
abbrev pub interaction_of : Interaction → choice.Interaction
interaction_of i = record { connector = i.connector; mask = i.mask; ports = i.ports.items }
