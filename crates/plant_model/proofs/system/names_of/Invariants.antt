use Rattle.std.proofs.Common.{◌≡◌, map, take}
use Rattle.plant_model.specs.Choice.{named}
use Rattle.plant_model.specs.Interaction.{interaction_of}
use Rattle.plant_model.proofs.system.names_of.Given as goal

abbrev pub invariant-loop-interaction : goal.invariant-loop-interaction
invariant-loop-interaction l =
    l.names.items ≡ map named (map interaction_of (take l.interaction-index l.interactions))
