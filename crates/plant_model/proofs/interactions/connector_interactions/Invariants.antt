use Rattle.std.proofs.Common.{◌≡◌, map, take}
use Rattle.plant_model.specs.Choice as choice
use Rattle.plant_model.specs.Interaction.{interaction_of}
use Rattle.plant_model.proofs.interactions.connector_interactions.Given as goal

abbrev pub invariant-loop-mask : goal.invariant-loop-mask
invariant-loop-mask l =
    map interaction_of l.all.items ≡ map (choice.interaction_by l.atoms l.number l.leaves.items) (take l.mask-index l.mask-items)
