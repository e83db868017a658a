use Rattle.std.proofs.Common.{◌≡◌, drop, map}
use Rattle.plant_model.specs.Interaction.{interaction_of}
use Rattle.plant_model.specs.Lookup.{mask_of}
use Rattle.plant_model.proofs.lookup.mask_among.Given as goal

abbrev pub invariant-loop-interaction : goal.invariant-loop-interaction
invariant-loop-interaction l =
    mask_of (map interaction_of (drop l.interaction-index l.interactions)) l.connector l.atoms ≡ mask_of (map interaction_of l.interactions) l.connector l.atoms
