use Rattle.std.proofs.Common.{◌≡◌, drop, map}
use Rattle.petri_atom.specs.Atom.{definition_of}
use Rattle.plant_model.specs.Interaction.{interaction_of}
use Rattle.recorded_picks.specs.Choices.{mask_among}
use Rattle.recorded_picks.proofs.choice.mask_among.Given as goal

abbrev pub invariant-loop-interaction : goal.invariant-loop-interaction
invariant-loop-interaction l =
    mask_among (map definition_of l.atoms) (map interaction_of (drop l.interaction-index l.interactions)) l.connector l.moves
    ≡ mask_among (map definition_of l.atoms) (map interaction_of l.interactions) l.connector l.moves
