use Rattle.std.proofs.Common.{◌∙◌}
use Rattle.petri_atom.specs.Atom.{definition_of}
use Rattle.plant_image.proofs.SavedFits.{saved_fits}
use Rattle.plant_image.proofs.replaying.replay_saved.Goals as goal

pub replay_atom-requires-clause-fits : goal.replay_atom-requires-clause-fits
replay_atom-requires-clause-fits c =
    saved_fits c.args.number (definition_of c.args.atom.now) c.args.saved.now c.with-state.result
    (c.with-state.ensures.marking ∙ c.marking.ensures) (c.with-state.ensures.values ∙ c.values.ensures.values) c.requires.of_atom
