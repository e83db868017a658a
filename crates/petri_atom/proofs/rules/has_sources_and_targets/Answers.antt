use Rattle.std.proofs.Common.{◌∙◌, sym}
use Rattle.petri_atom.specs.Definition.{has_source_and_target}
use Rattle.petri_atom.specs.Transition.{transition_of}
use Rattle.petri_atom.proofs.Lists.{list_all-map}
use Rattle.petri_atom.proofs.rules.has_sources_and_targets.Goals as goal

pub returns : goal.returns
returns c =
    c.each_has_source_and_target.ensures ∙ sym (list_all-map has_source_and_target transition_of c.args.transitions.now)
