use Rattle.std.proofs.Common.{refl}
use Rattle.std.proofs.lemmas.List.{length-map}
use Rattle.petri_atom.specs.Definition.{exports_few, is_small_transition}
use Rattle.petri_atom.specs.Parts.{port_of}
use Rattle.petri_atom.specs.Transition.{transition_of}
use Rattle.petri_atom.proofs.Lists.{list_all-map, both}
use Rattle.petri_atom.proofs.rules.is_within_limits.Goals as goal

pub returns : goal.returns
returns c =
    rw (length-map c.args.ports.now port_of, length-map c.args.transitions.now transition_of, list_all-map exports_few port_of c.args.ports.now, list_all-map is_small_transition transition_of c.args.transitions.now)
    (both (both refl c.export_few.ensures) c.are_small.ensures)
