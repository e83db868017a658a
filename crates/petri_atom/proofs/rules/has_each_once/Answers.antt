use Rattle.petri_atom.specs.Name.{is_same_text}
use Rattle.petri_atom.specs.Definition.{exports_once, has_each_place_once}
use Rattle.petri_atom.specs.Parts.{port_of}
use Rattle.petri_atom.specs.Transition.{transition_of}
use Rattle.petri_atom.proofs.Lists.{list_all-map, is_each_once-map, both}
use Rattle.petri_atom.proofs.rules.has_each_once.Goals as goal

pub returns : goal.returns
returns c =
    rw (is_each_once-map (λ x y. is_same_text x.name y.name) port_of c.args.ports.now, list_all-map exports_once port_of c.args.ports.now, list_all-map has_each_place_once transition_of c.args.transitions.now)
    (both (both (both (both c.names_stand_once.ensures c.names_stand_once-2.ensures) c.names_stand_once-3.ensures) c.export_once.ensures) c.have_each_place_once.ensures)
