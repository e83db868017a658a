use Rattle.std.proofs.Common.{◌∙◌, sym, ap, length, map}
use Rattle.std.specs.List.{list_all}
use Rattle.std.proofs.lemmas.List.{length-map}
use Rattle.petri_atom.specs.Definition.{exports_known, has_known_numbers_in}
use Rattle.petri_atom.specs.Parts.{port_of}
use Rattle.petri_atom.specs.Transition.{transition_of}
use Rattle.petri_atom.proofs.Lists.{list_all-map, both}
use Rattle.petri_atom.proofs.rules.has_known_numbers.Goals as goal

pub returns : goal.returns
returns c =
    let places = length c.args.places.now in
    let variables = length c.args.variables.now in
    let ports = c.args.ports.now in
    let transitions = c.args.transitions.now in
    both (c.export_known.ensures ∙ sym (list_all-map (exports_known variables) port_of ports))
    (c.have_known_numbers.ensures ∙ sym (list_all-map (has_known_numbers_in (length ports) places variables) transition_of transitions) ∙ ap (λ n. list_all (has_known_numbers_in n places variables) (map transition_of transitions)) (sym (length-map ports port_of)))
