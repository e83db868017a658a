use Rattle.atom_lines.specs.Draft.{drafted}
use Rattle.atom_lines.specs.Rows.{place_row, variable_row, port_row}
use Rattle.atom_lines.specs.Transitions.{transition_row}
use Rattle.atom_lines.proofs.Growing.{place_grows, variable_grows, port_grows, transition_grows}
use Rattle.plant_text.proofs.Indexed.{same_name_after}
use Rattle.plant_text.proofs.parts.change_atom.Goals as goal

pub returns-in-Place-clause-same_name : goal.returns-in-Place-clause-same_name
returns-in-Place-clause-same_name c =
    let before = drafted c.args.atom.now in
    let grown = drafted c.add_place.new.self in
    same_name_after (place_row c.args.words.now before) before grown c.add_place.result c.add_place.ensures.added c.add_place.ensures.unchanged
    (place_grows c.args.words.now before grown)

pub returns-in-Variable-clause-same_name : goal.returns-in-Variable-clause-same_name
returns-in-Variable-clause-same_name c =
    let before = drafted c.args.atom.now in
    let grown = drafted c.add_variable.new.self in
    same_name_after (variable_row c.args.words.now before) before grown c.add_variable.result c.add_variable.ensures.added c.add_variable.ensures.unchanged
    (variable_grows c.args.words.now before grown)

pub returns-in-Port-clause-same_name : goal.returns-in-Port-clause-same_name
returns-in-Port-clause-same_name c =
    let before = drafted c.args.atom.now in
    let grown = drafted c.add_port.new.self in
    same_name_after (port_row c.args.words.now before) before grown c.add_port.result c.add_port.ensures.added c.add_port.ensures.unchanged
    (port_grows c.args.words.now before grown)

pub returns-in-Transition-clause-same_name : goal.returns-in-Transition-clause-same_name
returns-in-Transition-clause-same_name c =
    let before = drafted c.args.atom.now in
    let grown = drafted c.add_transition.new.self in
    same_name_after (transition_row c.args.words.now before) before grown c.add_transition.result c.add_transition.ensures.added c.add_transition.ensures.unchanged
    (transition_grows c.args.words.now before grown)
