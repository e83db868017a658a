use Rattle.std.proofs.Common.{◌≤◌, arith, map, length}
use Rattle.petri_atom.specs.Transition.{transition_of}
use Rattle.petri_atom.proofs.PortSets.{set_of_port-none}
use Rattle.petri_atom.proofs.Fitting.{known_ports_of}
use Rattle.petri_atom.proofs.atom.Atom.mask_of.Goals as goal

pub returns-else-from-len : goal.returns-else-from-len
returns-else-from-len c =
    let atom = c.args.self.now in
    let past : length atom.ports.items ≤ c.args.port = omega (arith, c.if-from-len.false, c.from.ensures, c.len.ensures, atom.ports.ok.0) in
    set_of_port-none (length atom.ports.items) c.args.port (map transition_of atom.transitions.items) (known_ports_of atom) past
