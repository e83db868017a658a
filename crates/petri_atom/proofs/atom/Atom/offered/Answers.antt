use Rattle.std.proofs.Common.{arith, map}
use Rattle.petri_atom.specs.Atom.{definition_of}
use Rattle.petri_atom.specs.Transition.{transition_of}
use Rattle.petri_atom.proofs.Fitting.{few_transitions}
use Rattle.petri_atom.proofs.Grouping.{as_read, movable-there, offered-is}
use Rattle.petri_atom.proofs.atom.Atom.offered.Goals as goal

pub unguarded_in-passing-requires : goal.unguarded_in-passing-requires
unguarded_in-passing-requires c =
    let atom = c.args.self.now in
    let state = c.args.state.now in
    let moves = as_read atom.groups.items c.deref.result.now state.marking c.places.result c.movable-movable.result c.movable-movable.ensures c.deref.ensures.value c.places.ensures in
    λ n inside. movable-there atom.groups.items (map transition_of atom.transitions.items) state.marking c.movable-movable.result atom.grouped (omega (arith, c.places.ensures)) moves _ n inside

pub returns : goal.returns
returns c =
    let atom = c.args.self.now in
    let state = c.args.state.now in
    let moves = as_read atom.groups.items c.deref.result.now state.marking c.places.result c.movable-movable.result c.movable-movable.ensures c.deref.ensures.value c.places.ensures in
    offered-is atom.groups.items (map transition_of atom.transitions.items) state c.movable-movable.result atom.unguarded c.unguarded_in-passing.result atom.grouped (omega (arith, c.places.ensures)) (few_transitions (definition_of atom) atom.well_formed) moves atom.unguarded_bits c.unguarded_in-passing.ensures
