use Rattle.std.proofs.Common.{arith}
use Rattle.petri_atom.specs.Atom.{definition_of}
use Rattle.petri_atom.proofs.Fitting.{few_transitions}
use Rattle.petri_atom.proofs.Grouping.{as_read}
use Rattle.petri_atom.proofs.Judging.{movable-is}
use Rattle.petri_atom.proofs.atom.Atom.movable_in.Goals as goal

pub returns : goal.returns
returns c =
    let atom = c.args.self.now in
    let state = c.args.state.now in
    let moves = as_read atom.groups.items c.deref.result.now state.marking c.places.result c.movable.result c.movable.ensures c.deref.ensures.value c.places.ensures in
    movable-is atom.groups.items (definition_of atom) state c.movable.result atom.grouped (few_transitions (definition_of atom) atom.well_formed) (omega (arith, c.places.ensures)) moves
