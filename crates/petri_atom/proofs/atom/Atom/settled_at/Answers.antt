use Rattle.std.proofs.Common.{◌∙◌, sym, arith}
use Rattle.std.proofs.lemmas.Option.{same_Some}
use Rattle.petri_atom.specs.Atom.{definition_of}
use Rattle.petri_atom.proofs.Fitting.{few_transitions}
use Rattle.petri_atom.proofs.Grouping.{as_read}
use Rattle.petri_atom.proofs.Judging.{movable-is}
use Rattle.petri_atom.proofs.Settling.{settled}
use Rattle.petri_atom.proofs.atom.Atom.settled_at.Goals as goal

pub returns-then-movable-self-eq0-clause-movable : goal.returns-then-movable-self-eq0-clause-movable
returns-then-movable-self-eq0-clause-movable c set is state marked =
    let atom = c.args.self.now in
    let a = definition_of atom in
    let movable = c.movable-movable.result in
    let moves = as_read atom.groups.items c.deref.result.now state.marking c.args.places movable c.movable-movable.ensures c.deref.ensures.value (sym marked) in
    sym (movable-is atom.groups.items a state movable atom.grouped (few_transitions a atom.well_formed) (omega (arith, marked)) moves) ∙
    sym c.of.ensures ∙ same_Some c.of.result set is

pub returns-then-movable-self-eq0-clause-offered : goal.returns-then-movable-self-eq0-clause-offered
returns-then-movable-self-eq0-clause-offered c set is state marked =
    let atom = c.args.self.now in
    let a = definition_of atom in
    let movable = c.movable-movable.result in
    let few = few_transitions a atom.well_formed in
    let moves = as_read atom.groups.items c.deref.result.now state.marking c.args.places movable c.movable-movable.ensures c.deref.ensures.value (sym marked) in
    settled a few state movable atom.unguarded (omega arith) (movable-is atom.groups.items a state movable atom.grouped few (omega (arith, marked)) moves) atom.unguarded_bits c.if-movable-self-eq0.true ∙
    sym c.of.ensures ∙ same_Some c.of.result set is
