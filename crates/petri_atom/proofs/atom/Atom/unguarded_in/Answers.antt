use Rattle.std.proofs.Common.{arith}
use Rattle.petri_atom.specs.Atom.{definition_of}
use Rattle.petri_atom.specs.Groups.{passes_guard}
use Rattle.petri_atom.proofs.Fitting.{few_transitions}
use Rattle.petri_atom.proofs.Guards.{none-passes, unguarded-is}
use Rattle.petri_atom.proofs.atom.Atom.unguarded_in.Goals as goal

pub returns-then-set-eq0 : goal.returns-then-set-eq0
returns-then-set-eq0 c =
    none-passes (passes_guard (definition_of c.args.self.now).transitions c.args.state.now) c.args.set c.if-set-eq0.true

pub returns : goal.returns
returns c =
    let atom = c.args.self.now in
    let a = definition_of atom in
    unguarded-is a.transitions c.args.state.now 128 c.args.set c.bare_in.result atom.turned (few_transitions a atom.well_formed) (omega arith) c.bare_in.ensures atom.turned_bits
