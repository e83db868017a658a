use Rattle.std.proofs.Common.{sym, subst}
use Rattle.petri_atom.specs.Atom.{definition_of}
use Rattle.petri_atom.specs.Definition.{Fits}
use Rattle.petri_atom.proofs.Fitting.{fired-fits}
use Rattle.petri_atom.proofs.atom.Atom.apply.Goals as goal

pub returns-clause-fits : goal.returns-clause-fits
returns-clause-fits c =
    let atom = c.args.self.now in
    λ fits. subst (Fits (definition_of atom)) (sym c.fire.ensures)
    (fired-fits (definition_of atom) c.args.transition c.args.delivered.now c.args.state.now atom.well_formed fits)
