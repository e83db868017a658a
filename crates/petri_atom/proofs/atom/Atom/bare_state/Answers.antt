use Rattle.std.proofs.Common.{◌∙◌, ap, pos, length, replicate, take}
use Rattle.std.proofs.lemmas.List.{take-replicate}
use Rattle.petri_atom.specs.Atom.{definition_of}
use Rattle.petri_atom.proofs.Fitting.{few_variables}
use Rattle.petri_atom.proofs.atom.Atom.bare_state.Goals as goal

pub returns-clause-values : goal.returns-clause-values
returns-clause-values c =
    let atom = c.args.self.now in
    c.of.ensures.values ∙ ap (λ vs. take (length vs) (replicate 16 (pos 0))) c.variables.ensures ∙
    take-replicate (length atom.variables.items) 16 (pos 0) (few_variables (definition_of atom) atom.well_formed)
