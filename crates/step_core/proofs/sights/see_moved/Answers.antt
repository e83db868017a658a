use Rattle.std.proofs.Common.{◌∙◌, ap, sym}
use Rattle.petri_atom.specs.Local.{is_in}
use Rattle.step_core.proofs.sights.see_moved.Goals as goal

pub returns-then-not-has_conditions-clause-seen : goal.returns-then-not-has_conditions-clause-seen
returns-then-not-has_conditions-clause-seen g c = λ left right at there. absurd (c.has_conditions.ensures c.if-not-has_conditions.true left right at there)

pub see_again-requires-clause-others : goal.see_again-requires-clause-others
see_again-requires-clause-others g c = λ left right at there out. let a = c.atoms_of-atoms.ensures in c.requires.others left right at there (ap (λ atoms. is_in atoms at.atom) (sym a.atoms) ∙ out)
