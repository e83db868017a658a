use Rattle.std.proofs.Common.{◌∙◌, sym}
use Rattle.atom_lines.proofs.Named.{number_of_place}
use Rattle.atom_lines.proofs.draft.AtomDraft.find_place.Goals as goal

pub returns-in_err-find-clause-number : goal.returns-in_err-find-clause-number
returns-in_err-find-clause-number c = c.from_residual.ensures ∙ sym (c.in_err-find.was) ∙ c.find.ensures.first ∙ number_of_place c.args.self.now c.args.name.now

pub returns-clause-number : goal.returns-clause-number
returns-clause-number c = sym (c.in_ok-find.was) ∙ c.find.ensures.first ∙ number_of_place c.args.self.now c.args.name.now
