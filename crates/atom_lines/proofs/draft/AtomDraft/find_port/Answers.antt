use Rattle.std.proofs.Common.{◌∙◌, sym}
use Rattle.atom_lines.proofs.Named.{number_of_port}
use Rattle.atom_lines.proofs.draft.AtomDraft.find_port.Goals as goal

pub returns-in_err-find : goal.returns-in_err-find
returns-in_err-find c = c.from_residual.ensures ∙ sym (c.in_err-find.was) ∙ c.find.ensures.first ∙ number_of_port c.args.self.now c.args.name.now

pub returns : goal.returns
returns c = sym (c.in_ok-find.was) ∙ c.find.ensures.first ∙ number_of_port c.args.self.now c.args.name.now
