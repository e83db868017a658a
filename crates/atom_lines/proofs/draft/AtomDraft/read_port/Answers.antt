use Rattle.plant_words.specs.declared.line_fault.LineFault.TheVariants.{UnknownName}
use Rattle.atom_lines.specs.Draft.{drafted}
use Rattle.atom_lines.specs.Lookup.{port_number}
use Rattle.plant_words.proofs.Taken.{none_said, word_said}
use Rattle.atom_lines.proofs.draft.AtomDraft.read_port.Goals as goal

pub returns-in_err-word-clause-port : goal.returns-in_err-word-clause-port
returns-in_err-word-clause-port c = none_said c.args.words.now (port_number (drafted c.args.self.now)) UnknownName c.from_residual.result c.in_err-word.field-0.0 c.from_residual.ensures.1 c.in_err-word.ensures.fault

pub returns-clause-port : goal.returns-clause-port
returns-clause-port c = word_said c.args.words.now (port_number (drafted c.args.self.now)) UnknownName c.ok_or.result c.in_ok-word.word.now c.find_port.result c.in_ok-word.ensures.word c.find_port.ensures c.ok_or.ensures.value
