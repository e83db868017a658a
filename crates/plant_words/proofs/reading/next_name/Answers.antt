use Rattle.plant_words.specs.Names.{name_in}
use Rattle.plant_words.specs.declared.line_fault.LineFault.TheVariants.{BadName}
use Rattle.plant_words.proofs.Taken.{none_said, word_said}
use Rattle.plant_words.proofs.reading.next_name.Goals as goal

pub returns-in_err-word-clause-name : goal.returns-in_err-word-clause-name
returns-in_err-word-clause-name c = none_said c.args.words.now name_in BadName c.from_residual.result c.in_err-word.field-0.0 c.from_residual.ensures.1 c.in_err-word.ensures.fault

pub returns-clause-name : goal.returns-clause-name
returns-clause-name c = word_said c.args.words.now name_in BadName c.ok_or.result c.in_ok-word.word.now c.read_name.result c.in_ok-word.ensures.word c.read_name.ensures c.ok_or.ensures.value
