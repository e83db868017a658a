use Rattle.plant_words.specs.Numbers.{int_in}
use Rattle.plant_words.specs.declared.line_fault.LineFault.TheVariants.{BadNumber}
use Rattle.plant_words.proofs.Taken.{none_said, word_said}
use Rattle.atom_lines.proofs.reading.next_number.Goals as goal

pub returns-in_err-word-clause-number : goal.returns-in_err-word-clause-number
returns-in_err-word-clause-number c = none_said c.args.words.now int_in BadNumber c.from_residual.result c.in_err-word.field-0.0 c.from_residual.ensures.1 c.in_err-word.ensures.fault

pub returns-clause-number : goal.returns-clause-number
returns-clause-number c = word_said c.args.words.now int_in BadNumber c.ok_or.result c.in_ok-word.word.now c.read_int.result c.in_ok-word.ensures.word c.read_int.ensures c.ok_or.ensures.value
