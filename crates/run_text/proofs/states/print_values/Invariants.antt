-- The variables from this number on are left.
use Rattle.std.proofs.Common.{drop}
use Rattle.text_io.specs.Numbered.{numbered}
use Rattle.text_io.proofs.Leading.{Leads}
use Rattle.run_text.specs.Line.{value_word, value_words}
use Rattle.run_text.specs.Word.{between_text, separated_after}
use Rattle.run_text.proofs.states.print_values.Given as goal

abbrev pub invariant-loop-number : goal.invariant-loop-number
invariant-loop-number g l =
    Leads (g.W.Write.contents l.initial.output) (g.W.Write.contents l.output)
    (separated_after l.between (between_text l.format) (numbered (value_word l.format l.values) l.number (drop l.number l.variables)))
    (separated_after l.before (between_text l.format) (value_words l.format l.values l.variables))
