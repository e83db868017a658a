-- The variables from this number on are left.
use Rattle.std.proofs.Common.{drop}
use Rattle.text_io.specs.Numbered.{numbered}
use Rattle.text_io.proofs.Leading.{Leads}
use Rattle.run_states.specs.Columns.{value_column}
use Rattle.run_states.proofs.columns.print_values.Given as goal

abbrev pub invariant-loop-number : goal.invariant-loop-number
invariant-loop-number g l =
    Leads (g.W.Write.contents l.initial.output) (g.W.Write.contents l.output)
    (numbered (value_column l.values) l.number (drop l.number l.variables))
    (numbered (value_column l.values) 0 l.variables)
