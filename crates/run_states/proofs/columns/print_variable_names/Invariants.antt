-- The variables from this one on are left.
use Rattle.std.proofs.Common.{drop}
use Rattle.std.specs.Prelude.{flat_map}
use Rattle.text_io.proofs.Leading.{Leads}
use Rattle.run_states.specs.Columns.{variable_name}
use Rattle.run_states.proofs.columns.print_variable_names.Given as goal

abbrev pub invariant-loop-variable : goal.invariant-loop-variable
invariant-loop-variable g l =
    Leads (g.W.Write.contents l.initial.output) (g.W.Write.contents l.output)
    (flat_map (variable_name l.atom) (drop l.variable-index l.variables))
    (flat_map (variable_name l.atom) l.variables)
