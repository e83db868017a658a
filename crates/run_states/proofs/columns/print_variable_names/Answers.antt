use Rattle.std.proofs.Common.{arith}
use Rattle.run_states.specs.Columns.{variable_name}
use Rattle.run_text.proofs.Listing.{leads-item}
use Rattle.run_states.proofs.columns.print_variable_names.Goals as goal

pub loop-variable-preserved : goal.loop-variable-preserved
loop-variable-preserved g c =
    leads-item (variable_name c.args.atom.now) c.args.variables.now c.loop-variable.variable-index c.variable-item.result
    (g.W.Write.contents c.args.output.now) (g.W.Write.contents c.loop-variable.output) (g.W.Write.contents c.print_variable_name.new.output) _
    (omega arith) c.variable-item.is c.loop-variable.invariant c.in_ok-print_variable_name.ensures
