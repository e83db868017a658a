use Rattle.std.proofs.Common.{arith}
use Rattle.text_io.proofs.Leading.{leads-element}
use Rattle.plant_drawing.specs.Atom.{variable_text}
use Rattle.plant_drawing.proofs.atom.print_variables.Goals as goal

pub loop-number-preserved : goal.loop-number-preserved
loop-number-preserved g c =
    leads-element (variable_text c.args.values.now) c.args.variables.now c.loop-number.number c.index-variables-number.result
    (g.W.Write.contents c.args.output.now) (g.W.Write.contents c.loop-number.output) (g.W.Write.contents c.print_variable.new.output) _
    (omega arith) c.index-variables-number.is c.loop-number.invariant c.in_ok-print_variable.ensures
