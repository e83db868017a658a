use Rattle.std.proofs.Common.{ap, arith, codes, subst}
use Rattle.std.specs.Io.KnownBytes.{Appends}
use Rattle.text_io.proofs.Leading.{leads-element}
use Rattle.run_states.specs.Declarations.{signal_declaration, variable_declaration}
use Rattle.run_states.proofs.declarations.print_variables.Goals as goal

pub loop-number-preserved : goal.loop-number-preserved
loop-number-preserved g c =
    leads-element (variable_declaration c.args.atom) c.args.variables.now c.loop-number.number c.index-variables-number.result
    (g.W.Write.contents c.args.output.now) (g.W.Write.contents c.loop-number.output) (g.W.Write.contents c.print_signal.new.output) _
    (omega arith) c.index-variables-number.is c.loop-number.invariant (subst (Appends _ _) (ap (signal_declaration (codes "integer 64") (codes "v") c.args.atom c.loop-number.number) c.as_bytes.ensures) c.in_ok-print_signal.ensures)
