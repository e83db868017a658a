use Rattle.std.proofs.Common.{arith, subst, map}
use Rattle.std.specs.Prelude.{flat_map}
use Rattle.std.specs.Io.KnownBytes.{Appends}
use Rattle.petri_atom.specs.Expression.{tree_of}
use Rattle.text_io.specs.Numbered.{numbered}
use Rattle.plant_model.specs.Wire.{wire_of}
use Rattle.plant_warnings.specs.Connectors.{connector_warnings, guard_warnings}
use Rattle.plant_warnings.specs.Report.{line_in}
use Rattle.plant_warnings.proofs.Warned.{leads-warned_as}
use Rattle.plant_warnings.proofs.connectors.print_of_wires.Goals as goal

pub loop-number-preserved : goal.loop-number-preserved
loop-number-preserved g c =
    leads-warned_as wire_of connector_warnings (line_in c.args.report.now) c.args.wires.now c.loop-number.number c.index-wires-number.result
    (g.W.Write.contents c.args.output.now) (g.W.Write.contents c.loop-number.output) (g.W.Write.contents c.print_of_guards.new.output) _
    (omega arith) c.index-wires-number.is c.loop-number.invariant
    (subst (λ guards. Appends (g.W.Write.contents c.loop-number.output) (g.W.Write.contents c.print_of_guards.new.output) (flat_map (line_in c.args.report.now) (numbered (guard_warnings c.loop-number.number) 0 (map tree_of guards)))) c.deref.ensures.value c.in_ok-print_of_guards.ensures)
