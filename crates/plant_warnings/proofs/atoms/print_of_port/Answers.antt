use Rattle.plant_warnings.specs.Report.{line_in}
use Rattle.plant_warnings.specs.declared.warning.Warning.TheVariants.{PortInNoConnector, PortWithoutTransition}
use Rattle.plant_warnings.proofs.Warned.{warned-if, warned-if_last, warned-end}
use Rattle.plant_warnings.proofs.atoms.print_of_port.Goals as goal

pub returns : goal.returns
returns g c =
    let say = line_in c.args.report.now in
    let start = g.W.Write.contents c.args.output.now in
    let now = g.W.Write.contents c.print_if.new.output in
    let after = g.W.Write.contents c.print_if-2.new.output in
    warned-end say c.print_if-2.result start now after _ _
    (warned-if say start now c.is_in_no_connector.result _ (PortInNoConnector c.args.number c.args.port) c.is_in_no_connector.ensures c.in_ok-print_if.ensures)
    (warned-if_last say c.print_if-2.result now after c.has_no_transition.result _ (PortWithoutTransition c.args.number c.args.port) c.has_no_transition.ensures c.print_if-2.ensures)
