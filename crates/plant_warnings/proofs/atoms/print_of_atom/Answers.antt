use Rattle.plant_warnings.specs.Report.{line_in}
use Rattle.plant_warnings.specs.declared.warning.Warning.TheVariants.{NoMarkedPlace}
use Rattle.plant_warnings.proofs.Warned.{warned-if, warned-on, warned-end}
use Rattle.plant_warnings.proofs.atoms.print_of_atom.Goals as goal

pub returns : goal.returns
returns g c =
    let say = line_in c.args.report.now in
    let start = g.W.Write.contents c.args.output.now in
    let first = g.W.Write.contents c.print_if.new.output in
    let ports = g.W.Write.contents c.print_of_ports.new.output in
    let places = g.W.Write.contents c.print_of_places.new.output in
    let after = g.W.Write.contents c.print_of_variables.new.output in
    warned-end say c.print_of_variables.result start places after _ _
    (warned-on say start ports places _ _ (warned-on say start first ports _ _ (warned-if say start first c.has_no_marked_place.result _ (NoMarkedPlace c.args.number) c.has_no_marked_place.ensures c.in_ok-print_if.ensures) c.in_ok-print_of_ports.ensures) c.in_ok-print_of_places.ensures)
    c.print_of_variables.ensures
