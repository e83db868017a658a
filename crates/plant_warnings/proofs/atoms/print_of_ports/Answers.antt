use Rattle.std.proofs.Common.{◌<◌, length, [], sym, subst}
use Rattle.std.specs.Prelude.{flat_map}
use Rattle.std.proofs.lemmas.List.{length-map}
use Rattle.petri_atom.specs.Atom.{definition_of}
use Rattle.petri_atom.specs.Parts.{port_of}
use Rattle.plant_model.specs.System.{plant_of}
use Rattle.text_io.specs.Numbered.{numbered}
use Rattle.plant_warnings.specs.Atoms.{port_warnings}
use Rattle.plant_warnings.specs.Report.{line_in}
use Rattle.plant_warnings.proofs.Warned.{leads-warned_at}
use Rattle.plant_warnings.proofs.atoms.print_of_ports.Goals as goal

pub loop-port-preserved : goal.loop-port-preserved
loop-port-preserved g c =
    let i = c.loop-port.port in
    let say = line_in c.args.report.now in
    let give = port_warnings (plant_of c.args.report.now.system.now) c.args.number (definition_of c.args.atom.now) in
    let ports = (definition_of c.args.atom.now).ports in
    let within : i < length ports = subst (λ ps. i < length ps) c.ports-items.ensures (subst (λ n. i < n) (sym (length-map c.ports-items.result.now port_of)) c.loop-port-test.true) in
    leads-warned_at give say ports i (record { name = []; exports = [] })
    (g.W.Write.contents c.args.output.now) (g.W.Write.contents c.loop-port.output) (g.W.Write.contents c.print_of_port.new.output) (flat_map say (numbered give 0 ports))
    within c.loop-port.invariant c.in_ok-print_of_port.ensures
