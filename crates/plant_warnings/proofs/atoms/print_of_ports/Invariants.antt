-- The ports from this number on are left.
use Rattle.std.proofs.Common.{drop}
use Rattle.std.specs.Prelude.{flat_map}
use Rattle.petri_atom.specs.Atom.{definition_of}
use Rattle.plant_model.specs.System.{plant_of}
use Rattle.text_io.specs.Numbered.{numbered}
use Rattle.text_io.proofs.Leading.{Leads}
use Rattle.plant_warnings.specs.Atoms.{port_warnings}
use Rattle.plant_warnings.specs.Report.{line_in}
use Rattle.plant_warnings.proofs.atoms.print_of_ports.Given as goal

abbrev pub invariant-loop-port : goal.invariant-loop-port
invariant-loop-port g l =
    let give = port_warnings (plant_of l.report.system.now) l.number (definition_of l.atom) in
    Leads (g.W.Write.contents l.initial.output) (g.W.Write.contents l.output)
    (flat_map (line_in l.report) (numbered give l.port (drop l.port (definition_of l.atom).ports)))
    (flat_map (line_in l.report) (numbered give 0 (definition_of l.atom).ports))
