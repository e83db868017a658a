-- The variables from this number on are left.
use Rattle.std.proofs.Common.{drop}
use Rattle.std.specs.Prelude.{flat_map}
use Rattle.petri_atom.specs.Atom.{definition_of}
use Rattle.plant_model.specs.System.{plant_of}
use Rattle.text_io.specs.Numbered.{numbered}
use Rattle.text_io.proofs.Leading.{Leads}
use Rattle.plant_warnings.specs.Atoms.{variable_warnings}
use Rattle.plant_warnings.specs.Report.{line_in}
use Rattle.plant_warnings.proofs.atoms.print_of_variables.Given as goal

abbrev pub invariant-loop-variable : goal.invariant-loop-variable
invariant-loop-variable g l =
    let give = variable_warnings (plant_of l.report.system.now) l.number (definition_of l.atom) in
    Leads (g.W.Write.contents l.initial.output) (g.W.Write.contents l.output)
    (flat_map (line_in l.report) (numbered give l.variable (drop l.variable (definition_of l.atom).variables)))
    (flat_map (line_in l.report) (numbered give 0 (definition_of l.atom).variables))
