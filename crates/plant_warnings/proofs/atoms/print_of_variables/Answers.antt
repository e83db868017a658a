use Rattle.std.proofs.Common.{◌<◌, length, pos, [], subst}
use Rattle.std.specs.Prelude.{flat_map}
use Rattle.petri_atom.specs.Atom.{definition_of}
use Rattle.plant_model.specs.System.{plant_of}
use Rattle.text_io.specs.Numbered.{numbered}
use Rattle.plant_warnings.specs.Atoms.{variable_warnings}
use Rattle.plant_warnings.specs.Report.{line_in}
use Rattle.plant_warnings.proofs.Warned.{leads-warned_at}
use Rattle.plant_warnings.proofs.atoms.print_of_variables.Goals as goal

pub loop-variable-preserved : goal.loop-variable-preserved
loop-variable-preserved g c =
    let i = c.loop-variable.variable in
    let say = line_in c.args.report.now in
    let give = variable_warnings (plant_of c.args.report.now.system.now) c.args.number (definition_of c.args.atom.now) in
    let variables = (definition_of c.args.atom.now).variables in
    let within : i < length variables = subst (λ vs. i < length vs) c.variables-items.ensures c.loop-variable-test.true in
    leads-warned_at give say variables i (record { name = []; first = pos 0 })
    (g.W.Write.contents c.args.output.now) (g.W.Write.contents c.loop-variable.output) (g.W.Write.contents c.print_of_variable.new.output) (flat_map say (numbered give 0 variables))
    within c.loop-variable.invariant c.in_ok-print_of_variable.ensures
