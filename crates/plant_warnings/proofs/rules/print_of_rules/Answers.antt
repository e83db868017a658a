use Rattle.std.proofs.Common.{arith}
use Rattle.plant_model.specs.System.{plant_of}
use Rattle.plant_warnings.specs.Report.{line_in}
use Rattle.plant_warnings.specs.Rules.{rule_warnings}
use Rattle.plant_warnings.proofs.Warned.{leads-warned_at}
use Rattle.plant_warnings.proofs.rules.print_of_rules.Goals as goal

pub loop-number-preserved : goal.loop-number-preserved
loop-number-preserved g c =
    leads-warned_at (rule_warnings (plant_of c.args.report.now.system.now)) (line_in c.args.report.now) c.args.rules.now c.loop-number.number _
    (g.W.Write.contents c.args.output.now) (g.W.Write.contents c.loop-number.output) (g.W.Write.contents c.print_of_rule.new.output) _
    (omega arith) c.loop-number.invariant c.in_ok-print_of_rule.ensures
