-- The rules from this number on are left.
use Rattle.std.proofs.Common.{drop}
use Rattle.std.specs.Prelude.{flat_map}
use Rattle.plant_model.specs.System.{plant_of}
use Rattle.text_io.specs.Numbered.{numbered}
use Rattle.text_io.proofs.Leading.{Leads}
use Rattle.plant_warnings.specs.Report.{line_in}
use Rattle.plant_warnings.specs.Rules.{rule_warnings}
use Rattle.plant_warnings.proofs.rules.print_of_rules.Given as goal

abbrev pub invariant-loop-number : goal.invariant-loop-number
invariant-loop-number g l =
    Leads (g.W.Write.contents l.initial.output) (g.W.Write.contents l.output)
    (flat_map (line_in l.report) (numbered (rule_warnings (plant_of l.report.system.now)) l.number (drop l.number l.rules)))
    (flat_map (line_in l.report) (numbered (rule_warnings (plant_of l.report.system.now)) 0 l.rules))
