-- The interactions from this number on are left.
use Rattle.std.proofs.Common.{drop}
use Rattle.plant_model.specs.Choice.{plant_interactions}
use Rattle.text_io.specs.Numbered.{numbered}
use Rattle.text_io.proofs.Leading.{Leads}
use Rattle.blocked_text.specs.Report.{plant_in}
use Rattle.blocked_text.specs.Blocked.{line_of, lines_of}
use Rattle.blocked_text.proofs.report.Report.print_lines.Given as goal

abbrev pub invariant-loop-number : goal.invariant-loop-number
invariant-loop-number g l =
    Leads (g.W.Write.contents l.initial.output) (g.W.Write.contents l.output)
    (numbered (line_of (plant_in l.self) l.self.states.now (plant_interactions (plant_in l.self)) l.self.lines.now l.connector) l.number (drop l.number (plant_interactions (plant_in l.self))))
    (lines_of (plant_in l.self) l.self.states.now l.self.lines.now l.connector)
