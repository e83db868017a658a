-- The writer took the lines of each connector so far.
use Rattle.std.specs.Prelude.{flat_map}
use Rattle.std.specs.Io.KnownBytes.{Appends}
use Rattle.std.specs.List.{range_with_len}
use Rattle.blocked_text.specs.Report.{plant_in}
use Rattle.blocked_text.specs.Blocked.{blocked_lines}
use Rattle.blocked_text.proofs.report.Report.print_blocked.Given as goal

abbrev pub invariant-loop-connector : goal.invariant-loop-connector
invariant-loop-connector g l =
    Appends (g.W.Write.contents l.initial.output) (g.W.Write.contents l.output)
    (flat_map (blocked_lines (plant_in l.self) l.self.states.now l.self.lines.now) (range_with_len 0 l.connector))
