use Rattle.std.proofs.Common.{sym, subst}
use Rattle.std.specs.Io.KnownBytes.{Appends}
use Rattle.std.proofs.KnownBytes.{Appends-trans}
use Rattle.blocked_text.specs.Report.{plant_in}
use Rattle.blocked_text.specs.Blocked.{blocked_lines}
use Rattle.blocked_text.proofs.Separating.{said-more}
use Rattle.blocked_text.proofs.report.Report.print_blocked.Goals as goal

pub loop-connector-preserved : goal.loop-connector-preserved
loop-connector-preserved g c =
    let say = blocked_lines (plant_in c.args.self.now) c.args.self.now.states.now c.args.self.now.lines.now in
    subst (Appends (g.W.Write.contents c.args.output.now) (g.W.Write.contents c.print_blocked_lines.new.output)) (sym (said-more say c.loop-connector.connector))
    (Appends-trans _ _ _ _ _ c.loop-connector.invariant c.in_ok-print_blocked_lines.ensures)
