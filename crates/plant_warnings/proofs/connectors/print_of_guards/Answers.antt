use Rattle.std.proofs.Common.{arith}
use Rattle.petri_atom.specs.Expression.{tree_of}
use Rattle.plant_warnings.specs.Connectors.{guard_warnings}
use Rattle.plant_warnings.specs.Report.{line_in}
use Rattle.plant_warnings.proofs.Warned.{leads-warned_as}
use Rattle.plant_warnings.proofs.connectors.print_of_guards.Goals as goal

pub loop-guard-preserved : goal.loop-guard-preserved
loop-guard-preserved g c =
    leads-warned_as tree_of (guard_warnings c.args.number) (line_in c.args.report.now) c.args.guards.now c.loop-guard.guard c.index-guards-guard.result
    (g.W.Write.contents c.args.output.now) (g.W.Write.contents c.loop-guard.output) (g.W.Write.contents c.print_of_guard.new.output) _
    (omega arith) c.index-guards-guard.is c.loop-guard.invariant c.in_ok-print_of_guard.ensures
