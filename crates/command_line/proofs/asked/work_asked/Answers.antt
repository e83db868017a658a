-- The words ask for the run that was read from them.
use Rattle.std.proofs.Common.{subst, sym}
use Rattle.command_line.specs.Asked.{IsTask}
use Rattle.command_line.proofs.asked.work_asked.Goals as goal

pub returns-in_ok-task-in-Trace : goal.returns-in_ok-task-in-Trace
returns-in_ok-task-in-Trace c =
    subst (λ command. IsTask command c.in_ok-task-in-Trace.task c.args.said.now) (sym c.in-Trace.is) c.in_ok-task-in-Trace.ensures
